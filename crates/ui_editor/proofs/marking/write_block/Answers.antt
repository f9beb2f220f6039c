-- Where no row is left nothing is marked.
use Rattle.std.proofs.Common.{ℕ, List, sym, ap, ◌∙◌}
use Rattle.std.proofs.lemmas.List.{nil_from_length}
use Rattle.ui_editor.specs.EditorFrames.{with_block}
use Rattle.ui_editor.proofs.TextSizes.{no_rows}
use Rattle.ui_editor.proofs.marking.write_block.Goals as goal

pub returns-in_default : goal.returns-in_default
returns-in_default c =
    let at = c.loop-text in
    let none = nil_from_length _ c.in_default.ensures.cases in
    sym (no_rows at.row at.marked.now at.grid)
    ∙ ap (λ (rows : List (List ℕ)). with_block at.row rows at.marked.now at.grid) (sym none)
    ∙ at.invariant.1

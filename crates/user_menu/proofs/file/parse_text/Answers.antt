use Rattle.std.proofs.Common.{◌≡◌, [], ap, ◌∙◌, sym}
use Rattle.user_menu.specs.MenuFiles.{readings}
use Rattle.user_menu.specs.Drafts.{continued_entries}
use Rattle.user_menu.proofs.DraftLemmas.{continued-ended}
use Rattle.user_menu.proofs.file.parse_text.Goals as goal

pub returns-clause-entries : goal.returns-clause-entries
returns-clause-entries c =
    let nothing : c.loop-line.rest.now ≡ [] = c.in_default.ensures.first in
    c.of.ensures
    ∙ sym (continued-ended c.loop-line.draft)
    ∙ ap (λ rest. continued_entries c.loop-line.draft (readings c.loop-line.kind rest)) (sym nothing)
    ∙ c.loop-line.invariant.said

-- Valid UTF-8 has clusters alone, and another line bytes alone.
use Rattle.std.proofs.Common.{◌∙◌, ◌++◌, true, sym, ap, append-nil}
use Rattle.unicode_segmentation.specs.Grapheme.{graphemes}
use Rattle.mc_edit.specs.Units.{single_bytes}
use Rattle.mc_edit.proofs.UnitLemmas.{units-text, units-bytes, graphemes-empty}
use Rattle.mc_edit.proofs.units.units_of.Goals as goal

pub returns-in-Ok : goal.returns-in-Ok
returns-in-Ok c =
    append-nil _ ∙ c.graphemes.ensures.left ∙ ap (graphemes true) c.in-Ok.ensures.cases.0
    ∙ sym (units-text c.args.line.now c.in-Ok.ensures.cases.1)

pub returns-in-Err : goal.returns-in-Err
returns-in-Err c =
    ap (λ clusters. clusters ++ single_bytes c.args.line.now) (c.graphemes-in-Err.ensures.left ∙ graphemes-empty)
    ∙ sym (units-bytes c.args.line.now c.in-Err.ensures.cases.0)

-- A move and a replacement splice.
use Rattle.std.proofs.Common.{◌-◌, ap, ◌∙◌}
use Rattle.gap_text.specs.PointedText.{PointedText, inserted_text, deleted_text}
use Rattle.mc_edit.proofs.SpliceLemmas.{replaced-spliced}
use Rattle.mc_edit.proofs.changes.put.Goals as goal

pub returns-clause-done : goal.returns-clause-done
returns-clause-done c =
    let count = c.args.to - c.args.from in
    ap (λ (text : PointedText). text.bytes)
    (c.in_ok-replace.ensures.done
    ∙ ap (λ (text : PointedText). inserted_text (deleted_text text count) c.args.new.now) c.move_to.ensures)
    ∙ replaced-spliced c.args.text.now.bytes c.args.from c.args.to c.requires.ordered c.requires.within c.args.new.now c.args.text.now.point

-- The bytes before the new point move down to the start of the gap.
use Rattle.std.proofs.Common.{◌≡◌, ◌+◌, ◌-◌, length, arith, refl, sym, ap, ◌∙◌}
use Rattle.gap_text.specs.PointedText.{PointedText}
use Rattle.gap_text.proofs.GapLemmas.{same_text, moved_on-around, length-text_around}
use Rattle.gap_text.proofs.gap.GapBuffer.move_on.Goals as goal

pub returns : goal.returns
returns c =
    let room = c.self.inside.room.items in
    let start = c.self.inside.gap_start in
    let end = c.self.inside.gap_end in
    let point_is : start ≡ c.args.self.now.point = ap (λ (text : PointedText). text.point) c.self.view_is in
    let bytes_are = ap (λ (text : PointedText). length text.bytes) c.self.view_is in
    let length_is = sym (length-text_around room start end (omega arith)) ∙ bytes_are in
    let around = moved_on-around room _ start end c.args.at (end + (c.args.at - start)) _ c.copy_within.ensures.items in
    rw (← c.self.view_is) (same_text (around (omega arith) (omega arith) (omega arith) (omega arith)) refl)

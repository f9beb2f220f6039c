-- The bytes behind the new point move up to the end of the gap.
use Rattle.std.proofs.Common.{◌≡◌, arith, refl, ap}
use Rattle.gap_text.specs.PointedText.{PointedText}
use Rattle.gap_text.proofs.GapLemmas.{same_text, moved_back-around}
use Rattle.gap_text.proofs.gap.GapBuffer.move_back.Goals as goal

pub returns : goal.returns
returns c =
    let room = c.self.inside.room.items in
    let start = c.self.inside.gap_start in
    let point_is : start ≡ c.args.self.now.point = ap (λ (text : PointedText). text.point) c.self.view_is in
    let around = moved_back-around room _ start c.self.inside.gap_end c.args.at _ _ c.copy_within.ensures.items in
    rw (← c.self.view_is) (same_text (around (omega arith) (omega arith) (omega arith) (omega arith)) refl)

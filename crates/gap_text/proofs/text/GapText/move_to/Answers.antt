-- The blocks that the point doesn't pass stay on their side.
use Rattle.std.proofs.Common.{◌≤◌, length, ap, arith}
use Rattle.gap_text.specs.PointedText.{PointedText}
use Rattle.gap_text.proofs.KeptCountLemmas.{front-moved, back-moved}
use Rattle.gap_text.proofs.text.GapText.move_to.Goals as goal

pub invariant_of-self : goal.invariant_of-self
invariant_of-self c =
    let text = c.self.inside.buffer in
    let at = c.args.at in
    let inside : at ≤ length text.bytes =
    omega (arith, c.requires, ap (λ (t : PointedText). length t.bytes) c.self.view_is) in
    rw (c.move_to.ensures, c.truncate.ensures.items, c.truncate-2.ensures.items) (
      front-moved c.self.inside.before.items text.bytes text.point at _ inside
          (omega (arith, c.min.ensures, c.point-point.ensures.value)) (omega (arith, c.min.ensures)) c.self.invariant.0,
      back-moved c.self.inside.behind.items text.bytes text.point at _ (omega (arith, c.point-point.ensures)) inside
          (omega (arith, c.max.ensures, c.len.ensures.value, c.point-point.ensures.value))
          (omega (arith, c.max.ensures, c.len.ensures.value)) c.self.invariant.1,
    )

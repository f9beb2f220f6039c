-- The blocks behind what gives way stay, and the half before the point becomes longer.
use Rattle.std.proofs.Common.{◌+◌, ◌-◌, ◌*◌, ◌/◌, ◌≤◌, length, take, drop, ap, arith, length-drop, length-append, length-take-le}
use Rattle.gap_text.specs.PointedText.{PointedText, deleted_text}
use Rattle.gap_text.proofs.KeptCountLemmas.{counts-inserted, counts-deleted, back-moved}
use Rattle.gap_text.proofs.text.GapText.replace.Goals as goal

pub invariant_of-self : goal.invariant_of-self
invariant_of-self c =
    let text = c.self.inside.buffer in
    let count = c.args.count in
    let within : text.point + count ≤ length text.bytes =
    omega (arith, c.requires, ap (λ (t : PointedText). t.point) c.self.view_is, ap (λ (t : PointedText). length t.bytes) c.self.view_is) in
    let few : 65536 * ((length c.back.result.now - count) / 65536) ≤ length text.bytes - text.point =
    omega (arith, ap length c.back.ensures, length-drop text.point text.bytes) in
    let inside : text.point ≤ length text.bytes = omega (arith, within) in
    rw (c.in_err-replace.ensures.refused, c.truncate.ensures.items) (
      c.self.invariant.0,
      back-moved c.self.inside.behind.items text.bytes text.point text.point _ inside inside few few c.self.invariant.1,
    )

pub invariant_of-self-2 : goal.invariant_of-self-2
invariant_of-self-2 c =
    let text = c.self.inside.buffer in
    let count = c.args.count in
    let within : text.point + count ≤ length text.bytes =
    omega (arith, c.requires, ap (λ (t : PointedText). t.point) c.self.view_is, ap (λ (t : PointedText). length t.bytes) c.self.view_is) in
    let few : 65536 * ((length c.back.result.now - count) / 65536) ≤ length text.bytes - text.point - count =
    omega (arith, ap length c.back.ensures, length-drop text.point text.bytes) in
    let point_in : text.point ≤ length (deleted_text text count).bytes =
    omega (
      arith,
      within,
      length-append (take text.point text.bytes) (drop (text.point + count) text.bytes),
      length-take-le text.point text.bytes (omega (arith, within)),
    ) in
    let left = counts-deleted c.self.inside.before.items c.self.inside.behind.items text count _ within few c.self.invariant.0 c.self.invariant.1 in
    rw (c.in_ok-replace.ensures.done, c.truncate.ensures.items)
    (counts-inserted c.self.inside.before.items _ c.args.bytes.now (deleted_text text count) point_in left.0 left.1)

-- What stands before the point stays, and so do the blocks behind what is taken out.
use Rattle.std.proofs.Common.{◌+◌, ◌-◌, ◌*◌, ◌/◌, ◌≤◌, length, ap, arith, length-drop}
use Rattle.gap_text.specs.PointedText.{PointedText}
use Rattle.gap_text.proofs.KeptCountLemmas.{counts-deleted}
use Rattle.gap_text.proofs.text.GapText.delete.Goals as goal

pub invariant_of-self : goal.invariant_of-self
invariant_of-self c =
    let text = c.self.inside.buffer in
    let count = c.args.count in
    let within : text.point + count ≤ length text.bytes =
    omega (arith, c.requires, ap (λ (t : PointedText). t.point) c.self.view_is, ap (λ (t : PointedText). length t.bytes) c.self.view_is) in
    let few : 65536 * ((length c.back.result.now - count) / 65536) ≤ length text.bytes - text.point - count =
    omega (arith, ap length c.back.ensures, length-drop text.point text.bytes) in
    rw (c.delete.ensures, c.truncate.ensures.items)
    (counts-deleted c.self.inside.before.items c.self.inside.behind.items text count _ within few c.self.invariant.0 c.self.invariant.1)

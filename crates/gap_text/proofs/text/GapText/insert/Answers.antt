-- Bytes put before the point make the half before it longer.
use Rattle.std.proofs.Common.{arith}
use Rattle.gap_text.proofs.KeptCountLemmas.{counts-inserted}
use Rattle.gap_text.proofs.text.GapText.insert.Goals as goal

pub invariant_of-self : goal.invariant_of-self
invariant_of-self c = rw c.in_err-insert.ensures.refused c.self.invariant

pub invariant_of-self-2 : goal.invariant_of-self-2
invariant_of-self-2 c =
    rw c.in_ok-insert.ensures.done
    (counts-inserted c.self.inside.before.items c.self.inside.behind.items c.args.bytes.now c.self.inside.buffer
    (omega (arith, c.point-point.ensures)) c.self.invariant.0 c.self.invariant.1)

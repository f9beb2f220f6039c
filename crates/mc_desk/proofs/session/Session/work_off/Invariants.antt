-- The session is closed, with the same keys; its job comes nearer to its end.
use Rattle.std.proofs.Common.{◌≡◌, true}
use Rattle.mc_desk.specs.Desks.{rank_of}
use Rattle.mc_desk.specs.KeysAndFaults.{keys_in}
use Rattle.mc_desk.proofs.session.Session.work_off.Given as goal

abbrev pub invariant-loop-alloc : goal.invariant-loop-alloc
invariant-loop-alloc g l = (l.self.tally.closed ≡ true) × (keys_in l.self.newest ≡ keys_in l.fn.self.newest) × (l.self.quit ≡ l.fn.self.quit) × (l.self.out ≡ l.fn.self.out)

abbrev pub decreases-loop-alloc : goal.decreases-loop-alloc
decreases-loop-alloc g l = rank_of l.self

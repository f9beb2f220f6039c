-- The job comes nearer to its end; the keys and what is to be looked at stay.
use Rattle.std.proofs.Common.{◌≡◌}
use Rattle.mc_desk.specs.Desks.{KeepsKeys, is_over, rank_of}
use Rattle.mc_main.proofs.session.work_due.Given as goal

abbrev pub invariant-loop-desk : goal.invariant-loop-desk
invariant-loop-desk g l =
    KeepsKeys l.fn.desk l.desk × (is_over l.desk ≡ is_over l.fn.desk) × (l.desk.tally.due ≡ l.fn.desk.tally.due)

abbrev pub decreases-loop-desk : goal.decreases-loop-desk
decreases-loop-desk g l = rank_of l.desk

-- The search comes nearer to its end; the keys and what is to be looked at stay, and of the source nothing is taken.
use Rattle.std.proofs.Common.{◌≡◌, None}
use Rattle.mc_desk.specs.Desks.{KeepsKeys, is_over}
use Rattle.mc_desk.specs.Searches.{KeepsSource, steps_ahead}
use Rattle.mc_main.proofs.session.seek_to_end.Given as goal

abbrev pub invariant-loop-alloc : goal.invariant-loop-alloc
invariant-loop-alloc g l =
    KeepsKeys l.fn.desk l.desk × (is_over l.desk ≡ is_over l.fn.desk) × (l.desk.tally.due ≡ None)
    × KeepsSource (g.K.Source.left l.fn.keys) (g.K.Source.left l.keys) (g.K.Source.fault_count l.fn.keys) (g.K.Source.fault_count l.keys)

abbrev pub decreases-loop-alloc : goal.decreases-loop-alloc
decreases-loop-alloc g l = steps_ahead l.desk.screen

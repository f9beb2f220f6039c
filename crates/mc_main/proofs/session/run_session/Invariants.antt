-- The session goes on, the keyboard has left what it didn't take, and its count of faults doesn't fall.
use Rattle.std.proofs.Common.{◌≡◌, ◌≤◌, false}
use Rattle.mc_desk.specs.Desks.{is_over}
use Rattle.mc_main.specs.KeysRead.{left_of}
use Rattle.mc_main.proofs.session.run_session.Given as goal

abbrev pub invariant-loop : goal.invariant-loop
invariant-loop g l = record {
  goes_on : is_over l.desk ≡ false;
  left : g.K.Source.left l.keys ≡ left_of g.N.Tag.stream l.desk.taken;
  later : g.K.Source.fault_count l.fn.keys ≤ g.K.Source.fault_count l.keys;
}

-- The type names the folders of the words with the size of the screen, and what the devices tell at the call.
use Rattle.std.proofs.Common.{Some}
use Rattle.mc_main.specs.Beginnings.{start_in}
use Rattle.gate_sessions.proofs.running.run_told.Given as goal

abbrev pub ghosts-mc_run : goal.ghosts-mc_run
ghosts-mc_run a = record {
  start = start_in a.env.now a.words.now;
  opening = Some a.tree.log;
  stream = Some a.keys.now.left;
  given = Some a.screen.given;
  runs = Some a.spawner.ran;
  tree_faults = a.tree.faults;
  source_faults = a.keys.now.faults;
  sink_faults = a.screen.faults;
  spawner_faults = a.spawner.faults;
}

-- The type names the folders of the words with the size of the screen, and how often the devices have failed; they tell nothing else.
use Rattle.std.proofs.Common.{None}
use Rattle.mc_main.specs.Beginnings.{start_in}
use Rattle.gate_sessions.proofs.running.run_mute.Given as goal

abbrev pub ghosts-mc_run : goal.ghosts-mc_run
ghosts-mc_run a = record {
  start = start_in a.env.now a.words.now;
  opening = None;
  stream = None;
  given = None;
  runs = None;
  tree_faults = a.tree.inner.faults;
  source_faults = a.keys.now.inner.faults;
  sink_faults = a.screen.inner.faults;
  spawner_faults = a.spawner.inner.faults;
}

-- The type names the folders of the words with the size of the screen; the real devices tell nothing, and have not failed yet.
use Rattle.std.proofs.Common.{None}
use Rattle.mc_main.specs.Beginnings.{start_in}
use Rattle.mc.proofs.run.Given as goal

abbrev pub ghosts-mc_run : goal.ghosts-mc_run
ghosts-mc_run a = record {
  start = start_in a.env.now a.words.now;
  opening = None;
  stream = None;
  given = None;
  runs = None;
  tree_faults = 0;
  source_faults = 0;
  sink_faults = 0;
  spawner_faults = 0;
}

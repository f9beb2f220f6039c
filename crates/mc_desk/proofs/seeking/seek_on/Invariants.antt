-- So many steps were made, each from where the one before it left the screen.
use Rattle.std.proofs.Common.{◌≡◌, ◌≤◌, ◌<◌, ◌-◌, false, None}
use Rattle.mc_ui.specs.Screens.{HasSameSize}
use Rattle.mc_desk.specs.Searches.{KeepsSource, SeeksOn, steps_ahead}
use Rattle.mc_desk.proofs.seeking.seek_on.Given as goal

abbrev pub invariant-loop-ui : goal.invariant-loop-ui
invariant-loop-ui g l = record {
  made : SeeksOn false l.steps (g.T.ReadTree.contents l.fn.tree) (g.T.ReadTree.fault_count l.fn.tree) (g.T.ReadTree.fault_count l.tree) l.fn.ui l.ui;
  most : l.steps ≤ 50000;
  settled : l.ui.planned ≡ None;
  size : HasSameSize l.fn.ui l.ui;
  same : g.T.ReadTree.contents l.tree ≡ g.T.ReadTree.contents l.fn.tree;
  later : g.T.ReadTree.fault_count l.fn.tree ≤ g.T.ReadTree.fault_count l.tree;
  source : KeepsSource (g.K.Source.left l.fn.keys) (g.K.Source.left l.keys) (g.K.Source.fault_count l.fn.keys) (g.K.Source.fault_count l.keys);
  none : l.steps ≡ 0 → l.ui ≡ l.fn.ui;
  nearer : 1 ≤ l.steps → steps_ahead l.ui < steps_ahead l.fn.ui;
}

abbrev pub decreases-loop-ui : goal.decreases-loop-ui
decreases-loop-ui g l = 50000 - l.steps

-- It is on its way down, and nothing was changed; there are fewer things with each folder that it goes into.
use Rattle.std.proofs.Common.{◌≡◌, ◌≤◌}
use Rattle.delete_job.specs.Standing.{rank_at}
use Rattle.delete_job.proofs.OnWay.{IsOnWay}
use Rattle.delete_job.proofs.deletion.Deletion.work.Given as goal

abbrev pub invariant-loop-stepped : goal.invariant-loop-stepped
invariant-loop-stepped g l = record {
  way : IsOnWay (g.T.ReadTree.contents l.fn.tree) l.fn.self l.self;
  same : g.T.ReadTree.contents l.tree ≡ g.T.ReadTree.contents l.fn.tree;
  later : g.T.ReadTree.fault_count l.fn.tree ≤ g.T.ReadTree.fault_count l.tree;
  folders : l.dirty ≡ l.fn.dirty;
}

abbrev pub decreases-loop-stepped : goal.decreases-loop-stepped
decreases-loop-stepped g l = rank_at l.self.depth l.self.walk.place

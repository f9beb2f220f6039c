-- The sources that were looked at are there; the tree holds what it held, and its count of faults doesn't fall.
use Rattle.std.proofs.Common.{◌≡◌, ◌≤◌, drop}
use Rattle.tree_trait.specs.Change.{current}
use Rattle.tree_trait.specs.Answers.{IfKnown}
use Rattle.op_plan.specs.Checks.{all_there}
use Rattle.op_plan.proofs.sources.look_at_all.Given as goal

abbrev pub invariant-loop-source : goal.invariant-loop-source
invariant-loop-source g l = record {
  same : g.T.ReadTree.contents l.tree ≡ g.T.ReadTree.contents l.fn.tree;
  later : g.T.ReadTree.fault_count l.fn.tree ≤ g.T.ReadTree.fault_count l.tree;
  left : IfKnown (g.T.ReadTree.contents l.fn.tree) (λ log. all_there (current log) (drop l.source-index l.sources) ≡ all_there (current log) l.sources);
}

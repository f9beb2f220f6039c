-- No number so far gives a path that may be taken, and the tree is as it was.
use Rattle.std.proofs.Common.{◌≡◌, ◌≤◌, true}
use Rattle.tree_trait.specs.Change.{current}
use Rattle.tree_trait.specs.Answers.{IfKnown}
use Rattle.copy_file.specs.PartNames.{NoneFree}
use Rattle.copy_file.proofs.part_name.choose_part.Given as goal

abbrev pub invariant-loop-k : goal.invariant-loop-k
invariant-loop-k g l = record {
  none : IfKnown (g.T.ReadTree.contents l.fn.tree) (λ log. NoneFree (current log) (λ path. g.P.PartTest.is_free l.parts path ≡ true) l.item l.k);
  same : g.T.ReadTree.contents l.tree ≡ g.T.ReadTree.contents l.fn.tree;
  later : g.T.ReadTree.fault_count l.fn.tree ≤ g.T.ReadTree.fault_count l.tree;
}

-- What is left of the walk comes to what the whole walk comes to; the tree stays, and so does its count of faults.
use Rattle.std.proofs.Common.{◌≡◌}
use Rattle.tree_trait.specs.Change.{current}
use Rattle.tree_trait.specs.Answers.{IfKnown}
use Rattle.resolving.specs.Resolution.{walk_from, steps_of}
use Rattle.resolving.specs.Places.{way_from}
use Rattle.resolving.proofs.walking.walk.Given as goal

abbrev pub invariant-components : goal.invariant-components
invariant-components g l = record {
  same : g.T.ReadTree.contents l.tree ≡ g.T.ReadTree.contents l.fn.tree;
  counts : g.T.ReadTree.fault_count l.tree ≡ g.T.ReadTree.fault_count l.fn.tree;
  answer : IfKnown (g.T.ReadTree.contents l.fn.tree) (λ log.
      walk_from (current log) l.wanted 40 l.fn.start (steps_of l.fn.typed) ≡ walk_from (current log) l.wanted l.place.links l.place.folder l.place.ahead);
}

abbrev pub decreases-components : goal.decreases-components
decreases-components g l = way_from l.place

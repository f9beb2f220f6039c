-- A folder more was left, or something is done that is reported.
use Rattle.std.proofs.Common.{◌≡◌, ◌∙◌, true, suc, arith, subst, Option}
use Rattle.tree_trait.specs.Change.{CallLog}
use Rattle.copy_tree.specs.Parts.{IsPartPlace}
use Rattle.copy_tree.specs.Standing.{seen_copy}
use Rattle.copy_tree.specs.TreeCopySteps.{WorksOn}
use Rattle.copy_tree.proofs.Counting.{counts_later}
use Rattle.copy_tree.proofs.copy.TreeCopy.step.Goals as goal

pub returns-in-Some-clause-steps : goal.returns-in-Some-clause-steps
returns-in-Some-clause-steps g c =
    let a = c.in-Some.ensures.advances in
    let before = c.loop-stepped.invariant in
    record {
      folders = before.leaves.0;
      mid = seen_copy c.loop-stepped.self;
      leaves = before.leaves.1;
      works = subst (λ (x : Option CallLog). WorksOn c.loop-stepped.self.item (IsPartPlace (g.P.PartTest.is_free c.args.parts.now) (seen_copy c.loop-stepped.self)) c.args.replies (seen_copy c.loop-stepped.self) (seen_copy c.advance.new.self) c.in-Some.stepped.did x (g.T.ReadTree.contents c.advance.new.tree)) before.same a.0;
      counts = counts_later c.in-Some.stepped.did c.in-Some.stepped.calls _ _ _ _ _ _ before.same before.later a.1;
    }

pub loop-stepped-preserved : goal.loop-stepped-preserved
loop-stepped-preserved g c =
    let a = c.in_default.ensures.advances in
    let before = c.loop-stepped.invariant in
    record {
      leaves = (suc before.leaves.0, (seen_copy c.loop-stepped.self, before.leaves.1, a.0, a.1));
      workable = c.in_default.ensures.workable;
      same = a.2 ∙ before.same;
      later = let first = before.later in let second = a.3 in omega (arith, first, second);
    }

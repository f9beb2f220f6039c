-- What was looked at is begun.
use Rattle.std.proofs.Common.{◌≡◌, true, refl, ap, subst, inl, inr, Bool, Option}
use Rattle.tree_trait.specs.Change.{CallLog, current}
use Rattle.job_reports.specs.declared.report.StepResult.{StepResult}
use Rattle.copy_tree.specs.Parts.{IsPartPlace}
use Rattle.copy_tree.specs.Standing.{seen_copy}
use Rattle.copy_tree.specs.TreeCopySteps.{TakesNext}
use Rattle.copy_tree.specs.Taking.{LooksStop}
use Rattle.copy_tree.proofs.TakenUp.{stopped_so}
use Rattle.copy_tree.proofs.copy.TreeCopy.take_up.Goals as goal

pub returns-in-Ok-clause-works : goal.returns-in-Ok-clause-works
returns-in-Ok-clause-works g c =
    subst (λ (x : Option CallLog). TakesNext (IsPartPlace (g.P.PartTest.is_free c.args.parts.now) (seen_copy c.args.self.now)) c.args.replies (seen_copy c.args.self.now) (seen_copy c.begin.new.self) c.begin.result.did x (g.T.ReadTree.contents c.begin.new.tree))
    c.in-Ok.ensures.peeks.same c.begin.ensures.works

pub returns-in-Err-clause-works : goal.returns-in-Err-clause-works
returns-in-Err-clause-works g c =
    let looked = g.T.ReadTree.contents c.look_at_pair.new.tree in
    stopped_so (IsPartPlace (g.P.PartTest.is_free c.args.parts.now) (seen_copy c.args.self.now)) c.args.replies (seen_copy c.args.self.now) (seen_copy c.args.self.now) c.stopped.result.did (g.T.ReadTree.contents c.args.tree.now) looked looked
    c.in-Err.ensures.peeks.same c.in-Err.trouble
    (inr (inl (
      c.args.pair,
      c.requires.next,
      c.requires.reach,
      λ log known. subst (λ (top : Bool). LooksStop (current log) c.args.self.now.stage top c.args.pair c.in-Err.trouble) c.is_outermost.ensures (c.in-Err.ensures.known log known),
    )))
    (ap (λ (s : StepResult). s.did) c.stopped.ensures) c.in-Err.ensures.peeks.apart refl refl

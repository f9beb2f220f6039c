-- The link's part has a name, or the trouble of that is told.
use Rattle.std.proofs.Common.{◌≡◌, true, refl, ap, subst, inl, inr}
use Rattle.tree_trait.specs.Change.{current}
use Rattle.copy_file.specs.Copying.{Places}
use Rattle.copy_file.specs.PartNames.{IsChosen, NameStops}
use Rattle.job_reports.specs.declared.report.StepResult.{StepResult}
use Rattle.copy_tree.specs.Parts.{IsPartPlace}
use Rattle.copy_tree.specs.Standing.{seen_copy}
use Rattle.copy_tree.proofs.TakenUp.{stopped_so, took_link}
use Rattle.copy_tree.proofs.copy.TreeCopy.begin_link.Goals as goal

pub returns-in-Ok-choose_part-clause-works : goal.returns-in-Ok-choose_part-clause-works
returns-in-Ok-choose_part-clause-works g c =
    took_link (IsPartPlace (g.P.PartTest.is_free c.args.parts.now) (seen_copy c.args.self.now)) c.args.replies (seen_copy c.args.self.now) (seen_copy c.make_link.new.self) c.make_link.result.did (g.T.ReadTree.contents c.args.tree.now) (g.T.ReadTree.contents c.choose_part.new.tree)
    (g.T.ReadTree.contents c.make_link.new.tree) c.in-Ok-choose_part.ensures.peeks.same c.args.pair c.requires.next c.requires.reach c.in-Ok-choose_part.part c.see_path.ensures c.requires.taken
    (λ log known. subst (λ (p : Places). IsChosen (current log) (IsPartPlace (g.P.PartTest.is_free c.args.parts.now) (seen_copy c.args.self.now)) p c.in-Ok-choose_part.part) c.in-Ok.ensures (c.in-Ok-choose_part.ensures.known log known))
    c.make_link.ensures.works

pub returns-in-Err-choose_part-clause-works : goal.returns-in-Err-choose_part-clause-works
returns-in-Err-choose_part-clause-works g c =
    let t = c.in-Err-choose_part.trouble in
    stopped_so (IsPartPlace (g.P.PartTest.is_free c.args.parts.now) (seen_copy c.args.self.now)) c.args.replies (seen_copy c.args.self.now) (seen_copy c.args.self.now) c.stopped-in-Err-choose_part.result.did (g.T.ReadTree.contents c.args.tree.now)
    (g.T.ReadTree.contents c.choose_part.new.tree) (g.T.ReadTree.contents c.choose_part.new.tree) c.in-Err-choose_part.ensures.peeks.same t
    (inr (inr (inl (
      c.args.pair,
      c.requires.next,
      c.requires.reach,
      λ log known. (c.requires.taken log known, subst (λ (p : Places). NameStops (current log) (IsPartPlace (g.P.PartTest.is_free c.args.parts.now) (seen_copy c.args.self.now)) p t.cause t.path) c.in-Ok.ensures (c.in-Err-choose_part.ensures.known log known)),
    ))))
    (ap (λ (s : StepResult). s.did) c.stopped-in-Err-choose_part.ensures) c.in-Err-choose_part.ensures.peeks.apart refl refl

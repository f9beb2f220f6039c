-- What was looked at is begun.
use Rattle.std.proofs.Common.{◌≡◌, true, refl, subst, ap}
use Rattle.tree_trait.specs.Change.{current}
use Rattle.job_reports.specs.declared.report.StepResult.{StepResult}
use Rattle.copy_tree.specs.declared.looking.Taken.{Taken}
use Rattle.copy_tree.specs.Parts.{IsPartPlace}
use Rattle.copy_tree.specs.Standing.{seen_copy}
use Rattle.copy_tree.specs.TreeCopySteps.{is_top}
use Rattle.copy_tree.specs.Taking.{IsSound, IsTaken, MayTake}
use Rattle.copy_tree.proofs.TakenUp.{took_asked, took_file, took_folder, took_kept, took_merged}
use Rattle.copy_tree.proofs.copy.TreeCopy.begin.Goals as goal

pub returns-in-File-clause-works : goal.returns-in-File-clause-works
returns-in-File-clause-works g c =
    took_file (IsPartPlace (g.P.PartTest.is_free c.args.parts.now) (seen_copy c.args.self.now)) c.args.replies (seen_copy c.args.self.now) (seen_copy c.begin_file.new.self) c.begin_file.result.did (g.T.ReadTree.contents c.args.tree.now) (g.T.ReadTree.contents c.args.tree.now)
    (g.T.ReadTree.contents c.begin_file.new.tree) refl c.args.pair c.requires.next c.requires.reach c.in-File.facts (λ log known. subst (λ (t : Taken). IsTaken (current log) (is_top (seen_copy c.args.self.now)) c.args.replies c.args.pair t) c.in-File.is (c.requires.known log known))
    (subst IsSound c.in-File.is c.requires.sound) c.begin_file.ensures.works

pub returns-in-Folder-clause-works : goal.returns-in-Folder-clause-works
returns-in-Folder-clause-works g c =
    let sound = subst IsSound c.in-Folder.is c.requires.sound in
    took_folder (IsPartPlace (g.P.PartTest.is_free c.args.parts.now) (seen_copy c.args.self.now)) c.args.replies (seen_copy c.args.self.now) (seen_copy c.make_folder.new.self) c.make_folder.result.did (g.T.ReadTree.contents c.args.tree.now) (g.T.ReadTree.contents c.args.tree.now)
    (g.T.ReadTree.contents c.make_folder.new.tree) refl c.args.pair c.requires.next c.requires.reach c.in-Folder.names c.in-Folder.mode (λ log known. subst (λ (t : Taken). IsTaken (current log) (is_top (seen_copy c.args.self.now)) c.args.replies c.args.pair t) c.in-Folder.is (c.requires.known log known)) sound.0
    c.make_folder.ensures.works

pub returns-in-Merged-clause-works : goal.returns-in-Merged-clause-works
returns-in-Merged-clause-works g c =
    let may = subst (λ (t : Taken). MayTake c.args.self.now.stage (is_top (seen_copy c.args.self.now)) c.args.pair t) c.in-Merged.is c.requires.may in
    took_merged (IsPartPlace (g.P.PartTest.is_free c.args.parts.now) (seen_copy c.args.self.now)) c.args.replies (seen_copy c.args.self.now) (seen_copy c.merge.new.self) c.merge.result.did (g.T.ReadTree.contents c.args.tree.now) (g.T.ReadTree.contents c.args.tree.now)
    (g.T.ReadTree.contents c.args.tree.now) refl c.args.pair c.requires.next c.requires.reach c.in-Merged.names may.0 (λ log known. subst (λ (t : Taken). IsTaken (current log) (is_top (seen_copy c.args.self.now)) c.args.replies c.args.pair t) c.in-Merged.is (c.requires.known log known)) may.1
    (subst IsSound c.in-Merged.is c.requires.sound) c.merge.ensures.few c.merge.ensures.passed (ap (λ (s : StepResult). s.did) c.merge.ensures.told) refl

pub returns-in-Kept-clause-works : goal.returns-in-Kept-clause-works
returns-in-Kept-clause-works g c =
    took_kept (IsPartPlace (g.P.PartTest.is_free c.args.parts.now) (seen_copy c.args.self.now)) c.args.replies (seen_copy c.args.self.now) (seen_copy c.keep.new.self) c.keep.result.did (g.T.ReadTree.contents c.args.tree.now) (g.T.ReadTree.contents c.args.tree.now)
    (g.T.ReadTree.contents c.args.tree.now) refl c.args.pair c.requires.next c.requires.reach (subst (λ (t : Taken). MayTake c.args.self.now.stage (is_top (seen_copy c.args.self.now)) c.args.pair t) c.in-Kept.is c.requires.may)
    (λ log known. subst (λ (t : Taken). IsTaken (current log) (is_top (seen_copy c.args.self.now)) c.args.replies c.args.pair t) c.in-Kept.is (c.requires.known log known))
    c.keep.ensures.passed (ap (λ (s : StepResult). s.did) c.keep.ensures.told) refl

pub returns-in-Asked-clause-works : goal.returns-in-Asked-clause-works
returns-in-Asked-clause-works g c =
    took_asked (IsPartPlace (g.P.PartTest.is_free c.args.parts.now) (seen_copy c.args.self.now)) c.args.replies (seen_copy c.args.self.now) (seen_copy c.args.self.now) c.asked.result.did (g.T.ReadTree.contents c.args.tree.now) (g.T.ReadTree.contents c.args.tree.now)
    (g.T.ReadTree.contents c.args.tree.now) refl c.args.pair c.requires.next c.requires.reach c.in-Asked.question (subst (λ (t : Taken). MayTake c.args.self.now.stage (is_top (seen_copy c.args.self.now)) c.args.pair t) c.in-Asked.is c.requires.may)
    (λ log known. subst (λ (t : Taken). IsTaken (current log) (is_top (seen_copy c.args.self.now)) c.args.replies c.args.pair t) c.in-Asked.is (c.requires.known log known))
    refl (ap (λ (s : StepResult). s.did) c.asked.ensures) refl

-- A folder that was removed is gone; a refused call removed none.
use Rattle.std.proofs.Common.{◌≡◌, ap, ◌∙◌, subst, Ok, Err}
use Rattle.tree_trait.specs.Calls.{RemoveFolder}
use Rattle.tree_trait.specs.Answers.{Performs}
use Rattle.job_reports.specs.declared.report.Did.TheVariants.{Removed}
use Rattle.job_reports.specs.declared.report.StepResult.{StepResult}
use Rattle.emptied_job.specs.declared.removal.RemovalStage.TheVariants.{Sync}
use Rattle.emptied_job.specs.Removals.{Removing}
use Rattle.emptied_job.proofs.RemovalRuns.{steps_refused, steps_removed}
use Rattle.emptied_job.proofs.removal.FolderRemoval.remove.Goals as goal

pub returns-in-Ok-remove_folder : goal.returns-in-Ok-remove_folder
returns-in-Ok-remove_folder g c =
    let path_is : c.self.inside.path ≡ c.args.self.now.path = ap (λ (r : Removing). r.path) c.self.view_is in
    steps_removed c.args.replies c.args.self.now _ _ _ _ _ c.with_call.result.did c.with_call.result.calls (ap (λ (s : StepResult). s.did) c.with_call.ensures ∙ ap Removed (c.in-Ok.ensures ∙ path_is))
    (ap (λ (s : StepResult). s.calls) c.with_call.ensures) c.requires.stage (ap (λ (r : Removing). let k : Removing = record r { stage = Sync } in k) c.self.view_is)
    (λ log known. subst (λ p. Performs {A = Unit {0}} log (RemoveFolder p) (Ok tt) (g.T.ReadTree.contents c.remove_folder.new.self)) path_is (c.in-Ok-remove_folder.ensures.answer log known))
    c.remove_folder.ensures.stays_unknown c.remove_folder.ensures.cause.later

pub returns-in-Err : goal.returns-in-Err
returns-in-Err g c =
    let path_is : c.self.inside.path ≡ c.args.self.now.path = ap (λ (r : Removing). r.path) c.self.view_is in
    steps_refused c.args.replies c.args.self.now _ _ _ _ _ c.not_removed.result.did c.not_removed.result.calls c.requires.stage c.remove_folder.ensures.stays_unknown
    c.in-Err.error c.not_removed.ensures.calls c.not_removed.ensures.did
    (λ log known. subst (λ p. Performs {A = Unit {0}} log (RemoveFolder p) (Err c.in-Err.error) (g.T.ReadTree.contents c.remove_folder.new.self)) path_is (c.in-Err.ensures.answer log known)) c.in-Err.ensures.cause

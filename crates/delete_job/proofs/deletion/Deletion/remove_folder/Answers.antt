-- A folder is gone, or its removal was refused.
use Rattle.std.proofs.Common.{ap, sym, ◌∙◌, subst, false, Ok, Err}
use Rattle.tree_trait.specs.Calls.{Call}
use Rattle.tree_trait.specs.Change.{current}
use Rattle.tree_trait.specs.Answers.{Performs}
use Rattle.job_reports.specs.Paths.{without}
use Rattle.job_reports.specs.declared.report.StepResult.{StepResult}
use Rattle.delete_job.specs.declared.deletion.Stage.TheVariants.{Going}
use Rattle.delete_job.specs.Standing.{DeletionItem}
use Rattle.delete_job.specs.TreeDeletionSteps.{IsBare, IsSeen, RemovalLeaves, path_of, removal_of}
use Rattle.delete_job.proofs.Items.{at_itself, folder_decides}
use Rattle.delete_job.proofs.Worked.{err_is, works_refused, works_removed}
use Rattle.delete_job.proofs.deletion.Deletion.remove_folder.Goals as goal

pub returns-in-Ok-remove_folder : goal.returns-in-Ok-remove_folder
returns-in-Ok-remove_folder g c =
    works_removed c.args.self.now _ _ _ _ _ _ _ c.with_call.result.did c.with_call.result.calls c.args.path (ap (λ (s : StepResult). s.did) c.with_call.ensures) (ap (λ (s : StepResult). s.calls) c.with_call.ensures)
    (sym (ap path_of c.requires.next)) (subst (λ (i : DeletionItem). IsBare i c.args.self.now.walk.place.inner.spared) (sym c.requires.next) c.requires.bare)
    (folder_decides c.args.self.now c.leave.new.self false c.args.path Going c.stage_after-self.result c.requires.inside c.requires.next c.leave.ensures.left c.leave.ensures.rest c.stage_after-self.ensures)
    (λ log known. subst (λ (i : DeletionItem). IsSeen (current log) c.args.self.now.depth c.args.self.now.walk.place i) (sym c.requires.next) tt)
    (λ log known. subst (λ (call : Call). Performs {A = Unit {0}} log call (Ok tt) (g.T.ReadTree.contents c.remove_folder.new.self)) (sym (ap removal_of c.requires.next)) (c.in-Ok-remove_folder.ensures.answer log known))
    (subst (λ (i : DeletionItem). RemovalLeaves i c.args.path c.args.dirty.now c.remove.new.self) (sym c.requires.next) (c.remove.ensures ∙ ap (without c.args.path) c.in-Ok.ensures.joined))
    c.remove_folder.ensures.stays_unknown c.remove_folder.ensures.cause.later

pub returns-in-Err : goal.returns-in-Err
returns-in-Err g c =
    works_refused c.args.self.now _ _ _ _ _ _ _ c.refused.result.did c.refused.result.calls c.in-Err.error c.args.path c.refused.ensures.did c.refused.ensures.calls
    (sym (ap path_of c.requires.next)) (at_itself c.args.self.now)
    (λ log known. subst (λ (i : DeletionItem). IsSeen (current log) c.args.self.now.depth c.args.self.now.walk.place i) (sym c.requires.next) tt)
    (λ log known. subst (λ (call : Call). Performs {A = Unit {0}} log call (Err c.in-Err.error) (g.T.ReadTree.contents c.remove_folder.new.self)) (sym (ap removal_of c.requires.next)) (c.in-Err.ensures.answer log known))
    (c.drop_last_if.ensures ∙ c.in-Ok.ensures.back)
    c.remove_folder.ensures.stays_unknown c.remove_folder.ensures.cause.later (λ h. c.in-Err.ensures.cause.risen (err_is c.in-Err.error h))

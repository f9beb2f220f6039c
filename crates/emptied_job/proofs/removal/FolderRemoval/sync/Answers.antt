-- Without memory no call was made; a sync changes nothing that can be seen, refused or not.
use Rattle.std.proofs.Common.{true, ap, ◌∙◌, refl, arith, Err}
use Rattle.tree_trait.specs.declared.calls.TreeError.TheVariants as refused
use Rattle.job_reports.specs.declared.report.Did.TheVariants.{Troubled}
use Rattle.job_reports.specs.declared.report.StepResult.{StepResult}
use Rattle.job_reports.specs.Stops.{trouble_at}
use Rattle.emptied_job.specs.declared.removal.RemovalStage.TheVariants.{Finish}
use Rattle.emptied_job.specs.Removals.{Removing}
use Rattle.emptied_job.proofs.RemovalRuns.{steps_synced, steps_unsynced}
use Rattle.emptied_job.proofs.removal.FolderRemoval.sync.Goals as goal

pub returns-in_default : goal.returns-in_default
returns-in_default g c =
    steps_unsynced c.args.replies c.args.self.now _ _ _ _ _ c.without_call.result.did c.without_call.result.calls c.requires.stage c.folder-owed.result.now c.folder-owed.ensures.is refl
    refused.Memory (ap (λ (s : StepResult). s.did) c.without_call.ensures ∙ ap Troubled c.out_of_memory.ensures) (ap (λ (s : StepResult). s.calls) c.without_call.ensures)
    (λ log known. known) (λ h. h) (omega arith) (λ h. absurd cc)

pub returns-in-Ok-sync_folder : goal.returns-in-Ok-sync_folder
returns-in-Ok-sync_folder g c =
    steps_synced c.args.replies c.args.self.now _ _ _ _ _ c.with_call.result.did c.with_call.result.calls c.folder-owed.result.now (ap (λ (s : StepResult). s.did) c.with_call.ensures)
    (ap (λ (s : StepResult). s.calls) c.with_call.ensures) c.requires.stage c.folder-owed.ensures.is
    (ap (λ (r : Removing). let k : Removing = record r { stage = Finish } in k) c.self.view_is)
    (λ log known. c.in-Ok-sync_folder.ensures.answer log known) c.sync_folder.ensures.stays_unknown c.sync_folder.ensures.cause.later

pub returns-in-Err : goal.returns-in-Err
returns-in-Err g c =
    steps_unsynced c.args.replies c.args.self.now _ _ _ _ _ c.refused.result.did c.refused.result.calls c.requires.stage c.folder-owed.result.now c.folder-owed.ensures.is refl
    c.in-Err.error (c.refused.ensures.did ∙ ap (λ q. Troubled (trouble_at c.in-Err.error q true)) c.in-Ok.ensures) c.refused.ensures.calls
    (λ log known. c.in-Err.ensures.answer log known) c.sync_folder.ensures.stays_unknown c.sync_folder.ensures.cause.later
    (λ h. c.in-Err.ensures.cause.risen (ap Err h))

-- A folder is on the disk, its sync was refused, or there was no memory and no call was made.
use Rattle.std.proofs.Common.{[], ap, sym, ◌∙◌, refl, subst, true, ◌≡◌, arith}
use Rattle.mc_text.specs.Routes.{Route}
use Rattle.tree_trait.specs.declared.calls.TreeError.TheVariants as refused
use Rattle.job_reports.specs.declared.report.Did.TheVariants.{Troubled}
use Rattle.job_reports.specs.declared.report.StepResult.{StepResult}
use Rattle.job_unsynced.specs.Folders.{IsOwn}
use Rattle.delete_job.proofs.Synced.{syncs_done, syncs_refused}
use Rattle.delete_job.proofs.Worked.{err_is}
use Rattle.delete_job.proofs.deletion.Deletion.sync.Goals as goal

pub returns-in_default-copy : goal.returns-in_default-copy
returns-in_default-copy g c =
    syncs_refused c.args.self.now _ _ _ _ _ _ c.without_call-in_default-copy.result.did c.without_call-in_default-copy.result.calls refused.Memory c.in-Some.folder.now c.in-Some.ensures.some
    (ap (λ (s : StepResult). s.did) c.without_call-in_default-copy.ensures ∙ ap Troubled c.out_of_memory.ensures) (ap (λ (s : StepResult). s.calls) c.without_call-in_default-copy.ensures) refl
    (λ log known. known) (λ h. h) (omega arith) (λ h. absurd cc)

pub returns-in-Ok-sync_folder : goal.returns-in-Ok-sync_folder
returns-in-Ok-sync_folder g c =
    syncs_done c.args.self.now _ _ _ _ _ _ c.with_call.result.did c.with_call.result.calls c.in-Ok.folder (ap (λ (s : StepResult). s.did) c.with_call.ensures) (ap (λ (s : StepResult). s.calls) c.with_call.ensures)
    (subst (λ (q : Route). IsOwn c.args.self.now.folder c.args.self.now.path c.args.dirty.now q) (sym c.in-Ok.ensures) c.in-Some.ensures.some)
    c.remove.ensures (λ log known. c.in-Ok-sync_folder.ensures.answer log known)
    c.sync_folder.ensures.stays_unknown c.sync_folder.ensures.cause.later

pub returns-in-Err : goal.returns-in-Err
returns-in-Err g c =
    syncs_refused c.args.self.now _ _ _ _ _ _ c.refused.result.did c.refused.result.calls c.in-Err.error c.in-Ok.folder
    (subst (λ (q : Route). IsOwn c.args.self.now.folder c.args.self.now.path c.args.dirty.now q) (sym c.in-Ok.ensures) c.in-Some.ensures.some) c.refused.ensures.did c.refused.ensures.calls refl
    (λ log known. c.in-Err.ensures.answer log known)
    c.sync_folder.ensures.stays_unknown c.sync_folder.ensures.cause.later (λ h. c.in-Err.ensures.cause.risen (err_is c.in-Err.error h))

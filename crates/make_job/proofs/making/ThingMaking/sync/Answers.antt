-- Without memory no call was made; a sync changes nothing that can be seen, refused or not.
use Rattle.std.proofs.Common.{ap, ◌∙◌, refl, arith, true}
use Rattle.tree_trait.specs.declared.calls.TreeError.TheVariants as refused
use Rattle.tree_trait.specs.Calls.{SyncFolder}
use Rattle.job_reports.specs.declared.report.Did.TheVariants.{Troubled}
use Rattle.job_reports.specs.declared.report.StepResult.{StepResult}
use Rattle.make_job.specs.declared.making.MakingStage.TheVariants.{Finish}
use Rattle.make_job.specs.Makings.{Making, call_of}
use Rattle.job_reports.specs.Stops.{trouble_at}
use Rattle.make_job.proofs.MakingRuns.{err_is, fault-cause, steps_refused, steps_synced, steps_unmade, sync_at, sync_call}
use Rattle.make_job.proofs.Answering.{answered_refused, answered_synced, answered_unmade}
use Rattle.make_job.proofs.making.ThingMaking.sync.Goals as goal

pub returns-in_default-clause-steps : goal.returns-in_default-clause-steps
returns-in_default-clause-steps g c =
    let t = trouble_at refused.Memory c.folder-owed.result.now true in
    steps_unmade c.args.self.now _ _ _ _ _ c.without_call.result.did c.without_call.result.calls t (ap (λ (s : StepResult). s.did) c.without_call.ensures ∙ ap Troubled c.out_of_memory.ensures)
    (sync_at c.args.self.now c.folder-owed.result.now refused.Memory c.folder-owed.ensures.holds c.requires.stage) refl
    (λ h. h) (omega arith) (λ h. absurd cc) (ap (λ (s : StepResult). s.calls) c.without_call.ensures) refl refl

pub returns-in-Ok-sync_folder-clause-steps : goal.returns-in-Ok-sync_folder-clause-steps
returns-in-Ok-sync_folder-clause-steps g c =
    steps_synced c.args.self.now _ _ _ _ _ c.with_call.result.did c.with_call.result.calls c.folder-owed.result.now (ap (λ (s : StepResult). s.did) c.with_call.ensures)
    (ap (λ (s : StepResult). s.calls) c.with_call.ensures)
    c.requires.stage c.folder-owed.ensures.holds (ap (λ (m : Making). let k : Making = record m { stage = Finish } in k) c.self.view_is)
    (λ log known. c.in-Ok-sync_folder.ensures.answer log known)
    c.sync_folder.ensures.stays_unknown c.sync_folder.ensures.cause.later

pub returns-in-Err-clause-steps : goal.returns-in-Err-clause-steps
returns-in-Err-clause-steps g c =
    let t = trouble_at c.in-Err.error c.folder-owed.result.now true in
    steps_refused c.args.self.now _ _ _ _ _ c.refused.result.did c.refused.result.calls t (c.refused.ensures.did ∙ ap (λ q. Troubled (trouble_at c.in-Err.error q true)) c.in-Ok.ensures)
    (sync_at c.args.self.now c.folder-owed.result.now c.in-Err.error c.folder-owed.ensures.holds c.requires.stage) refl
    c.sync_folder.ensures.stays_unknown c.sync_folder.ensures.cause.later (λ h. c.in-Err.ensures.cause.risen (err_is c.in-Err.error (fault-cause c.in-Err.error h)))
    (SyncFolder c.folder-owed.result.now) c.in-Err.error c.refused.ensures.calls (ap (λ s. call_of c.args.self.now.thing s c.args.self.now.path) c.requires.stage ∙ sync_call c.args.self.now.path c.folder-owed.result.now c.folder-owed.ensures.holds) refl
    (λ log known. c.in-Err.ensures.answer log known)

pub returns-in_default-clause-answered : goal.returns-in_default-clause-answered
returns-in_default-clause-answered g c =
    answered_unmade c.args.self.now _ _ c.without_call.result.did (trouble_at refused.Memory c.folder-owed.result.now true)
    (ap (λ (s : StepResult). s.did) c.without_call.ensures ∙ ap Troubled c.out_of_memory.ensures) refl refl

pub returns-in-Ok-sync_folder-clause-answered : goal.returns-in-Ok-sync_folder-clause-answered
returns-in-Ok-sync_folder-clause-answered g c =
    answered_synced c.args.self.now _ _ c.with_call.result.did c.folder-owed.result.now (ap (λ (s : StepResult). s.did) c.with_call.ensures)
    c.folder-owed.ensures.holds c.in-Ok-sync_folder.ensures.told

pub returns-in-Err-clause-answered : goal.returns-in-Err-clause-answered
returns-in-Err-clause-answered g c =
    answered_refused c.args.self.now _ _ c.refused.result.did (trouble_at c.in-Err.error c.folder-owed.result.now true) (SyncFolder c.folder-owed.result.now) c.in-Err.error
    (c.refused.ensures.did ∙ ap (λ q. Troubled (trouble_at c.in-Err.error q true)) c.in-Ok.ensures)
    (ap (λ s. call_of c.args.self.now.thing s c.args.self.now.path) c.requires.stage ∙ sync_call c.args.self.now.path c.folder-owed.result.now c.folder-owed.ensures.holds) refl
    c.in-Err.ensures.told

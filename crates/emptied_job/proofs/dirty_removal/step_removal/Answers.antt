-- The folder around joins the dirty ones before the removal, and stays there till its sync.
use Rattle.std.proofs.Common.{ap, sym, ◌∙◌, refl, arith}
use Rattle.job_reports.specs.declared.report.StepResult.{StepResult}
use Rattle.job_reports.specs.declared.report.Did.TheVariants.{Troubled}
use Rattle.job_reports.specs.Paths.{folder_of}
use Rattle.job_unsynced.proofs.Changes.{as_before, follows_step}
use Rattle.emptied_job.specs.Removals.{is_dirty}
use Rattle.emptied_job.proofs.RemovalFolders.{clean_removal, fresh_removal, removal_stays}
use Rattle.emptied_job.proofs.RemovalRuns.{steps_unmade}
use Rattle.emptied_job.proofs.dirty_removal.step_removal.Goals as goal

pub returns-in_default : goal.returns-in_default
returns-in_default g c = record {
  steps = steps_unmade c.args.replies c.args.removal.now _ _ _ _ _ _ _ (ap (λ (s : StepResult). s.did) c.without_call.ensures ∙ ap Troubled c.out_of_memory.ensures) (ap (λ (s : StepResult). s.calls) c.without_call.ensures)
      (fresh_removal c.args.removal.now.stage (sym c.is_fresh.ensures ∙ c.in_default.ensures.fresh)) refl refl (omega arith);
  leaves = as_before (is_dirty c.args.removal.now.stage) _ _ _ c.in_default.ensures.refused;
}

pub returns-clause-leaves : goal.returns-clause-leaves
returns-clause-leaves g c =
    let old = c.args.removal.now in
    let new = c.step-stepped.new.self in
    follows_step _ _ _ _ _ _ _ _ _ _ _ _ c.in-Ok.readied c.is_fresh.ensures c.is_dirty.ensures c.is_dirty-2.ensures c.folder.ensures.is
    (c.folder-2.ensures.is ∙ ap folder_of (removal_stays c.args.replies old new _ c.step-stepped.ensures.tells)) (λ h. ap is_dirty (fresh_removal old.stage h)) (clean_removal c.args.replies old new _ c.step-stepped.ensures.tells)
    c.in-Ok.ensures.ready c.follow.ensures

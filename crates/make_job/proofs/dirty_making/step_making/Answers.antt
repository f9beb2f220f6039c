-- The folder that holds it joins the dirty ones before the thing is made, and stays there till its sync.
use Rattle.std.proofs.Common.{ap, refl, sym, ◌∙◌, false}
use Rattle.job_reports.specs.declared.report.StepResult.{StepResult}
use Rattle.job_reports.specs.declared.report.Did.TheVariants.{Troubled}
use Rattle.job_reports.specs.Paths.{folder_of}
use Rattle.job_reports.specs.Stops.{out_of_memory_at}
use Rattle.job_unsynced.proofs.Changes.{as_before, follows_step}
use Rattle.make_job.specs.Makings.{is_dirty}
use Rattle.make_job.proofs.Answering.{answered_unmade}
use Rattle.make_job.proofs.MakingFolders.{clean_making, fresh_making, making_stays, none_made}
use Rattle.make_job.proofs.dirty_making.step_making.Goals as goal

pub returns-in_default : goal.returns-in_default
returns-in_default g c = record {
  steps = none_made c.args.making.now _ _ _ _ (sym c.is_fresh.ensures ∙ c.in_default.ensures.fresh) (ap (λ (s : StepResult). s.did) c.without_call.ensures ∙ ap Troubled c.out_of_memory.ensures) (ap (λ (s : StepResult). s.calls) c.without_call.ensures);
  answered = answered_unmade c.args.making.now _ _ c.without_call.result.did (out_of_memory_at false) (ap (λ (s : StepResult). s.did) c.without_call.ensures ∙ ap Troubled c.out_of_memory.ensures) refl refl;
  leaves = as_before (is_dirty c.args.making.now.stage) _ _ _ c.in_default.ensures.refused;
}

pub returns-clause-leaves : goal.returns-clause-leaves
returns-clause-leaves g c =
    let old = c.args.making.now in
    let new = c.step-stepped.new.self in
    follows_step _ _ _ _ _ _ _ _ _ _ _ _ c.in-Ok.readied c.is_fresh.ensures c.is_dirty.ensures c.is_dirty-2.ensures c.folder.ensures.is
    (c.folder-2.ensures.is ∙ ap folder_of (making_stays old new _ c.step-stepped.ensures.steps.tells)) (fresh_making old.stage) (clean_making old new _ c.step-stepped.ensures.steps.tells)
    c.in-Ok.ensures.ready c.follow.ensures

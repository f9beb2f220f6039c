-- The thing joins what is dirty before it is given its mode, and stays there till its sync.
use Rattle.std.proofs.Common.{ap, sym, ◌∙◌}
use Rattle.job_reports.specs.declared.report.StepResult.{StepResult}
use Rattle.job_reports.specs.declared.report.Did.TheVariants.{Troubled}
use Rattle.job_unsynced.proofs.Changes.{as_before, follows_step}
use Rattle.mode_job.specs.Settings.{is_dirty}
use Rattle.mode_job.proofs.DirtySettings.{clean_setting, fresh_setting, none_given, setting_stays}
use Rattle.mode_job.proofs.dirty_setting.step_setting.Goals as goal

pub returns-in_default : goal.returns-in_default
returns-in_default g c = record {
  steps = none_given c.args.replies c.args.setting.now _ _ _ _ (sym c.is_fresh.ensures ∙ c.in_default.ensures.fresh) (ap (λ (s : StepResult). s.did) c.without_call.ensures ∙ ap Troubled c.out_of_memory.ensures) (ap (λ (s : StepResult). s.calls) c.without_call.ensures);
  leaves = as_before (is_dirty c.args.setting.now.stage) _ _ _ c.in_default.ensures.refused;
}

pub returns-clause-leaves : goal.returns-clause-leaves
returns-clause-leaves g c =
    let old = c.args.setting.now in
    let new = c.step-stepped.new.self in
    follows_step _ _ _ _ _ _ _ _ _ _ _ _ c.in-Ok.readied c.is_fresh.ensures c.is_dirty.ensures c.is_dirty-2.ensures c.path.ensures
    (c.path-2.ensures ∙ setting_stays c.args.replies old new _ c.step-stepped.ensures.tells) (fresh_setting old.stage) (clean_setting c.args.replies old new _ c.step-stepped.ensures.tells)
    c.in-Ok.ensures.ready c.follow.ensures

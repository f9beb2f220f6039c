-- The thing whose sync a last step tried.
use Rattle.std.proofs.Common.{ap, ◌∙◌}
use Rattle.job_unsynced.specs.Folders.{after_try}
use Rattle.mode_job.proofs.DirtySettings.{setting_winds_there}
use Rattle.mode_job.proofs.dirty_setting.wind_up_setting.Goals as goal

pub returns-clause-tries : goal.returns-clause-tries
returns-clause-tries g c =
    c.note_try.ensures
    ∙ ap (λ f. after_try c.wind_up-stepped.result.did c.wind_up-stepped.result.left f c.args.dirty.now)
    (c.path.ensures ∙ setting_winds_there c.args.ending c.args.setting.now c.wind_up-stepped.new.self c.wind_up-stepped.result _ _ _ _ c.wind_up-stepped.ensures)

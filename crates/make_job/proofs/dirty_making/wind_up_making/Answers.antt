-- The folder that a last step tried.
use Rattle.std.proofs.Common.{ap, ◌∙◌}
use Rattle.job_reports.specs.Paths.{folder_of}
use Rattle.job_unsynced.specs.Folders.{after_try}
use Rattle.make_job.proofs.MakingFolders.{making_winds_there}
use Rattle.make_job.proofs.dirty_making.wind_up_making.Goals as goal

pub returns-clause-tries : goal.returns-clause-tries
returns-clause-tries g c =
    c.note_try.ensures
    ∙ ap (λ f. after_try c.wind_up-stepped.result.did c.wind_up-stepped.result.left f c.args.dirty.now)
    (c.folder.ensures.is ∙ ap folder_of (making_winds_there c.args.ending c.args.making.now c.wind_up-stepped.new.self _ c.wind_up-stepped.ensures.winds.tells))

-- The line of jobs. Own.
use Rattle.std.specs.Prelude.{ℕ, ◌+◌, ◌==◌, if◌then◌else◌, List, [], ◌++◌, codes}
use Rattle.std.specs.Fmt.{decimal}
use Rattle.screen_frame.specs.declared.jobs_line.JobCounts.{JobCounts}

-- how many jobs are live
abbrev pub live_jobs : JobCounts → ℕ
live_jobs jobs = jobs.ready + jobs.asking + jobs.troubled + jobs.stopped

-- `Jobs N: a ready, b asking, c in trouble, d stopped`, or nothing where no job is live
unfoldable pub jobs_text : JobCounts → List ℕ
jobs_text jobs =
    if live_jobs jobs == 0 then []
    else codes "Jobs " ++ decimal (live_jobs jobs) ++ codes ": " ++ decimal jobs.ready ++ codes " ready, "
    ++ decimal jobs.asking ++ codes " asking, " ++ decimal jobs.troubled ++ codes " in trouble, "
    ++ decimal jobs.stopped ++ codes " stopped"

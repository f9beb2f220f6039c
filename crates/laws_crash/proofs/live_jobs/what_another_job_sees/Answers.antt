use Rattle.laws_crash.proofs.Syncing.{frame_law}
use Rattle.laws_crash.proofs.live_jobs.what_another_job_sees.Goals as goal

pub returns : goal.returns
returns c = frame_law

use Rattle.laws_sessions.proofs.Lasting.{finished_stays_law}
use Rattle.laws_sessions.proofs.what_a_finished_job_did_stays.Goals as goal

pub returns : goal.returns
returns c = finished_stays_law

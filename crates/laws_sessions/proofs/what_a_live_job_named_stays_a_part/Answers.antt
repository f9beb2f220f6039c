use Rattle.laws_sessions.proofs.StillParts.{live_parts_law}
use Rattle.laws_sessions.proofs.what_a_live_job_named_stays_a_part.Goals as goal

pub returns : goal.returns
returns c = live_parts_law

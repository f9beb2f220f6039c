-- What a finished job did stays done: no crash at a later moment brings back what was before, until an entry names the path.
use Rattle.std.proofs.Common.{inl}
use Rattle.session_entries.specs.Entries.{calls_in}
use Rattle.laws_sessions.specs.Replayed.{log_prefix}
use Rattle.laws_sessions.specs.StayingLaw.{FinishedStaysLaw}
use Rattle.laws_sessions.proofs.FinishedOwn.{finished_law}
use Rattle.laws_sessions.proofs.Holding.{holds_since}

pub finished_stays_law : FinishedStaysLaw
finished_stays_law opening now after newest older standing coming was stand dirty job new part item calls path image tree settled traced before jobs_is works changed its own unnamed none moment since later left =
    let done = finished_law opening (log_prefix opening (calls_in older) now) after older was dirty job new part item path tree settled before jobs_is works changed its own in
    holds_since opening now newest older standing coming stand calls path image tree settled traced moment since later (done.1 unnamed none) (inl unnamed) left

use Rattle.laws_sessions.proofs.Owing.{owed_law}
use Rattle.laws_sessions.proofs.where_doubt_lies.Goals as goal

pub returns : goal.returns
returns c = owed_law

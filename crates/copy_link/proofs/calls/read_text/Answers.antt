-- A link that can't be read.
use Rattle.copy_link.proofs.Stepping.{read_stops}
use Rattle.copy_link.proofs.calls.read_text.Goals as goal

pub returns-in-Err-clause-known : goal.returns-in-Err-clause-known
returns-in-Err-clause-known g c = λ log known. read_stops _ log c.args.source.now c.in-Err.error c.reading_trouble.result (c.in-Err.ensures.answer log known) c.reading_trouble.ensures

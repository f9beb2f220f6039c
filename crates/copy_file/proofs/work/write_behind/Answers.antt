-- The bytes weren't written.
use Rattle.copy_file.proofs.Stepping.{writes_stopped}
use Rattle.copy_file.proofs.work.write_behind.Goals as goal

pub returns-in-Err-clause-writes : goal.returns-in-Err-clause-writes
returns-in-Err-clause-writes g c =
    writes_stopped c.args.bytes.now c.args.part c.args.facts c.args.done c.args.folder c.in-Err.stop c.troubled.result _ _ _ _ c.troubled.ensures c.in-Err.ensures

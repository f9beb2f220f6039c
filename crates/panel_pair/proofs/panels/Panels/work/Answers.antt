-- What was refused has the cause of the command.
use Rattle.std.proofs.Common.{refl, arith}
use Rattle.panel_pair.proofs.ReadingLemmas.{command_cause, reads_later}
use Rattle.panel_pair.proofs.panels.Panels.work.Goals as goal

pub returns-in-Err-clause-reads : goal.returns-in-Err-clause-reads
returns-in-Err-clause-reads g c =
    reads_later (Unit {0}) c.in-Err.error c.in-Err.error _ _ _ _ _ _ refl refl c.in-Err.ensures.same (omega arith) c.in-Err.ensures.cause
    (λ log is. command_cause c.args.command log c.args.self.now.current c.in-Err.error (c.in-Err.ensures.answer log is))

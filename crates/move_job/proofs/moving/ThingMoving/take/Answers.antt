-- A look stopped it: the thing is passed over, or its trouble is told.
use Rattle.std.proofs.Common.{subst}
use Rattle.tree_trait.specs.Change.{current}
use Rattle.move_job.specs.Takings.{LooksStop}
use Rattle.move_job.specs.Movings.{Moving}
use Rattle.move_job.proofs.MovingRuns.{steps_stopped}
use Rattle.move_job.proofs.moving.ThingMoving.take.Goals as goal

pub returns-in-Err : goal.returns-in-Err
returns-in-Err g c =
    steps_stopped c.args.replies c.args.self.now _ _ _ _ _ c.passed_or_troubled.result.did c.passed_or_troubled.result.calls c.passed_or_troubled.ensures.calls
    c.take_up.ensures.peeks.same c.take_up.ensures.peeks.later c.requires.stage c.in-Err.trouble
    (λ log known. subst (λ (m : Moving). LooksStop (current log) m.pair c.in-Err.trouble.cause c.in-Err.trouble.path) c.self.view_is (c.in-Err.ensures.known log known))
    c.in-Err.ensures.peeks.apart c.in-Err.ensures.peeks.fault c.passed_or_troubled.ensures.did

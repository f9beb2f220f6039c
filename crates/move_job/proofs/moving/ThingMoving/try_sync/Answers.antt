-- A sync that was tried, whatever it answered.
use Rattle.move_job.proofs.MovingRuns.{steps_tried}
use Rattle.move_job.proofs.moving.ThingMoving.try_sync.Goals as goal

pub returns : goal.returns
returns g c =
    steps_tried c.args.self.now _ _ _ _ _ c.args.ending c.tried.result.did c.tried.result.calls c.tried.result.left c.owed.result.now c.sync_folder-answer.result
    c.tried.ensures.did c.tried.ensures.calls c.tried.ensures.left c.requires.stage c.owed.ensures c.note_synced.ensures
    (λ log known. c.sync_folder-answer.ensures.answer log known)
    c.sync_folder-answer.ensures.stays_unknown c.sync_folder-answer.ensures.cause

-- A sync that was tried, whatever it answered.
use Rattle.std.proofs.Common.{ap}
use Rattle.emptied_job.specs.declared.removal.RemovalStage.TheVariants.{Finish}
use Rattle.emptied_job.specs.Removals.{Removing}
use Rattle.emptied_job.proofs.RemovalRuns.{steps_tried}
use Rattle.emptied_job.proofs.removal.FolderRemoval.try_sync.Goals as goal

pub returns : goal.returns
returns g c =
    steps_tried c.args.self.now _ _ _ _ _ c.args.ending c.tried.result.did c.tried.result.calls c.tried.result.left c.folder.result.now c.sync_folder-answer.result
    c.tried.ensures.did c.tried.ensures.calls c.tried.ensures.left c.requires.stage c.folder.ensures.is
    (ap (λ (r : Removing). let k : Removing = record r { stage = Finish } in k) c.self.view_is)
    (λ log known. c.sync_folder-answer.ensures.answer log known)
    c.sync_folder-answer.ensures.stays_unknown c.sync_folder-answer.ensures.cause

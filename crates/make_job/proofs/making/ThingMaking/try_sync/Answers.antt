-- A sync that was tried, whatever it answered.
use Rattle.std.proofs.Common.{ap}
use Rattle.make_job.specs.declared.making.MakingStage.TheVariants.{Finish}
use Rattle.make_job.specs.Makings.{Making}
use Rattle.make_job.proofs.MakingRuns.{steps_tried}
use Rattle.make_job.proofs.Answering.{answered_tried}
use Rattle.make_job.proofs.making.ThingMaking.try_sync.Goals as goal

pub returns-clause-winds : goal.returns-clause-winds
returns-clause-winds g c =
    steps_tried c.args.self.now _ _ _ _ _ c.args.ending c.tried.result.did c.tried.result.calls c.tried.result.left c.folder.result.now c.sync_folder-answer.result c.tried.ensures.did c.tried.ensures.calls c.tried.ensures.left
    c.requires.stage c.folder.ensures.holds (ap (λ (m : Making). let k : Making = record m { stage = Finish } in k) c.self.view_is)
    (λ log known. c.sync_folder-answer.ensures.answer log known)
    c.sync_folder-answer.ensures.stays_unknown c.sync_folder-answer.ensures.cause

pub returns-clause-answered : goal.returns-clause-answered
returns-clause-answered g c =
    answered_tried c.args.self.now _ _ c.tried.result.did c.tried.result.left c.folder.result.now c.sync_folder-answer.result c.tried.ensures.did c.tried.ensures.left
    c.folder.ensures.holds c.sync_folder-answer.ensures.told

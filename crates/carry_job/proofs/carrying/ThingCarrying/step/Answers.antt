-- The stage that was taken out is where the carrying stood.
use Rattle.std.proofs.Common.{◌≡◌, true}
use Rattle.carry_job.proofs.Stepping.{going_left, step_from}
use Rattle.carry_job.proofs.carrying.ThingCarrying.step.Goals as goal

pub returns-clause-steps : goal.returns-clause-steps
returns-clause-steps g c =
    step_from (λ path. g.P.PartTest.is_free c.args.parts.now path ≡ true) c.args.replies c.args.self.now c.self.inside.places c.self.inside.stage c.replace-stage.result c.work-moved.result _ _ _ _
    c.replace-stage.ensures.value c.self.view_is c.work-moved.ensures.works

pub returns-clause-going : goal.returns-clause-going
returns-clause-going g c = going_left c.self.inside.places c.work-moved.result.stage c.work-moved.ensures.going

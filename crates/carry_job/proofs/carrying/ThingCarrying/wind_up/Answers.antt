-- The stage that was taken out is where the carrying stood.
use Rattle.carry_job.proofs.Ending.{winds_from}
use Rattle.carry_job.proofs.carrying.ThingCarrying.wind_up.Goals as goal

pub returns : goal.returns
returns g c =
    winds_from c.self.inside.places c.args.ending c.wind-last.result _ _ _ _ c.args.self.now c.self.inside.stage c.replace-stage.result
    c.replace-stage.ensures.value c.self.view_is c.wind-last.ensures.winds

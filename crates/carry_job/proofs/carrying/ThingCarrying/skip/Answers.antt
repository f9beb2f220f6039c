-- The stage that was taken out is where the carrying stood.
use Rattle.std.proofs.Common.{◌∙◌, ap}
use Rattle.carry_job.specs.Carryings.{Carrying, left_at}
use Rattle.carry_job.proofs.Ending.{skips_from, skips_left}
use Rattle.carry_job.proofs.carrying.ThingCarrying.skip.Goals as goal

pub returns-clause-skips : goal.returns-clause-skips
returns-clause-skips c =
    skips_from c.args.self.now c.self.inside.places c.self.inside.stage c.replace-stage.result c.skip-skipped.result.stage c.args.cause c.skip-skipped.result.did
    c.replace-stage.ensures.value c.self.view_is c.skip-skipped.ensures.skips

pub returns-clause-going : goal.returns-clause-going
returns-clause-going c =
    skips_left c.self.inside.places c.replace-stage.result c.skip-skipped.result.stage c.args.cause c.skip-skipped.result.did c.skip-skipped.ensures.skips
    ∙ (ap left_at c.replace-stage.ensures.value ∙ ap (λ (x : Carrying). left_at x.stage) c.self.view_is)

-- The stage that was taken out is where the copy stood.
use Rattle.std.proofs.Common.{◌≡◌, true}
use Rattle.copy_file.proofs.Stepping.{steps_from, tells_ready}
use Rattle.copy_file.proofs.copy.FileCopy.step.Goals as goal

pub returns-clause-steps : goal.returns-clause-steps
returns-clause-steps g c =
    steps_from (λ path. g.P.PartTest.is_free c.args.parts.now path ≡ true) c.args.self.now c.self.inside.item c.self.inside.stage c.replace-stage.result c.self.inside.folder c.work-moved.result _ _ _ _
    c.replace-stage.ensures.value c.self.view_is c.work-moved.ensures.steps

pub returns-clause-ready : goal.returns-clause-ready
returns-clause-ready g c =
    tells_ready c.args.self.now c.work-moved.result.did _
    (steps_from (λ path. g.P.PartTest.is_free c.args.parts.now path ≡ true) c.args.self.now c.self.inside.item c.self.inside.stage c.replace-stage.result c.self.inside.folder c.work-moved.result _ _ _ _
    c.replace-stage.ensures.value c.self.view_is c.work-moved.ensures.steps).tells c.requires

pub returns-clause-sound : goal.returns-clause-sound
returns-clause-sound g c = c.work-moved.ensures.sound

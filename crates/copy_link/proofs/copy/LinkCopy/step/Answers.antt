-- What was seen is where the copy stood.
use Rattle.copy_link.proofs.Stepping.{steps_from}
use Rattle.copy_link.proofs.copy.LinkCopy.step.Goals as goal

pub returns : goal.returns
returns g c =
    steps_from c.args.self.now c.self.inside.places c.self.inside.stage c.self.inside.folder c.work-moved.result _ _ _ _
    c.self.view_is c.work-moved.ensures

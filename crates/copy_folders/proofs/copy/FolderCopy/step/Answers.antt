-- What was seen is where the folder stood.
use Rattle.copy_folders.proofs.Stepping.{steps_from}
use Rattle.copy_folders.proofs.copy.FolderCopy.step.Goals as goal

pub invariant_of-self : goal.invariant_of-self
invariant_of-self g c = (c.work-moved.ensures c.self.inside.source).sound

pub returns-clause-steps : goal.returns-clause-steps
returns-clause-steps g c =
    steps_from c.args.self.now c.self.inside.source c.self.inside.target c.self.inside.stage c.self.inside.names c.work-moved.result _ _ _ _
    c.self.view_is (c.work-moved.ensures c.self.inside.source).steps

pub returns-clause-sound : goal.returns-clause-sound
returns-clause-sound g c = (c.work-moved.ensures c.self.inside.source).sound

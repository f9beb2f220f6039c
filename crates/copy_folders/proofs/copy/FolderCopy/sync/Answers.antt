-- What was seen is where the folder stood.
use Rattle.copy_folders.proofs.Stepping.{syncs_from}
use Rattle.copy_folders.proofs.copy.FolderCopy.sync.Goals as goal

pub returns-clause-steps : goal.returns-clause-steps
returns-clause-steps g c =
    syncs_from c.args.self.now c.self.inside.source c.self.inside.target c.self.inside.stage c.self.inside.names c.sync-moved.result _ _ _ _
    c.self.view_is c.sync-moved.ensures.stays (c.sync-moved.ensures.moves c.self.inside.source).steps

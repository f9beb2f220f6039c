-- The sync of the folder was tried.
use Rattle.copy_file.proofs.winding.sync_or_end.Goals as goal

pub returns-in-Dirty : goal.returns-in-Dirty
returns-in-Dirty g c = rw c.in-Dirty.is (c.try_sync.ensures c.args.ending)

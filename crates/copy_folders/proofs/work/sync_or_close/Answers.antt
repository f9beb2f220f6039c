-- A folder that is dirty.
use Rattle.std.proofs.Common.{None}
use Rattle.copy_folders.specs.declared.stage.Stage.TheVariants.{Close}
use Rattle.copy_folders.specs.declared.stage.NamesState.TheVariants.{Dirty}
use Rattle.copy_folders.proofs.Stepping.{moves_with}
use Rattle.copy_folders.proofs.work.sync_or_close.Goals as goal

pub returns-in-Dirty : goal.returns-in-Dirty
returns-in-Dirty g c =
    moves_with c.args.target.now (Close None) c.args.names Dirty c.sync.result _ _ _ _ c.in-Dirty.is c.sync.ensures.moves

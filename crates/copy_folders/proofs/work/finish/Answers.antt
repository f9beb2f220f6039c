-- A mode that is owed, and none.
use Rattle.std.proofs.Common.{ap, Some, None}
use Rattle.copy_folders.specs.declared.stage.Stage.TheVariants.{Close}
use Rattle.copy_folders.proofs.Stepping.{moves_at}
use Rattle.copy_folders.proofs.work.finish.Goals as goal

pub returns-in-Some : goal.returns-in-Some
returns-in-Some g c =
    moves_at c.args.target.now (Close c.args.owed) (Close (Some c.in-Some.mode)) c.args.names c.give_mode.result _ _ _ _ (ap Close c.in-Some.is) c.give_mode.ensures

pub returns-in-None : goal.returns-in-None
returns-in-None g c =
    moves_at c.args.target.now (Close c.args.owed) (Close None) c.args.names c.sync_or_close.result _ _ _ _ (ap Close c.in-None.is) c.sync_or_close.ensures

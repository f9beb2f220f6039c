-- Each stage is a function of its own.
use Rattle.copy_folders.specs.declared.stage.Stage.TheVariants.{Make, Close}
use Rattle.copy_folders.proofs.Stepping.{moves_at}
use Rattle.copy_folders.proofs.work.work.Goals as goal

pub returns-in-Make : goal.returns-in-Make
returns-in-Make g c =
    moves_at c.args.target.now c.args.stage (Make c.in-Make.mode) c.args.names c.make.result _ _ _ _ c.in-Make.is c.make.ensures

pub returns-in-Close : goal.returns-in-Close
returns-in-Close g c =
    moves_at c.args.target.now c.args.stage (Close c.in-Close.owed) c.args.names c.finish.result _ _ _ _ c.in-Close.is c.finish.ensures

-- The part of a file is to be removed first.
use Rattle.carry_job.specs.declared.stage.CarryStage.TheVariants.{File}
use Rattle.carry_job.proofs.Ending.{winds_at}
use Rattle.carry_job.proofs.winding.wind.Goals as goal

pub returns-in-File-clause-winds : goal.returns-in-File-clause-winds
returns-in-File-clause-winds g c =
    winds_at c.args.places.now c.args.ending c.wind_file.result _ _ _ _ c.args.stage (File c.in-File.copy) c.in-File.is (c.wind_file.ensures.winds c.args.ending)

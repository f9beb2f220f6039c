-- How far the copy of a file or a link is.
use Rattle.copy_file.specs.declared.stage.Stage.{Stage}
use Rattle.copy_file.specs.declared.stage.Stage.TheVariants as stage
use Rattle.copy_link.specs.declared.stage.Stage.{Stage as LinkStage}
use Rattle.copy_link.specs.declared.stage.Stage.TheVariants as link
use Rattle.copy_tree.specs.declared.progress.Progress.{Progress}
use Rattle.copy_tree.specs.declared.progress.Progress.TheVariants.{UnderWay, Decided, Anew}

-- A part stands; or none does, and the file is decided, or to be begun.
abbrev pub progress : Stage → Progress
progress (stage.Fill part facts done) = UnderWay
progress (stage.Clean part follows) = UnderWay
progress (stage.Left part) = UnderWay
progress stage.Decided = Decided
progress stage.Begin = Anew

abbrev pub link_progress : LinkStage → Progress
link_progress link.Place = UnderWay
link_progress (link.Clean follows) = UnderWay
link_progress link.Left = UnderWay
link_progress link.Decided = Decided
link_progress link.Make = Anew
link_progress link.Again = Anew

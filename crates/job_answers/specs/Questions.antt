-- When it is asked whether a thing is to be replaced.
use Rattle.std.specs.Prelude.{◌≡◌, Option, Some, None}
use Rattle.mc_text.specs.declared.kind.Kind.{Kind}
use Rattle.mc_text.specs.declared.kind.Kind.TheVariants.{File, Folder, Link, Other}
use Rattle.job_answers.specs.declared.placing.Origin.{Origin}
use Rattle.job_answers.specs.declared.placing.Origin.TheVariants.{Copied, Moved, Saved}
use Rattle.job_answers.specs.declared.placing.Placing.{Placing}
use Rattle.job_answers.specs.declared.placing.Placing.TheVariants.{Free, Merges, Asks, Replaces}
use Rattle.job_answers.specs.declared.placing.Placing.TheVariants.{TargetKind, SpecialSource}

-- a thing that is no folder comes to a target where a file or a link stands
abbrev pub onto_a_file : Origin → Placing
onto_a_file Saved = Replaces
onto_a_file (Copied Other) = SpecialSource
onto_a_file (Copied kind) = Asks
onto_a_file (Moved kind) = Asks

-- a thing that is no folder comes to a target where a thing of this kind stands
abbrev pub onto : Origin → Kind → Placing
onto origin Folder = TargetKind Folder
onto origin Other = TargetKind Other
onto origin File = onto_a_file origin
onto origin Link = onto_a_file origin

-- a folder comes to a target where a thing of this kind stands
abbrev pub folder_onto : Kind → Placing
folder_onto Folder = Merges
folder_onto kind = TargetKind kind

-- What comes of a thing at its target. Exactly one of the two is a folder, or the target is special: a
-- trouble, which goes before that of a special source. Else it is asked, but for a save.
abbrev pub placing_at : Origin → Option Kind → Placing
placing_at (Copied Folder) (Some kind) = folder_onto kind
placing_at (Moved Folder) (Some kind) = folder_onto kind
placing_at origin (Some kind) = onto origin kind
placing_at (Copied Other) None = SpecialSource
placing_at origin None = Free

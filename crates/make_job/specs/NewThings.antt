-- What is made anew, and the call that makes it.
use Rattle.std.specs.Prelude.{⊤}
use Rattle.mc_text.specs.Routes.{Route}
use Rattle.tree_trait.specs.Answers.{IsLinkText}
use Rattle.tree_trait.specs.Calls.{Call, MakeFolder, MakeLink}
use Rattle.job_reports.specs.declared.row.JobKind.{JobKind}
use Rattle.job_reports.specs.declared.row.JobKind.TheVariants as kind
use Rattle.job_reports.specs.Jobs.{new_folder_mode}
use Rattle.make_job.specs.declared.new_thing.NewThing.{NewThing}
use Rattle.make_job.specs.declared.new_thing.NewThing.TheVariants.{Folder, Link}

-- a folder can be made, and a link that may say this
abbrev pub IsMakable : NewThing → Type 0
IsMakable Folder = ⊤
IsMakable (Link text) = IsLinkText text

-- the call that makes it
abbrev pub making_call : NewThing → Route → Call
making_call Folder path = MakeFolder path new_folder_mode
making_call (Link text) path = MakeLink path text

-- what a job is called that makes it
abbrev pub making_kind : NewThing → JobKind
making_kind Folder = kind.MakeFolder
making_kind (Link text) = kind.MakeLink

-- The sources of a job, one after another, and when it is done with one.
use Rattle.std.specs.Prelude.{◌≡◌, ℕ, Bool, false, List, [], ◌∷◌, map, Option, None}
use Rattle.std.specs.List.{list_all}
use Rattle.job_reports.specs.declared.job.Job.{Job}
use Rattle.job_reports.specs.declared.job.Job.TheVariants.{Copy, Move, Delete, MakeFolder}
use Rattle.job_reports.specs.declared.job.Job.TheVariants.{MakeLink, SetMode, RemoveEmptied}
use Rattle.job_reports.specs.declared.report.Did.TheVariants.{Ended}
use Rattle.job_reports.specs.declared.report.Ending.TheVariants.{Finished}
use Rattle.job_reports.specs.Jobs.{ItemOfJob, is_workable, item_of}
use Rattle.session_entries.specs.declared.history.Event.{Event}
use Rattle.session_entries.specs.declared.history.Event.TheVariants.{Step, Next}

-- the plans of a job's sources, one by one; a job of one thing is its own
abbrev pub sources_of : Job → List Job
sources_of (Copy pairs) = map (λ pair. Copy (pair ∷ [])) pairs
sources_of (Move pairs) = map (λ pair. Move (pair ∷ [])) pairs
sources_of (Delete paths) = map (λ path. Delete (path ∷ [])) paths
sources_of (MakeFolder path) = MakeFolder path ∷ []
sources_of (MakeLink path text) = MakeLink path text ∷ []
sources_of (SetMode paths mode) = map (λ path. SetMode (path ∷ []) mode) paths
sources_of (RemoveEmptied path) = RemoveEmptied path ∷ []

-- there are some, and each can be worked
abbrev pub are_some_workable : List Job → Bool
are_some_workable [] = false
are_some_workable (source ∷ more) = list_all is_workable (source ∷ more)

-- a job that can be worked: it has a source, and each can be; its sources are worked one after another
abbrev pub are_workable : Job → Bool
are_workable job = are_some_workable (sources_of job)

-- the item with which a job begins: that of its first source
abbrev pub item_in : List Job → Option ItemOfJob
item_in [] = None
item_in (source ∷ more) = item_of source

abbrev pub first_item : Job → Option ItemOfJob
first_item job = item_in (sources_of job)

-- The event tells that the job with this number is done with one of its sources: it goes on with the
-- next one, or is finished.
abbrev pub IsDoneWith : ℕ → Event → Type 0
IsDoneWith id (Next number plan) = number ≡ id
IsDoneWith id (Step number (Ended Finished part)) = number ≡ id
IsDoneWith id event = ⊥

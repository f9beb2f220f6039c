-- Which sources of a job are left, and that they are worked in the order of its plan; what a folder that is
-- merged adds to them. Histories stand newest first here.
use Rattle.std.specs.Prelude.{◌≡◌, ℕ, ⊤, List, [], ◌∷◌, ◌++◌, map, if◌then◌else◌}
use Rattle.job_reports.specs.declared.job.Job.{Job}
use Rattle.job_reports.specs.declared.job.Job.TheVariants.{Copy, Move, RemoveEmptied}
use Rattle.job_reports.specs.declared.job.Pair.{Pair}
use Rattle.job_reports.specs.declared.report.Did.{Did}
use Rattle.job_reports.specs.declared.report.Did.TheVariants.{Ended, Merges}
use Rattle.job_reports.specs.declared.report.Ending.TheVariants.{Finished}
use Rattle.job_reports.specs.declared.report.Transfer.{Transfer}
use Rattle.job_reports.specs.declared.report.Transfer.TheVariants.{ByCopy, ByMove}
use Rattle.job_reports.specs.Reports.{ends}
use Rattle.session_entries.specs.declared.history.Event.{Event}
use Rattle.session_entries.specs.declared.history.Event.TheVariants.{Key, Look, Sought, Order}
use Rattle.session_entries.specs.declared.history.Event.TheVariants.{Step, Next, Closed}
use Rattle.session_entries.specs.declared.history.Event.TheVariants as event
use Rattle.session_entries.specs.declared.history.Entry.{Entry}
use Rattle.session_entries.specs.Sources.{sources_of}

-- all but the first
abbrev pub later : List Job → List Job
later [] = []
later (source ∷ more) = more

-- what lies in a folder that is merged has this name there, and comes to the same name in
-- the folder at its target
abbrev pub pair_within : Pair → List ℕ → Pair
pair_within pair name = record { source = name ∷ pair.source; target = name ∷ pair.target }

-- it is copied or moved, with all that lies in it
abbrev pub child_in : Transfer → Pair → List ℕ → Job
child_in ByCopy pair name = Copy (pair_within pair name ∷ [])
child_in ByMove pair name = Move (pair_within pair name ∷ [])

-- What lies in a folder that is merged with the one at its target, by these names, is copied or moved
-- next, one thing after another. Behind what is moved comes the removal of the folder itself, which is
-- kept where something stayed in it.
abbrev pub children_in : Transfer → Pair → List (List ℕ) → List Job
children_in ByCopy pair names = map (child_in ByCopy pair) names
children_in ByMove pair names = map (child_in ByMove pair) names ++ RemoveEmptied pair.source ∷ []

-- the sources that are left once a step has reported this
abbrev pub left_by : Did → List Job → List Job
left_by (Merges transfer pair names) left = children_in transfer pair names ++ left
left_by did left = if ends did then [] else left

-- the sources that the live job is yet to take up, after an event
abbrev pub left_after : Event → List Job → List Job
left_after (event.Began id plan background) left = later (sources_of plan)
left_after (Next id plan) left = later left
left_after (Step id did) left = left_by did left
left_after (Key key now refusals lost) left = left
left_after (Look refusals) left = left
left_after Sought left = left
left_after (Order id order) left = left
left_after Closed left = left

-- after these entries
abbrev pub sources_left : List Entry → List Job
sources_left [] = []
sources_left (e ∷ older) = left_after e.what (sources_left older)

-- what a job goes on with is the first source that is left, and it is finished only where none is
abbrev pub IsInTurn : Event → List Job → Type 0
IsInTurn (Next id plan) left = (more : List Job) × (left ≡ plan ∷ more)
IsInTurn (Step id (Ended Finished part)) left = left ≡ []
IsInTurn event left = ⊤

abbrev pub AreInTurn : List Entry → Type 0
AreInTurn [] = ⊤
AreInTurn (e ∷ older) = IsInTurn e.what (sources_left older) × AreInTurn older

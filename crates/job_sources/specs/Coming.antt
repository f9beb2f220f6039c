-- The sources that a job is yet to take up, as they are kept: what lies in a folder by its names alone.
use Rattle.std.specs.Prelude.{ℕ, Bool, true, false, not, ◌&&◌, is_some, List, [], ◌∷◌, ◌++◌, reverse}
use Rattle.mc_text.specs.Routes.{parent_of, same_path}
use Rattle.job_reports.specs.declared.job.Job.{Job}
use Rattle.job_reports.specs.declared.job.Pair.{Pair}
use Rattle.job_reports.specs.declared.report.Transfer.{Transfer}
use Rattle.job_reports.specs.declared.report.Transfer.TheVariants.{ByCopy, ByMove}
use Rattle.job_reports.specs.Jobs.{is_workable}
use Rattle.session_entries.specs.SourcesLeft.{children_in}
use Rattle.job_sources.specs.declared.left.Left.{Left}
use Rattle.job_sources.specs.declared.left.Left.TheVariants.{Children, Planned}

-- the sources in one place: a plan alone, or those that a merge of a folder leaves, by the names of what
-- lies in it, the last one first
abbrev pub sources_at : Left → List Job
sources_at (Planned source) = source ∷ []
sources_at (Children transfer pair names) = children_in transfer pair (reverse names)

abbrev pub sources_from : List Left → List Job
sources_from [] = []
sources_from (place ∷ more) = sources_at place ++ sources_from more

abbrev pub has_names : List (List ℕ) → Bool
has_names [] = false
has_names (name ∷ names) = true

-- a merge of a folder with these names leaves no source; behind what is moved out of one comes its removal
abbrev pub leaves_none : Transfer → List (List ℕ) → Bool
leaves_none ByCopy names = not (has_names names)
leaves_none ByMove names = false

-- a folder out of which things are moved can be removed, and is another one than that into which they come
abbrev pub is_apart : Pair → Bool
is_apart pair = is_some (parent_of pair.source) && not (same_path pair.source pair.target)

-- some source stands there, and each can be worked
abbrev pub is_sound : Left → Bool
is_sound (Planned source) = is_workable source
is_sound (Children ByCopy pair names) = has_names names
is_sound (Children ByMove pair names) = is_apart pair

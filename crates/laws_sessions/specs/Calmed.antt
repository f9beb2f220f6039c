-- Once a job has made its first change, nothing that an ended job changed is in doubt on its mount, nor
-- anything else but what that change names, what another live job named last, and parts that were left; in
-- the words of the history alone. Histories stand newest first here.
use Rattle.std.specs.Prelude.{◌≡◌, ◌⊎◌, ℕ, Bool, true, false, ◌||◌, List, ◌∷◌, Some}
use Rattle.mc_text.specs.Routes.{Route, same_path}
use Rattle.tree_trait.specs.Change.{CallLog}
use Rattle.tree_trait.specs.CrashImages.{Among}
use Rattle.job_reports.specs.declared.report.Did.{Did}
use Rattle.job_reports.specs.declared.report.Did.TheVariants.{Moved}
use Rattle.job_reports.specs.Paths.{folder_of}
use Rattle.session_entries.specs.declared.history.Event.TheVariants.{Step}
use Rattle.session_entries.specs.declared.history.Entry.{Entry}
use Rattle.job_reports.specs.Jobs.{ItemOfJob, folder_changed}
use Rattle.laws_sessions.specs.Doubt.{name_waits, node_waits}
use Rattle.session_entries.specs.LiveJobs.{live_jobs, live_item}
use Rattle.laws_sessions.specs.ApartFolders.{IsApart}
use Rattle.laws_sessions.specs.OwnPaths.{IsOfAnother}
use Rattle.session_entries.specs.Named.{begins_change, has_changed, named_parts, names}
use Rattle.laws_sessions.specs.Replayed.{log_prefix}
use Rattle.session_entries.specs.Entries.{IsMoment, calls_in}

-- This entry, after the older ones, is the report of the first change of a job that
-- changes names in this folder.
pub record HasBegun (e : Entry) (older : List Entry) (folder : Route) : Type 0 where
  pub id : ℕ
  pub did : Did
  pub item : ItemOfJob
  pub reports : e.what ≡ Step id did
  pub begins : begins_change did ≡ true
  pub unchanged : has_changed id older ≡ false
  pub its : live_item id (live_jobs older) ≡ Some item
  pub within : folder ≡ folder_changed item

-- what is reported changes the name of this path: of a move only one of its two paths, and none below them
abbrev pub changes_name : Did → Route → Bool
changes_name (Moved pair) path = same_path path pair.source || same_path path pair.target
changes_name did path = names did path

-- what is reported changes what stands at this path, or its mode: a move changes nothing of what it moves
abbrev pub changes_thing : Did → Route → Bool
changes_thing (Moved pair) path = false
changes_thing did path = names did path

-- When such an entry has come to stand, a path of whose name a change isn't on the disk yet is one whose
-- name this entry changes, or it waited before, and its folder lay on another mount then, or was removed;
-- but for what another live job named last, which that one sees to. One of which a mode isn't, parts aside,
-- is one that it changes, or waited before, and lay itself on another mount; or a part that an ended job
-- left lies there now, with what was moved.
pub record CalmsOthers (opening now : CallLog) (newest : List Entry) : Type 0 where
  pub names : (e : Entry) (older : List Entry) (folder path : Route) (begun : HasBegun e older folder)
      → IsMoment newest (e ∷ older) (e ∷ older) e.calls → (IsOfAnother begun.id older path → ⊥)
      → name_waits (log_prefix opening e.calls now) path ≡ true
      → (changes_name begun.did path ≡ true)
      ⊎ ((name_waits (log_prefix opening (calls_in older) now) path ≡ true)
      × IsApart (log_prefix opening (calls_in older) now) folder (folder_of path))
  pub modes : (e : Entry) (older : List Entry) (folder path : Route) (begun : HasBegun e older folder)
      → IsMoment newest (e ∷ older) (e ∷ older) e.calls → (IsOfAnother begun.id older path → ⊥)
      → (Among (named_parts older) path → ⊥) → node_waits (log_prefix opening e.calls now) path ≡ true
      → (changes_thing begun.did path ≡ true) ⊎ (Among (named_parts (e ∷ older)) path
      ⊎ ((node_waits (log_prefix opening (calls_in older) now) path ≡ true)
      × IsApart (log_prefix opening (calls_in older) now) folder path))

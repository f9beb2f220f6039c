-- What a crash leaves of a thing that is moved: in one and the same image it is whole at its source or at
-- its target, with all that lies in it. Histories stand newest first here.
use Rattle.std.specs.Prelude.{◌≡◌, ◌⊎◌, ℕ, ◌+◌, Bool, true, false, ◌||◌, is_some}
use Rattle.std.specs.Prelude.{List, [], ◌∷◌, ◌++◌, length}
use Rattle.tree_trait.specs.declared.file_system.FileSystem.{FileSystem}
use Rattle.mc_text.specs.Routes.{Route, is_prefix}
use Rattle.tree_trait.specs.FileSystem.{View, value_at}
use Rattle.tree_trait.specs.Change.{CallLog}
use Rattle.tree_trait.specs.CrashImages.{Among, IsCrashImage}
use Rattle.job_reports.specs.declared.job.Pair.{Pair}
use Rattle.job_reports.specs.declared.report.Did.TheVariants.{Moved}
use Rattle.session_entries.specs.declared.history.Event.{Event}
use Rattle.session_entries.specs.declared.history.Event.TheVariants.{Step}
use Rattle.session_entries.specs.declared.history.Entry.{Entry}
use Rattle.session_entries.specs.Entries.{IsMoment}
use Rattle.session_entries.specs.Named.{named_parts, names_path}
use Rattle.laws_sessions.specs.Replayed.{replayed_tree}

-- of two paths one is the other, or lies below it
abbrev pub meets : Route → Route → Bool
meets one other = is_prefix one other || is_prefix other one

-- the event names no path that meets one of these two
abbrev pub Spares : Route → Route → Event → Type 0
Spares source target what =
    (path : Route) → (meets source path || meets target path) ≡ true → names_path what path ≡ false

-- these entries are the first ones with more on top, of which none names such a path
abbrev pub AreSparedSince : Pair → List Entry → List Entry → Type 0
AreSparedSince pair first [] = first ≡ []
AreSparedSince pair first (e ∷ entries) =
    (first ≡ e ∷ entries) ⊎ (Spares pair.source pair.target e.what × AreSparedSince pair first entries)

-- there stands, in this image, what stood elsewhere, with all that lay in it, each thing with its bytes
-- and its mode; but for parts
abbrev pub StandsAllAt : FileSystem → Route → List Route → View → Route → Type 0
StandsAllAt image top parts stood source = (rest : Route) → (Among parts (rest ++ source) → ⊥)
    → value_at image (rest ++ top) ≡ (stood (rest ++ source)).value

-- Something stood at the source, and it stands there, with all that lay in it, or it stands so at the target.
pub record IsWholeAt (image : FileSystem) (pair : Pair) (parts : List Route) (stood : View) : Type 0 where
  pub some : is_some (stood pair.source).value ≡ true
  pub stands : StandsAllAt image pair.source parts stood pair.source
      ⊎ StandsAllAt image pair.target parts stood pair.source

-- From the entry that tells of a move on, and within it, until another one names a path that meets one of
-- the two, of whichever job, each crash image has at the source or at the target what the history says of
-- the source before that entry, with all that lay in it, but for parts, at each moment, inside a call too:
-- whether the move was finished, or aborted before its folders were synced, and whatever is changed elsewhere
-- since, on this mount or on another one. What stays of a source with which the job is done `DoneLaw` says:
-- then the target has it for good.
abbrev pub LeavesWhole : CallLog → CallLog → List Entry → Type 0
LeavesWhole opening now newest =
    (older standing coming : List Entry) (e : Entry) (id : ℕ) (pair : Pair) (calls : ℕ) (image : FileSystem)
    → e.what ≡ Step id (Moved pair) → IsMoment newest standing coming calls
    → AreSparedSince pair (e ∷ older) coming → IsCrashImage now (length opening.changes + calls) image
    → IsWholeAt image pair (named_parts older) (replayed_tree opening now older)

-- Several changing calls in a row, and their answers.
use Rattle.std.specs.Prelude.{◌≡◌, ◌⊎◌, ℕ, ◌+◌, ◌<◌, List, [], ◌∷◌, length, take, Option, Some, None, Ok, Err}
use Rattle.mc_text.specs.Routes.{Route}
use Rattle.tree_trait.specs.Calls.{Call, Stat, ListFolder, ReadAt, ReadLink, MakeFile}
use Rattle.tree_trait.specs.Calls.{WriteAt, SetMode, MakeFolder, MakeLink, Rename}
use Rattle.tree_trait.specs.Calls.{RemoveFile, RemoveFolder, SyncFile, SyncFolder}
use Rattle.tree_trait.specs.Change.{CallLog}
use Rattle.tree_trait.specs.Answers.{Performs}
use Rattle.tree_trait.specs.declared.calls.TreeError.{TreeError}
use Rattle.job_reports.specs.declared.report.Cause.{Cause}
use Rattle.job_reports.specs.declared.report.Cause.TheVariants.{Tree, TargetKind, SpecialSource, TooDeep}
use Rattle.job_reports.specs.declared.report.Cause.TheVariants.{PartTaken, TooLong, Unnamed, Changed, Memory}

-- all were done, one after the other
abbrev pub AllDone : CallLog → List Call → Option CallLog → Type 0
AllDone log [] after = after ≡ Some log
AllDone log (call ∷ more) after =
    (mid : CallLog) × Performs {A = Unit {0}} log call (Ok tt) (Some mid) × AllDone mid more after

-- one was refused with this error, and those before it were done
abbrev pub StopsAt : CallLog → List Call → Call → TreeError → Option CallLog → Type 0
StopsAt log [] call e after = ⊥
StopsAt log (first ∷ more) call e after =
    ((call ≡ first) × Performs {A = Unit {0}} log first (Err e) after)
    ⊎ ((mid : CallLog) × Performs {A = Unit {0}} log first (Ok tt) (Some mid) × StopsAt mid more call e after)

-- the path that a trouble names for a refused call: of a renaming it is the new name
abbrev pub path_of : Call → Route
path_of (Stat path) = path
path_of (ListFolder path) = path
path_of (ReadAt path offset count) = path
path_of (ReadLink path) = path
path_of (MakeFile path mode) = path
path_of (WriteAt path offset bytes) = path
path_of (SetMode path mode) = path
path_of (MakeFolder path mode) = path
path_of (MakeLink path text) = path
path_of (Rename from to) = to
path_of (RemoveFile path) = path
path_of (RemoveFolder path) = path
path_of (SyncFile path) = path
path_of (SyncFolder path) = path

-- The trouble of calls in a row: one is refused, or there is no memory for one, and
-- those before it were done.
abbrev pub RunStops : List Call → Cause → Option Route → CallLog → Option CallLog → Type 0
RunStops calls (Tree e) path log after =
    (call : Call) × (path ≡ Some (path_of call)) × StopsAt log calls call e after
RunStops calls Memory path log after =
    (path ≡ None) × ((count : ℕ) × (count < length calls) × AllDone log (take count calls) after)
RunStops calls (TargetKind kind) path log after = ⊥
RunStops calls SpecialSource path log after = ⊥
RunStops calls TooDeep path log after = ⊥
RunStops calls (Unnamed count) path log after = ⊥
RunStops calls PartTaken path log after = ⊥
RunStops calls TooLong path log after = ⊥
RunStops calls (Changed said got) path log after = ⊥

-- the log has so many calls more
abbrev pub HasMore : CallLog → ℕ → CallLog → Type 0
HasMore log calls now = length now.changes ≡ length log.changes + calls

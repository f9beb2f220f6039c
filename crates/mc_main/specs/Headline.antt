-- What a run of the file manager promises of the tree and of what a crash leaves of it.
use Rattle.std.specs.Prelude.{◌≡◌, ◌⊎◌, ℕ, ◌+◌, true, List, length}
use Rattle.mc_text.specs.Routes.{Route}
use Rattle.tree_trait.specs.declared.file_system.FileSystem.{FileSystem}
use Rattle.tree_trait.specs.FileSystem.{visible_tree}
use Rattle.tree_trait.specs.Shape.{IsTree}
use Rattle.tree_trait.specs.Change.{CallLog, current}
use Rattle.tree_trait.specs.CrashImages.{all_settled, IsCrashImage}
use Rattle.session_entries.specs.declared.history.Entry.{Entry}
use Rattle.laws_sessions.specs.Calmed.{CalmsOthers}
use Rattle.laws_sessions.specs.Replayed.{log_prefix, replayed_tree}
use Rattle.session_entries.specs.Entries.{IsMoment}
use Rattle.laws_sessions.specs.Safe.{IsSafe}
use Rattle.laws_sessions.specs.Staying.{StaysDone, StaysOnDisk}
use Rattle.laws_sessions.specs.Whole.{LeavesWhole}
use Rattle.laws_outcomes.specs.PowerCut.{KeepsAll}

-- What a power cut leaves, at each moment of a run, keeps the files: the six sentences of `KeepsFiles` hold,
-- where the tree had the shape of one at the opening, with nothing pending.
abbrev pub IsKeepingRun : CallLog → CallLog → List Entry → Type 0
IsKeepingRun opening now newest = IsTree (current opening) → all_settled opening.changes ≡ true
    → KeepsAll opening now newest

-- What a crash leaves, at each moment of a run, is safe, where the tree had the shape of one at the
-- opening, with nothing pending: as of the entries that stand, or with the one that is under way.
abbrev pub IsSafeRun : CallLog → CallLog → List Entry → Type 0
IsSafeRun opening now newest =
    IsTree (current opening) → all_settled opening.changes ≡ true
    → (standing coming : List Entry) (calls : ℕ) (image : FileSystem)
    → IsMoment newest standing coming calls → IsCrashImage now (length opening.changes + calls) image
    → IsSafe opening now standing (log_prefix opening calls now) image
    ⊎ IsSafe opening now coming (log_prefix opening calls now) image

-- A thing that is moved is whole at its source or at its target in one and the same image, with all
-- that lies in it, but for parts, from the entry that tells of it on, and within it, until another one
-- names a path that meets one of the two.
abbrev pub IsWholeRun : CallLog → CallLog → List Entry → Type 0
IsWholeRun opening now newest = IsTree (current opening) → all_settled opening.changes ≡ true
    → LeavesWhole opening now newest

-- what a finished job did stays done
abbrev pub IsFinishedRun : CallLog → CallLog → List Entry → Type 0
IsFinishedRun opening now newest = IsTree (current opening) → all_settled opening.changes ≡ true
    → StaysDone opening now newest

-- what is on the disk stays there until an entry names it, whichever job brought it there
abbrev pub IsStayingRun : CallLog → CallLog → List Entry → Type 0
IsStayingRun opening now newest = IsTree (current opening) → all_settled opening.changes ≡ true
    → StaysOnDisk opening now newest

-- once a job has made its first change, nothing is in doubt on its mount but what that change names, and
-- what another live job named last
abbrev pub IsCalmedRun : CallLog → CallLog → List Entry → Type 0
IsCalmedRun opening now newest = IsTree (current opening) → all_settled opening.changes ≡ true
    → CalmsOthers opening now newest

-- The log goes on from the opening, and what can be seen at its end is at each path what the
-- history makes of the opening.
pub record ShowsAll (opening : CallLog) (newest : List Entry) (now : CallLog) : Type 0 where
  pub base : now.opening ≡ opening.opening
  pub tree : IsTree (current now)
  pub shows : (path : Route) → visible_tree (current now) path ≡ replayed_tree opening now newest path

-- so it is at the end of a run, where no job is live
abbrev pub IsReplayedRun : CallLog → CallLog → List Entry → Type 0
IsReplayedRun opening now newest = IsTree (current opening) → all_settled opening.changes ≡ true
    → ShowsAll opening newest now

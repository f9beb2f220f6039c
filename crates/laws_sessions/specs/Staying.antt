-- What is on the disk stays on the disk until an entry names it again; so what a finished job did stays
-- done. Histories stand newest first here.
use Rattle.std.specs.Prelude.{◌≡◌, ℕ, ◌+◌, Bool, true, false, List, ◌∷◌, length, Some}
use Rattle.mc_text.specs.Routes.{Route}
use Rattle.tree_trait.specs.declared.file_system.FileSystem.{FileSystem}
use Rattle.tree_trait.specs.FileSystem.{value_at}
use Rattle.tree_trait.specs.Change.{CallLog}
use Rattle.tree_trait.specs.CrashImages.{Among, IsCrashImage}
use Rattle.session_entries.specs.declared.history.Entry.{Entry}
use Rattle.job_reports.specs.Jobs.{ItemOfJob, Sets}
use Rattle.laws_sessions.specs.Doubt.{IsMountInDoubt, name_waits, node_waits}
use Rattle.laws_sessions.specs.OwnPaths.{IsOwnPath}
use Rattle.session_entries.specs.LiveJobs.{IsLivePart, live_jobs, live_item}
use Rattle.session_entries.specs.Sources.{IsDoneWith}
use Rattle.session_entries.specs.Named.{has_changed, named_parts, names_path, IsUnnamedSince}
use Rattle.laws_sessions.specs.Replayed.{log_prefix, replayed_tree}
use Rattle.session_entries.specs.Entries.{IsMoment, calls_in}
use Rattle.laws_sessions.specs.Safe.{IsPart}

-- What no change waits for where the older entries ended, none waits for at any later moment, inside a call
-- too, until an entry names the path.
abbrev pub Lasts : (CallLog → Route → Bool) → (List Entry → Route → Type 0)
    → CallLog → CallLog → List Entry → Type 0
Lasts waits excepted opening now newest = (older standing coming : List Entry) (calls : ℕ) (path : Route)
    → IsMoment newest standing coming calls
    → IsUnnamedSince older path standing → IsUnnamedSince older path coming
    → waits (log_prefix opening (calls_in older) now) path ≡ false → (excepted older path → ⊥)
    → waits (log_prefix opening calls now) path ≡ false

-- what is on the disk stays there until an entry names the path again
pub record StaysOnDisk (opening now : CallLog) (newest : List Entry) : Type 0 where
  -- a name, of whatever job; but for the part of a live job
  pub names : Lasts name_waits (λ older path. IsLivePart (live_jobs older) path) opening now newest
  -- the bytes and the mode of what stands there; but for what was named as a part
  pub modes : Lasts node_waits (λ older path. Among (named_parts older) path) opening now newest

-- a mount in doubt is no matter of a job that changes names around it
abbrev pub IsNoMatterOf : ItemOfJob → CallLog → Route → Type 0
IsNoMatterOf (Sets thing mode) log path = ⊥
IsNoMatterOf item log path = IsMountInDoubt log path

-- This entry, after the older ones, tells of a job that it is done with a source: it is finished, or goes
-- on with the next one. There it has changed something, and this path is its own.
pub record HasFinished (e : Entry) (older : List Entry) (path : Route) : Type 0 where
  pub id : ℕ
  pub item : ItemOfJob
  pub ended : IsDoneWith id e.what
  pub changed : has_changed id older ≡ true
  pub its : live_item id (live_jobs older) ≡ Some item
  pub own : IsOwnPath id item older path

-- The same in the words of the history alone: once a job that has changed something is done with a source,
-- each path of its own holds after a crash at any later moment, inside a call too, what the history said
-- then, until an entry names it; but for a part that still stood there then or whose last change wasn't on
-- the disk, and a part that its end names. So a finished copy leaves none of the parts that it made,
-- nothing that a finished deletion removed comes back, also where its folder goes later, what stays in a
-- folder that was kept, stays, and a mode that was set is there. Mounts in doubt are excepted, too.
abbrev pub StaysDone : CallLog → CallLog → List Entry → Type 0
StaysDone opening now newest =
    (e : Entry) (older standing coming : List Entry) (calls : ℕ) (path : Route) (image : FileSystem)
    → (h : HasFinished e older path) → (IsPart (e ∷ older) (log_prefix opening e.calls now) path → ⊥) →
    names_path e.what path ≡ false → (IsNoMatterOf h.item (log_prefix opening (calls_in older) now) path → ⊥)
    → IsMoment newest standing coming calls → IsUnnamedSince (e ∷ older) path standing
    → IsUnnamedSince (e ∷ older) path coming
    → IsCrashImage now (length opening.changes + calls) image
    → value_at image path ≡ (replayed_tree opening now older path).value

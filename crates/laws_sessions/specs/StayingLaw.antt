-- The laws of what stays on the disk. Histories stand newest first here.
use Rattle.std.specs.Prelude.{◌≡◌, ℕ, ◌+◌, Bool, true, false, List, [], ◌∷◌, length, Option, Some}
use Rattle.mc_text.specs.Routes.{Route}
use Rattle.tree_trait.specs.declared.file_system.FileSystem.{FileSystem}
use Rattle.tree_trait.specs.FileSystem.{value_at}
use Rattle.tree_trait.specs.Shape.{IsTree}
use Rattle.tree_trait.specs.Change.{CallLog, current}
use Rattle.tree_trait.specs.CrashImages.{Among, all_settled, IsCrashImage}
use Rattle.job_reports.specs.Jobs.{ItemOfJob}
use Rattle.job_reports.specs.declared.report.Did.TheVariants.{Ended}
use Rattle.job_reports.specs.declared.report.Ending.TheVariants.{Finished}
use Rattle.session_entries.specs.declared.history.Entry.{Entry}
use Rattle.copy_move.specs.Jobs.{Running}
use Rattle.laws_sessions.specs.OwnPaths.{IsOwnPath}
use Rattle.laws_sessions.specs.Doubt.{name_waits, node_waits}
use Rattle.session_entries.specs.LiveJobs.{IsLivePart, live_item, live_jobs}
use Rattle.session_entries.specs.Named.{has_changed, named_parts, IsUnnamedSince}
use Rattle.laws_sessions.specs.Replayed.{log_prefix, replayed_tree}
use Rattle.session_entries.specs.Entries.{IsMoment, calls_in}
use Rattle.laws_sessions.specs.Traces.{IsTraced, Stand, WorkLeads}
use Rattle.laws_sessions.specs.Staying.{IsNoMatterOf, StaysDone}

-- What holds of a path where the older entries ended holds at each later moment, inside a call too,
-- until an entry names it.
abbrev pub Stays : (CallLog → Route → Bool) → (List Entry → Route → Type 0) → Type 0
Stays waits excepted = (opening now : CallLog) (newest older standing coming : List Entry) (stand : Stand)
    (calls : ℕ) (path : Route)
    → IsTree (current opening) → all_settled opening.changes ≡ true → IsTraced opening newest stand now
    → IsMoment newest standing coming calls
    → IsUnnamedSince older path standing → IsUnnamedSince older path coming
    → waits (log_prefix opening (calls_in older) now) path ≡ false → (excepted older path → ⊥)
    → waits (log_prefix opening calls now) path ≡ false

pub record StaysLaw : Type 0 where
  -- A path of whose name no change waits for a sync, and that is no live job's part, waits for none.
  pub names : Stays name_waits (λ older path. IsLivePart (live_jobs older) path)
  -- Of a path at which no mode waits, and that was named as no part, none does.
  pub modes : Stays node_waits (λ older path. Among (named_parts older) path)

-- Where the older entries ended a job has changed something, and its step is that it is finished. From
-- then on, at each moment, inside a call too, each path of its own holds after any crash what the
-- history said then, until an entry names it, also where its folder goes; but for paths that were named
-- as parts, and mounts in doubt.
abbrev pub FinishedStaysLaw : Type 0
FinishedStaysLaw = (opening now after : CallLog) (newest older standing coming : List Entry)
    (was stand : Stand) (dirty : List Route) (job new : Running) (part : Option Route) (item : ItemOfJob)
    (calls : ℕ) (path : Route) (image : FileSystem)
    → IsTree (current opening) → all_settled opening.changes ≡ true → IsTraced opening newest stand now
    → IsTraced opening older was (log_prefix opening (calls_in older) now)
    → was.jobs ≡ job ∷ [] → WorkLeads job (Ended Finished part)
    new was.dirty dirty (log_prefix opening (calls_in older) now) after → has_changed job.id older ≡ true
    → live_item job.id (live_jobs older) ≡ Some item → IsOwnPath job.id item older path
    → (Among (named_parts older) path → ⊥)
    → (IsNoMatterOf item (log_prefix opening (calls_in older) now) path → ⊥)
    → IsMoment newest standing coming calls → IsUnnamedSince older path standing
    → IsUnnamedSince older path coming → IsCrashImage now (length opening.changes + calls) image
    → value_at image path ≡ (replayed_tree opening now older path).value

abbrev pub DoneLaw : Type 0
DoneLaw = (opening now : CallLog) (newest : List Entry) (stand : Stand)
    → IsTree (current opening) → all_settled opening.changes ≡ true → IsTraced opening newest stand now
    → StaysDone opening now newest

-- What waits for a sync lies in a dirty folder, and a job's first change comes only where nothing that an
-- ended job left waits on that mount.
use Rattle.std.specs.Prelude.{◌≡◌, ◌⊎◌, ℕ, true, false, List, [], ◌∷◌, Option, Some}
use Rattle.mc_text.specs.Routes.{Route}
use Rattle.tree_trait.specs.Change.{CallLog, current}
use Rattle.tree_trait.specs.CrashImages.{Among, all_settled}
use Rattle.tree_trait.specs.Shape.{IsTree}
use Rattle.job_reports.specs.declared.report.Did.{Did}
use Rattle.job_reports.specs.declared.report.Did.TheVariants.{Ended}
use Rattle.job_reports.specs.declared.report.Ending.TheVariants.{Finished}
use Rattle.job_reports.specs.Jobs.{ItemOfJob}
use Rattle.job_reports.specs.Paths.{folder_of}
use Rattle.session_entries.specs.declared.history.Entry.{Entry}
use Rattle.session_entries.specs.LiveJobs.{live_item, live_jobs}
use Rattle.session_entries.specs.Named.{has_changed, is_part_of_other, left_parts, live_parts}
use Rattle.session_entries.specs.Named.{named_by, named_parts}
use Rattle.copy_move.specs.declared.run.Course.TheVariants.{GoesOn}
use Rattle.copy_move.specs.Jobs.{Running, is_fresh}
use Rattle.copy_move.specs.Settling.{changed_folder}
use Rattle.copy_move.specs.JobStepReports.{RunStep, step_made}
use Rattle.laws_sessions.specs.Traces.{IsUnclaimed, IsTraced, Stand, StepLeads, WorkLeads, unless_ended}
use Rattle.laws_sessions.specs.Doubt.{IsJoined, is_unsettled}
use Rattle.laws_sessions.specs.Doubt.{name_waits, node_waits, way_waits}
use Rattle.laws_sessions.specs.ApartFolders.{IsApart}
use Rattle.laws_sessions.specs.Calmed.{changes_name, changes_thing}
use Rattle.laws_sessions.specs.OwnPaths.{IsOfAnother, IsOwnPath}
use Rattle.laws_sessions.specs.Staying.{IsNoMatterOf}

-- this folder is dirty, or one is for which and this one a renaming waits
abbrev pub IsOwed : List Route → CallLog → Route → Type 0
IsOwed dirty log folder =
    Among dirty folder ⊎ ((other : Route) × Among dirty other × IsJoined log folder other)

-- Where each entry ends, a path of whose name a change isn't on the disk yet lies in a dirty folder, or in
-- one from which, or to which, something was moved that waits for a dirty one; and one of which a mode
-- isn't, a part's aside, is itself dirty.
pub record OwedLaw : Type 0 where
  pub names : (opening now : CallLog) (newest : List Entry) (stand : Stand) (path : Route)
      → IsTree (current opening) → all_settled opening.changes ≡ true → IsTraced opening newest stand now
      → name_waits now path ≡ true → IsOwed stand.dirty now (folder_of path)
  pub modes : (opening now : CallLog) (newest : List Entry) (stand : Stand) (path : Route)
      → IsTree (current opening) → all_settled opening.changes ≡ true → IsTraced opening newest stand now
      → (Among (named_parts newest) path → ⊥) → node_waits now path ≡ true → Among stand.dirty path

-- What holds of a path after a step of the live job by which it may make its first change, but for what
-- another live job named last.
abbrev pub FirstChange : (Running → Did → List Entry → Route → CallLog → CallLog → Type 0) → Type 0
FirstChange Holds = (opening log now : CallLog) (older : List Entry) (was : Stand) (dirty : List Route)
    (job new : Running) (did : Did) (path : Route)
    → IsTree (current opening) → all_settled opening.changes ≡ true → IsTraced opening older was log
    → was.jobs ≡ job ∷ [] → WorkLeads job did new was.dirty dirty log now → job.course ≡ GoesOn
    → is_fresh job.work ≡ true → (IsOfAnother job.id older path → ⊥) → Holds job did older path log now

-- Then each change of a name that isn't on the disk yet is of one that the step's report changes, or waited
-- before, and its folder lay on another mount, or was removed. And each mode that isn't, parts aside, is of
-- a thing that it changes, or waited before, and lay itself so; or a part that an ended job left lies there
-- now, with what was moved.
pub record FirstChangeLaw : Type 0 where
  pub names : FirstChange (λ job did older path log now. name_waits now path ≡ true
      → (changes_name did path ≡ true)
      ⊎ ((name_waits log path ≡ true) × IsApart log (changed_folder job.work) (folder_of path)))
  pub modes : FirstChange (λ job did older path log now. (Among (named_parts older) path → ⊥)
      → node_waits now path ≡ true → (changes_thing did path ≡ true)
      ⊎ (Among (named_by did (is_part_of_other job.id (live_parts older)) (left_parts older)
      (named_parts older)) path
      ⊎ ((node_waits log path ≡ true) × IsApart log (changed_folder job.work) path)))

-- A job that has changed something, and whose step is that it is finished, has left no path of its own
-- in doubt: no name waits there, nor what stands there, parts and mounts in doubt aside.
abbrev pub FinishedLaw : Type 0
FinishedLaw = (opening now after : CallLog) (newest : List Entry) (stand : Stand) (dirty : List Route)
    (job new : Running) (part : Option Route) (item : ItemOfJob) (path : Route)
    → IsTree (current opening) → all_settled opening.changes ≡ true → IsTraced opening newest stand now
    → stand.jobs ≡ job ∷ [] → WorkLeads job (Ended Finished part) new stand.dirty dirty now after
    → has_changed job.id newest ≡ true → live_item job.id (live_jobs newest) ≡ Some item
    → IsOwnPath job.id item newest path
    → (way_waits now path ≡ false) × ((Among (named_parts newest) path → ⊥)
    → (IsNoMatterOf item now path → ⊥) → is_unsettled now path ≡ false)

-- The machine's own step is one of which such a history tells.
abbrev pub StepLaw : Type 0
StepLaw = (job new : Running) (did : Did) (calls : ℕ) (dirty dirty_after : List Route) (log now : CallLog)
    (faults faults_after : ℕ)
    → RunStep IsUnclaimed
    (step_made job new did calls dirty dirty_after (Some log) (Some now) faults faults_after)
    → StepLeads job did (unless_ended did new) dirty dirty_after log now

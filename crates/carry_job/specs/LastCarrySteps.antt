-- The last steps of a carrying that is to end: its part is removed, if it can be; each sync that is owed is
-- tried once; and it ends. No source is removed any more.
use Rattle.std.specs.Prelude.{◌≡◌, ◌⊎◌, ℕ, ◌+◌, ◌≤◌, Option, Some, None, Result, Ok, Err}
use Rattle.mc_text.specs.Routes.{Route}
use Rattle.tree_trait.specs.Calls.{RemoveFile, SyncFolder}
use Rattle.tree_trait.specs.Change.{CallLog}
use Rattle.tree_trait.specs.Answers.{HasCause, HasRisen, IfKnown, Performs}
use Rattle.tree_trait.specs.declared.calls.TreeError.{TreeError}
use Rattle.tree_trait.specs.declared.calls.TreeError.TheVariants.{Fault}
use Rattle.job_reports.specs.declared.report.Did.{Did}
use Rattle.job_reports.specs.declared.report.Did.TheVariants.{Cleaned, Barrier, Ended}
use Rattle.job_reports.specs.declared.report.Ending.{Ending}
use Rattle.job_reports.specs.CallRuns.{HasMore}
use Rattle.job_reports.specs.Paths.{folder_of}
use Rattle.job_reports.specs.Stops.{calls_made_for, refusal_in}
use Rattle.copy_file.specs.Copying as file
use Rattle.copy_file.specs.Copying.{Places}
use Rattle.copy_file.specs.declared.stage.FolderState.TheVariants.{Synced, Dirty}
use Rattle.carry_job.specs.declared.stage.CarryStage.{CarryStage}
use Rattle.carry_job.specs.declared.stage.CarryStage.TheVariants.{Take, File, Link, SyncTarget, Remove}
use Rattle.carry_job.specs.declared.stage.CarryStage.TheVariants.{SyncSource, Finish, Settle, PassedOver}
use Rattle.carry_job.specs.declared.stage.CarryStage.TheVariants.{Stays}
use Rattle.carry_job.specs.declared.winding.AfterLastStep.{AfterLastStep}
use Rattle.carry_job.specs.Carryings.{Carrying}

abbrev pub last_step : Did → ℕ → Option TreeError → CarryStage → AfterLastStep
last_step did calls left stage = record { did = did; calls = calls; left = left; stage = stage }

-- the sync of this folder is tried
pub record TriesSync (folder : Route) (next : CarryStage) (last : AfterLastStep)
    (before after : Option CallLog) (faults faults_after : ℕ) : Type 0 where
  pub answer : Result (Unit {0}) TreeError
  pub says : last ≡ last_step Barrier (calls_made_for answer) (refusal_in answer) next
  pub called : IfKnown before (λ log. Performs {A = Unit {0}} log (SyncFolder folder) answer after)
  pub unknown : before ≡ None → after ≡ None
  pub cause : HasCause Fault faults faults_after answer

-- the part is removed
pub record CleansPart (part : Route) (last : AfterLastStep) (before after : Option CallLog)
    (faults faults_after : ℕ) : Type 0 where
  pub says : last ≡ last_step (Cleaned part) 1 None Settle
  pub called : IfKnown before (λ log. Performs {A = Unit {0}} log (RemoveFile part) (Ok tt) after)
  pub unknown : before ≡ None → after ≡ None
  pub later : faults ≤ faults_after

-- its removal is refused, so it stays; and the sync of the folder is tried at once
pub record LeavesPart (p : Places) (part : Route) (last : AfterLastStep) (before after : Option CallLog)
    (faults faults_after : ℕ) : Type 0 where
  pub error : TreeError
  pub mid : Option CallLog
  pub since : ℕ
  pub refused : IfKnown before (λ log. Performs {A = Unit {0}} log (RemoveFile part) (Err error) mid)
  pub unknown : before ≡ None → mid ≡ None
  pub later : faults ≤ since
  pub tried : AfterLastStep
  pub syncs : TriesSync (folder_of p.target) (Stays part) tried mid after since faults_after
  pub says : last ≡ record tried { calls = calls_made_for (Err error) + tried.calls }

abbrev pub TriesPart : Places → Route → AfterLastStep → Option CallLog → Option CallLog → ℕ → ℕ → Type 0
TriesPart p part last before after faults faults_after =
    CleansPart part last before after faults faults_after
    ⊎ LeavesPart p part last before after faults faults_after

-- nothing is left to be tried: the end, which names a part that stays
pub record EndsSo (ending : Ending) (part : Option Route) (stage : CarryStage) (last : AfterLastStep)
    (before after : Option CallLog) (faults faults_after : ℕ) : Type 0 where
  pub says : last ≡ last_step (Ended ending part) 0 None stage
  pub same : after ≡ before
  pub later : faults_after ≡ faults

-- a last step, by where the carrying stands
abbrev pub WindsAt : Places → Ending → CarryStage → AfterLastStep → Option CallLog → Option CallLog
    → ℕ → ℕ → Type 0
WindsAt p ending (File f) last before after faults faults_after =
    (part : Route) × (file.part_at f.stage ≡ Some part)
    × TriesPart p part last before after faults faults_after
WindsAt p ending (Link l) last before after faults faults_after =
    TriesPart p l.part last before after faults faults_after
WindsAt p ending (Take Dirty) last before after faults faults_after =
    TriesSync (folder_of p.target) PassedOver last before after faults faults_after
WindsAt p ending SyncTarget last before after faults faults_after =
    TriesSync (folder_of p.target) PassedOver last before after faults faults_after
WindsAt p ending Settle last before after faults faults_after =
    TriesSync (folder_of p.target) PassedOver last before after faults faults_after
WindsAt p ending SyncSource last before after faults faults_after =
    TriesSync (folder_of p.source) Finish last before after faults faults_after
WindsAt p ending (Take Synced) last before after faults faults_after =
    EndsSo ending None (Take Synced) last before after faults faults_after
WindsAt p ending Remove last before after faults faults_after =
    EndsSo ending None Remove last before after faults faults_after
WindsAt p ending Finish last before after faults faults_after =
    EndsSo ending None Finish last before after faults faults_after
WindsAt p ending PassedOver last before after faults faults_after =
    EndsSo ending None PassedOver last before after faults faults_after
WindsAt p ending (Stays part) last before after faults faults_after =
    EndsSo ending (Some part) PassedOver last before after faults faults_after

-- A last step counts its calls, at most two, and tells a fault only where the tree's count has risen.
pub record LastCounts (calls : ℕ) (left : Option TreeError) (before after : Option CallLog)
    (faults faults_after : ℕ) : Type 0 where
  pub counted : IfKnown before (λ log. IfKnown after (HasMore log calls))
  pub few : calls ≤ 2
  pub unknown : before ≡ None → after ≡ None
  pub later : faults ≤ faults_after
  pub fault : left ≡ Some Fault → HasRisen faults faults_after

pub record LastCarryStep (ending : Ending) (old new : Carrying) (did : Did) (calls : ℕ)
    (left : Option TreeError) (before after : Option CallLog) (faults faults_after : ℕ) : Type 0 where
  pub winds : WindsAt old.places ending old.stage (last_step did calls left new.stage) before after faults
      faults_after
  pub places : new.places ≡ old.places
  pub counts : LastCounts calls left before after faults faults_after

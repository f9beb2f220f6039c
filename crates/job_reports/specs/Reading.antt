-- What reading calls come to: a refusal with its error, and the trouble that it is.
use Rattle.std.specs.Prelude.{◌≡◌, ◌≢◌, ℕ, ◌≤◌, false, Option, Some, None, Result, IfErr}
use Rattle.mc_text.specs.Routes.{Route}
use Rattle.tree_trait.specs.declared.file_system.FileSystem.{FileSystem}
use Rattle.tree_trait.specs.declared.calls.TreeError.{TreeError}
use Rattle.tree_trait.specs.declared.calls.TreeError.TheVariants as refused
use Rattle.tree_trait.specs.Calls.{Call, Stat}
use Rattle.tree_trait.specs.Change.{CallLog}
use Rattle.tree_trait.specs.Refusals.{refusal_of}
use Rattle.tree_trait.specs.Answers.{HasRisen}
use Rattle.job_reports.specs.declared.report.Cause.{Cause}
use Rattle.job_reports.specs.declared.report.Cause.TheVariants.{Tree, TargetKind, SpecialSource, TooDeep}
use Rattle.job_reports.specs.declared.report.Cause.TheVariants.{PartTaken, TooLong, Unnamed, Changed, Memory}
use Rattle.job_reports.specs.declared.report.Trouble.{Trouble}

-- a reading call is refused with this error: as the tree gives it, or by a fault
abbrev pub IsRefusedWith : FileSystem → Call → TreeError → Type 0
IsRefusedWith s call refused.Fault = refusal_of s call ≡ None
IsRefusedWith s call refused.Memory = ⊥
IsRefusedWith s call e = refusal_of s call ≡ Some e

-- the trouble of one look
abbrev pub StatStops : FileSystem → Route → Cause → Option Route → Type 0
StatStops s look (Tree e) path = (path ≡ Some look) × IsRefusedWith s (Stat look) e
StatStops s look Memory path = path ≡ None
StatStops s look (TargetKind kind) path = ⊥
StatStops s look SpecialSource path = ⊥
StatStops s look TooDeep path = ⊥
StatStops s look (Unnamed count) path = ⊥
StatStops s look PartTaken path = ⊥
StatStops s look TooLong path = ⊥
StatStops s look (Changed said got) path = ⊥

-- the trouble of the look at a target, which may be missing
abbrev pub TargetStops : FileSystem → Route → Cause → Option Route → Type 0
TargetStops s target cause path = StatStops s target cause path × (cause ≢ Tree refused.Missing)

-- Reading calls leave the tree as it was. They report a fault only where its count has
-- risen, and never at a barrier.
pub record Peeks {A : Type 0} (result : Result A Trouble) (before after : Option CallLog)
    (faults faults_after : ℕ) : Type 0 where
  pub same : after ≡ before
  pub later : faults ≤ faults_after
  pub fault : IfErr result (λ trouble. trouble.cause ≡ Tree refused.Fault → HasRisen faults faults_after)
  pub apart : IfErr result (λ trouble. trouble.barrier ≡ false)

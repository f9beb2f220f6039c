-- Where names wait while a tree is copied: of those at or below its target only in an open folder that is marked as dirty. So in a folder that was left none does.
use Rattle.std.specs.Prelude.{◌≡◌, ◌⊎◌, ℕ, ⊤, Bool, true, List, [], ◌∷◌, Some}
use Rattle.mc_text.specs.Routes.{Route}
use Rattle.tree_trait.specs.Change.{CallLog, current}
use Rattle.tree_trait.specs.Shape.{IsTree}
use Rattle.job_answers.specs.declared.replies.Replies.{Replies}
use Rattle.job_reports.specs.declared.report.Cause.{Cause}
use Rattle.job_reports.specs.declared.report.Did.{Did}
use Rattle.copy_folders.specs.FolderCopying.{is_dirty}
use Rattle.copy_folders.specs.declared.level.Level.{Level}
use Rattle.copy_tree.specs.declared.copy.Named.{Named}
use Rattle.copy_tree.specs.declared.item.ItemAtWork.{ItemAtWork}
use Rattle.copy_tree.specs.declared.item.ItemAtWork.TheVariants.{Next, File, Link, Stays}
use Rattle.copy_tree.specs.Skipping.{Skips, retried_copy}
use Rattle.copy_tree.specs.Standing.{Seen, begun_tree_copy}
use Rattle.copy_tree.specs.TreeCopySteps.{CopySteps}
use Rattle.laws_sessions.specs.Doubt.{name_waits}
use Rattle.laws_sessions.proofs.Resting.{IsOfFiles}
use Rattle.laws_sessions.proofs.FoldersEnd.{EndsLast}
use Rattle.laws_sessions.proofs.CopyLaws.{CopyKnown}
use Rattle.laws_sessions.proofs.WaitsAlone.{WaitsAlone}

-- an open folder at this path is marked as dirty
abbrev pub IsMarkedAt : Route → Level → Type 0
IsMarkedAt up l = (l.copy.target ≡ up) × (is_dirty l.copy.names ≡ true)

abbrev pub IsMarkedIn : Route → Level → List Level → Type 0
IsMarkedIn up inner [] = IsMarkedAt up inner
IsMarkedIn up inner (outer ∷ around) = IsMarkedAt up inner ⊎ IsMarkedIn up outer around

-- a change of this name of the folder at this path waits only where that is so, and for the sync of that folder alone
abbrev pub WaitsMarked : CallLog → Seen → List ℕ → Route → Type 0
WaitsMarked log c name up = (name_waits log (name ∷ up) ≡ true → IsMarkedIn up c.levels.inner c.levels.around) × WaitsAlone log (name ∷ up)

-- the folder that is worked is marked while something is at work in it
abbrev pub WorkedMarked : ItemAtWork → Level → Type 0
WorkedMarked Next inner = ⊤
WorkedMarked (File f) inner = is_dirty inner.copy.names ≡ true
WorkedMarked (Link l) inner = is_dirty inner.copy.names ≡ true
WorkedMarked (Stays part) inner = ⊤

abbrev pub IsMarked : Seen → Type 0
IsMarked c = WorkedMarked c.item c.levels.inner

-- It is so of a copy that begins that it is marked; and each step, skip and retry keeps both, of any name of any folder.
pub record NamesLaw : Type 0 where
  pub begins : (job : ℕ) (source target : Named) → IsMarked (begun_tree_copy job source target)
  pub step : (free : Route → Bool) (replies : Replies) (old new : Seen) (did : Did) (calls : ℕ) (log now : CallLog) (faults faults_after : ℕ)
      → CopySteps free replies old new did calls (Some log) (Some now) faults faults_after → IsTree (current log) → IsOfFiles log → CopyKnown log old → EndsLast old → IsMarked old
      → IsMarked new × ((name : List ℕ) (up : Route) → WaitsMarked log old name up → WaitsMarked now new name up)
  pub skip : (log : CallLog) (cause : Cause) (old new : Seen) (did : Did) → Skips cause old did new → IsMarked old
      → IsMarked new × ((name : List ℕ) (up : Route) → WaitsMarked log old name up → WaitsMarked log new name up)
  pub retry : (log : CallLog) (c : Seen) → IsMarked c → (let again : Seen = retried_copy c in IsMarked again × ((name : List ℕ) (up : Route) → WaitsMarked log c name up → WaitsMarked log again name up))

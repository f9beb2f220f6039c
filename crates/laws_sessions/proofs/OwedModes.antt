-- The mode that a copied folder is still to be given is its source's, as the history shows that; and what it is given is what the history says.
use Rattle.std.specs.Prelude.{◌≡◌, ◌++◌, ℕ, Bool, List, [], ◌∷◌, Some}
use Rattle.mc_text.specs.Routes.{Route}
use Rattle.tree_trait.specs.Change.{CallLog, current}
use Rattle.tree_trait.specs.FileSystem.{Value, View, value_at}
use Rattle.tree_trait.specs.Shape.{IsTree}
use Rattle.job_answers.specs.declared.replies.Replies.{Replies}
use Rattle.job_reports.specs.Jobs.{Copies}
use Rattle.job_reports.specs.declared.job.Pair.{Pair}
use Rattle.job_reports.specs.declared.report.Cause.{Cause}
use Rattle.job_reports.specs.declared.report.Did.{Did}
use Rattle.job_reports.specs.declared.report.Did.TheVariants.{Set}
use Rattle.copy_folders.specs.declared.level.Level.{Level}
use Rattle.copy_tree.specs.declared.copy.Named.{Named}
use Rattle.copy_tree.specs.InPlace.{IsInPlace, owed_of}
use Rattle.copy_tree.specs.Skipping.{Skips, retried_copy}
use Rattle.copy_tree.specs.Standing.{Seen, begun_tree_copy}
use Rattle.copy_tree.specs.TreeCopySteps.{CopySteps}
use Rattle.laws_sessions.specs.Replayed.{set_by}
use Rattle.laws_sessions.proofs.Resting.{IsOfFiles}
use Rattle.laws_sessions.proofs.CopyLaws.{CopyKnown}

-- the view shows the tree
abbrev pub ShowsTree : View → CallLog → Type 0
ShowsTree v log = (p : Route) → value_at (current log) p ≡ (v p).value

-- a mode that a folder is to be given is that of its source
abbrev pub OwesSource : View → Level → Type 0
OwesSource v l = (mode : ℕ) → owed_of l.copy.stage ≡ Some mode → (x : Value) × ((v l.copy.source).value ≡ Some x) × (x.mode ≡ mode)

abbrev pub AllOwe : View → Level → List Level → Type 0
AllOwe v inner [] = OwesSource v inner
AllOwe v inner (outer ∷ around) = OwesSource v inner × AllOwe v outer around

abbrev pub OwedModes : View → Seen → Type 0
OwedModes v c = AllOwe v c.levels.inner c.levels.around

-- It is so of a copy that begins; each step keeps it of a view that shows the tree before it, and each skip and retry of any; and it is so of any other
-- view that shows the same at and below the source.
pub record OwedModeLaw : Type 0 where
  pub begins : (v : View) (job : ℕ) (source target : Named) → OwedModes v (begun_tree_copy job source target)
  pub step : (free : Route → Bool) (replies : Replies) (old new : Seen) (did : Did) (calls : ℕ) (log now : CallLog) (faults faults_after : ℕ) (v : View)
      → CopySteps free replies old new did calls (Some log) (Some now) faults faults_after → IsTree (current log) → IsOfFiles log → CopyKnown log old → ShowsTree v log → OwedModes v old → OwedModes v new
  pub skip : (cause : Cause) (old new : Seen) (did : Did) (v : View) → Skips cause old did new → OwedModes v old → OwedModes v new
  pub retry : (c : Seen) (v : View) → OwedModes v c → OwedModes v (retried_copy c)
  pub other : (top : Pair) (c : Seen) (v w : View) → IsInPlace top c → ((rest : Route) → (w (rest ++ top.source)).value ≡ (v (rest ++ top.source)).value) → OwedModes v c → OwedModes w c

-- So a folder that is given its mode shows what the history makes of what it showed before.
abbrev pub SetLaw : Type 0
SetLaw =
    (free : Route → Bool) (replies : Replies) (top : Pair) (old new : Seen) (path : Route) (calls : ℕ) (log now : CallLog) (faults faults_after : ℕ) (v : View)
    → CopySteps free replies old new (Set path) calls (Some log) (Some now) faults faults_after → IsTree (current log) → IsOfFiles log → CopyKnown log old → IsInPlace top old
    → ShowsTree v log → OwedModes v old → value_at (current now) path ≡ (set_by (Some (Copies top.source top.target)) path v path).value

-- The laws of a tree's copy and the log: what is known of its open folders as it begins, what each step keeps, and what follows of the name that is
-- met next.
use Rattle.std.specs.Prelude.{◌≡◌, ℕ, Bool, false, List, [], ◌∷◌, Some}
use Rattle.mc_text.specs.Routes.{Route}
use Rattle.tree_trait.specs.Change.{CallLog, current}
use Rattle.tree_trait.specs.Shape.{IsTree}
use Rattle.job_answers.specs.declared.replies.Replies.{Replies}
use Rattle.job_reports.specs.declared.report.Cause.{Cause}
use Rattle.job_reports.specs.declared.report.Did.{Did}
use Rattle.copy_folders.specs.Levels.{is_around_dirty}
use Rattle.copy_tree.specs.declared.copy.Named.{Named}
use Rattle.copy_tree.specs.Skipping.{Skips, retried_copy}
use Rattle.copy_tree.specs.Standing.{Seen, begun_tree_copy, target_name}
use Rattle.copy_tree.specs.TreeCopySteps.{CopySteps}
use Rattle.laws_crash.specs.Guarded.{Marks}
use Rattle.laws_crash.specs.NameKnowledge.{StandsAt}
use Rattle.laws_sessions.specs.Doubt.{way_waits}
use Rattle.laws_sessions.proofs.FilledFolders.{IsFilling}
use Rattle.laws_sessions.proofs.Knowing.{IsKept, HistoryFacts}
use Rattle.laws_sessions.proofs.Resting.{IsOfFiles}
use Rattle.laws_sessions.proofs.AtWork.{ItemKnown}
use Rattle.laws_sessions.proofs.OpenFolders.{LevelsKnow}
use Rattle.laws_sessions.proofs.FoldersLie.{AreLaid}

-- What is known of the folders that a copy has open: of the log, and of how they lie.
abbrev pub FoldersKnown : CallLog → Seen → Type 0
FoldersKnown log c = LevelsKnow log c.name c.levels × AreLaid c.name c.levels.inner c.levels.around

-- What is known of a copy: of its folders, and of the file or link at work.
abbrev pub CopyKnown : CallLog → Seen → Type 0
CopyKnown log c = FoldersKnown log c × ItemKnown log c c.item

-- It is known of a copy that begins, where the folder of its target stands on the disk, and no change of the target's name waits.
abbrev pub BeginningLaw : Type 0
BeginningLaw = (log : CallLog) (job : ℕ) (source target : Named) → IsFilling log target.folder (target.name ∷ []) → CopyKnown log (begun_tree_copy job source target)

-- Each step keeps it, whatever its calls are answered.
abbrev pub StepLaw : Type 0
StepLaw =
    (free : Route → Bool) (replies : Replies) (old new : Seen) (did : Did) (calls : ℕ) (log now : CallLog) (faults faults_after : ℕ)
    → CopySteps free replies old new did calls (Some log) (Some now) faults faults_after → IsTree (current log) → IsOfFiles log → CopyKnown log old → CopyKnown now new

-- So do a skip and a retry, which call nothing.
pub record SkipLaw : Type 0 where
  pub skip : (log : CallLog) (cause : Cause) (old new : Seen) (did : Did) → Skips cause old did new → CopyKnown log old → CopyKnown log new
  pub retry : (log : CallLog) (c : Seen) → CopyKnown log c → CopyKnown log (retried_copy c)

-- What is met next in a folder that is on the disk is not in doubt: no change waits of its target, nor of a folder above that.
abbrev pub MetLaw : Type 0
MetLaw =
    (log : CallLog) (c : Seen) (name : List ℕ) (names : List (List ℕ)) → FoldersKnown log c → is_around_dirty c.levels.around ≡ false → c.levels.inner.names.names ≡ name ∷ names
    → way_waits log (target_name c name ∷ c.levels.inner.copy.target) ≡ false

-- The folder that is worked, once it is on the disk, stands at its path after any crash or nowhere, so that names may be changed in it.
abbrev pub StandingLaw : Type 0
StandingLaw =
    (told : HistoryFacts) (dirty : List Route) (marks : Marks) (log : CallLog) (c : Seen) → IsKept told dirty marks log → FoldersKnown log c → is_around_dirty c.levels.around ≡ false
    → (f : ℕ) × StandsAt marks log c.levels.inner.copy.target f

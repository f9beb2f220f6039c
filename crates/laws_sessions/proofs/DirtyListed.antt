-- The list of dirty folders that all jobs share has each open folder of a copy that is marked as dirty.
use Rattle.std.specs.Prelude.{◌≡◌, ℕ, Bool, true, List, [], ◌∷◌, Option}
use Rattle.mc_text.specs.Routes.{Route}
use Rattle.tree_trait.specs.Change.{CallLog}
use Rattle.tree_trait.specs.CrashImages.{Among}
use Rattle.job_answers.specs.declared.replies.Replies.{Replies}
use Rattle.job_reports.specs.declared.job.Pair.{Pair}
use Rattle.job_reports.specs.declared.report.Cause.{Cause}
use Rattle.job_reports.specs.declared.report.Did.{Did}
use Rattle.copy_folders.specs.FolderCopying.{is_dirty}
use Rattle.copy_folders.specs.declared.level.Level.{Level}
use Rattle.copy_tree.specs.Standing.{Seen}
use Rattle.copy_job.specs.Standing.{SubtreeCopying, retries, begun_subtree_copy}
use Rattle.copy_job.specs.SubtreeSteps.{SubtreeSkips, SubtreeSteps}
use Rattle.laws_sessions.proofs.FoldersLie.{AreNested}

abbrev pub IsListed : List Route → Level → Type 0
IsListed dirty l = is_dirty l.copy.names ≡ true → Among dirty l.copy.target

abbrev pub AreListed : List Route → Level → List Level → Type 0
AreListed dirty inner [] = IsListed dirty inner
AreListed dirty inner (outer ∷ around) = IsListed dirty inner × AreListed dirty outer around

abbrev pub MarksListed : List Route → Seen → Type 0
MarksListed dirty c = AreListed dirty c.levels.inner c.levels.around

abbrev pub AreApart : Seen → Type 0
AreApart c = AreNested c.levels.inner.copy.target c.levels.around

-- It is so of a copy that begins, and each step, skip and retry keeps it.
pub record ListLaw : Type 0 where
  pub begins : (job : ℕ) (top : Pair) (dirty : List Route) → (let copy : SubtreeCopying = begun_subtree_copy job top in MarksListed dirty copy.at)
  pub step : (free : Route → Bool) (replies : Replies) (old new : SubtreeCopying) (did : Did) (calls : ℕ) (dirty dirty_after : List Route) (before after : Option CallLog) (faults faults_after : ℕ)
      → SubtreeSteps free replies old new did calls dirty dirty_after before after faults faults_after → AreApart old.at → MarksListed dirty old.at → MarksListed dirty_after new.at
  pub skip : (cause : Cause) (old new : SubtreeCopying) (did : Did) (dirty : List Route) → SubtreeSkips cause old did new → MarksListed dirty old.at → MarksListed dirty new.at
  pub retry : (c : SubtreeCopying) (dirty : List Route) → MarksListed dirty c.at → (let again : SubtreeCopying = retries c in MarksListed dirty again.at)

-- The folder of the file or link at work is the one that is worked, so what a step marks as changed is
-- the folder that it changed.
use Rattle.std.specs.Prelude.{◌≡◌, ℕ, ⊤, Bool, true, Option}
use Rattle.mc_text.specs.Routes.{Route}
use Rattle.tree_trait.specs.Change.{CallLog}
use Rattle.job_answers.specs.declared.replies.Replies.{Replies}
use Rattle.job_reports.specs.declared.report.Cause.{Cause}
use Rattle.job_reports.specs.declared.report.Did.{Did}
use Rattle.job_reports.specs.Paths.{folder_of}
use Rattle.copy_tree.specs.declared.copy.Named.{Named}
use Rattle.copy_tree.specs.declared.item.ItemAtWork.{ItemAtWork}
use Rattle.copy_tree.specs.declared.item.ItemAtWork.TheVariants.{Next, File, Link, Stays}
use Rattle.copy_tree.specs.Skipping.{Skips, retried_copy}
use Rattle.copy_tree.specs.Standing.{Seen, begun_tree_copy}
use Rattle.copy_tree.specs.TreeCopySteps.{CopySteps}

-- the target of what is at work lies in this folder
abbrev pub ItemIn : Route → ItemAtWork → Type 0
ItemIn folder Next = ⊤
ItemIn folder (File f) = folder_of f.target ≡ folder
ItemIn folder (Link l) = folder_of l.target ≡ folder
ItemIn folder (Stays part) = ⊤

abbrev pub IsInWorked : Seen → Type 0
IsInWorked c = ItemIn c.levels.inner.copy.target c.item

-- A copy that begins is so, and each step, skip and retry keeps it.
pub record WorkedFolderLaw : Type 0 where
  pub begins : (job : ℕ) (source target : Named) → IsInWorked (begun_tree_copy job source target)
  pub step : (free : Route → Bool) (replies : Replies) (old new : Seen) (did : Did) (calls : ℕ)
      (before after : Option CallLog) (faults faults_after : ℕ)
      → CopySteps free replies old new did calls before after faults faults_after → IsInWorked old
      → IsInWorked new
  pub skip : (cause : Cause) (old new : Seen) (did : Did) → Skips cause old did new → IsInWorked old
      → IsInWorked new
  pub retry : (old : Seen) → IsInWorked old → IsInWorked (retried_copy old)

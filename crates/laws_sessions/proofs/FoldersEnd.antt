-- Which open folder is at its end, and none is done: none but the innermost, and only where nothing is at work and no name is left to be met. So where a file or a
-- link is at work, or is taken up, each open folder is being filled.
use Rattle.std.specs.Prelude.{◌≡◌, ℕ, ⊤, Bool, true, false, List, [], ◌∷◌, Option}
use Rattle.mc_text.specs.Routes.{Route}
use Rattle.tree_trait.specs.Change.{CallLog}
use Rattle.job_answers.specs.declared.replies.Replies.{Replies}
use Rattle.job_reports.specs.declared.report.Cause.{Cause}
use Rattle.job_reports.specs.declared.report.Did.{Did}
use Rattle.copy_folders.specs.declared.stage.Stage.{Stage}
use Rattle.copy_folders.specs.declared.stage.Stage.TheVariants.{Make, Fill, Close, Done}
use Rattle.copy_folders.specs.declared.level.Level.{Level}
use Rattle.copy_tree.specs.declared.copy.Named.{Named}
use Rattle.copy_tree.specs.declared.item.ItemAtWork.TheVariants.{Next}
use Rattle.copy_tree.specs.Skipping.{Skips, retried_copy}
use Rattle.copy_tree.specs.Standing.{Seen, begun_tree_copy}
use Rattle.copy_tree.specs.TreeCopySteps.{CopySteps}

abbrev pub is_filled : Stage → Bool
is_filled (Fill owed) = true
is_filled (Make mode) = false
is_filled (Close owed) = false
is_filled Done = false

-- it is filled, or at its end
abbrev pub is_open : Stage → Bool
is_open (Fill owed) = true
is_open (Close owed) = true
is_open (Make mode) = false
is_open Done = false

abbrev pub AllFilled : List Level → Type 0
AllFilled [] = ⊤
AllFilled (outer ∷ around) = (is_filled outer.copy.stage ≡ true) × AllFilled around

-- nothing is at work, and no name is left in the folder that is worked
pub record IsOver (c : Seen) : Type 0 where
  pub none : c.item ≡ Next
  pub last : c.levels.inner.names.names ≡ []

pub record EndsLast (c : Seen) : Type 0 where
  pub open_still : is_open c.levels.inner.copy.stage ≡ true
  pub inner : is_filled c.levels.inner.copy.stage ≡ false → IsOver c
  pub around : AllFilled c.levels.around

-- It is so of a copy that begins, and each step, skip and retry keeps it.
pub record EndLaw : Type 0 where
  pub begins : (job : ℕ) (source target : Named) → EndsLast (begun_tree_copy job source target)
  pub step : (free : Route → Bool) (replies : Replies) (old new : Seen) (did : Did) (calls : ℕ) (before after : Option CallLog) (faults faults_after : ℕ)
      → CopySteps free replies old new did calls before after faults faults_after → EndsLast old → EndsLast new
  pub skip : (cause : Cause) (old new : Seen) (did : Did) → Skips cause old did new → EndsLast old → EndsLast new
  pub retry : (c : Seen) → EndsLast c → EndsLast (retried_copy c)

-- What a job has to know of a copy that came into a trouble, and of one of which something is skipped.
use Rattle.std.specs.Prelude.{◌≡◌, ◌⊎◌, ◌≤◌, ℕ, Bool, false, List, Option}
use Rattle.mc_text.specs.Routes.{Route}
use Rattle.tree_trait.specs.Change.{CallLog}
use Rattle.job_answers.specs.declared.replies.Replies.{Replies}
use Rattle.job_reports.specs.declared.question.Question.{Question}
use Rattle.job_reports.specs.declared.report.Cause.{Cause}
use Rattle.job_reports.specs.declared.report.Did.{Did}
use Rattle.job_reports.specs.declared.report.Did.TheVariants.{Asked, Skipped, Troubled}
use Rattle.job_reports.specs.declared.report.Trouble.{Trouble}
use Rattle.job_reports.specs.Stops.{out_of_memory_at}
use Rattle.copy_tree.specs.declared.item.ItemAtWork.TheVariants.{Next}
use Rattle.copy_tree.specs.Falling.{IsSteady}
use Rattle.copy_job.specs.Ranks.{last_rank, rank}
use Rattle.copy_job.specs.Standing.{IsGoing, SubtreeCopying, at_barrier}
use Rattle.copy_job.specs.SubtreeSteps.{SubtreeSkips, SubtreeSteps}

pub record TroubleLaw : Type 0 where
  -- A copy that came into a trouble has no more last steps, if it is aborted, than it had steps.
  pub step : (free : Route → Bool) (replies : Replies) (old new : SubtreeCopying) (trouble : Trouble)
      (calls : ℕ) (dirty dirty_after : List Route) (before after : Option CallLog) (faults faults_after : ℕ)
      → SubtreeSteps free replies old new (Troubled trouble) calls dirty dirty_after before after faults
      faults_after → IsSteady old.at → IsGoing old → last_rank new.at ≤ rank old.at
  -- So it is of one that asks, and this stands where it stood, with nothing at work.
  pub ask : (free : Route → Bool) (replies : Replies) (old new : SubtreeCopying) (question : Question)
      (calls : ℕ) (dirty dirty_after : List Route) (before after : Option CallLog) (faults faults_after : ℕ)
      → SubtreeSteps free replies old new (Asked question) calls dirty dirty_after before after faults
      faults_after → IsSteady old.at → (new.at.item ≡ Next) × (last_rank new.at ≤ rank old.at)
  -- A skip tells what was left, or that there is no memory to tell it; then the copy stands where it stood.
  pub skip : (cause : Cause) (old new : SubtreeCopying) (did : Did) → SubtreeSkips cause old did new
      → IsGoing old → at_barrier old.at ≡ false
      → ((path : Route) × (did ≡ Skipped path cause))
      ⊎ ((did ≡ Troubled (out_of_memory_at false)) × (new ≡ old))

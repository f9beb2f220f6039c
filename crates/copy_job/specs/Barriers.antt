-- A trouble stands at a barrier, where nothing can be skipped, where the copy does after it.
use Rattle.std.specs.Prelude.{◌≡◌, ℕ, Bool, List, Option}
use Rattle.mc_text.specs.Routes.{Route}
use Rattle.tree_trait.specs.Change.{CallLog}
use Rattle.job_answers.specs.declared.replies.Replies.{Replies}
use Rattle.job_reports.specs.declared.report.Did.TheVariants.{Troubled}
use Rattle.job_reports.specs.declared.report.Trouble.{Trouble}
use Rattle.copy_tree.specs.Falling.{IsSteady}
use Rattle.copy_job.specs.Standing.{IsGoing, SubtreeCopying, at_barrier}
use Rattle.copy_job.specs.SubtreeSteps.{SubtreeSteps}

abbrev pub BarrierLaw : Type 0
BarrierLaw =
    (free : Route → Bool) (replies : Replies) (old new : SubtreeCopying) (trouble : Trouble) (calls : ℕ)
    (dirty dirty_after : List Route) (before after : Option CallLog) (faults faults_after : ℕ)
    → SubtreeSteps free replies old new (Troubled trouble) calls dirty dirty_after before after faults
    faults_after → IsSteady old.at → IsGoing old → trouble.barrier ≡ at_barrier new.at

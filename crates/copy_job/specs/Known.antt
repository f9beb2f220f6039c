-- A tree that tells what it holds goes on telling with each step.
use Rattle.std.specs.Prelude.{◌≡◌, ℕ, Bool, List, Option, Some}
use Rattle.mc_text.specs.Routes.{Route}
use Rattle.tree_trait.specs.Change.{CallLog}
use Rattle.job_answers.specs.declared.replies.Replies.{Replies}
use Rattle.job_reports.specs.declared.report.Did.{Did}
use Rattle.copy_job.specs.Standing.{SubtreeCopying}
use Rattle.copy_job.specs.SubtreeSteps.{SubtreeSteps}

abbrev pub StillTells : Option CallLog → Type 0
StillTells after = (now : CallLog) × (after ≡ Some now)

abbrev pub KnownLaw : Type 0
KnownLaw =
    (free : Route → Bool) (replies : Replies) (old new : SubtreeCopying) (did : Did) (calls : ℕ)
    (dirty dirty_after : List Route) (log : CallLog) (after : Option CallLog) (faults faults_after : ℕ)
    → SubtreeSteps free replies old new did calls dirty dirty_after (Some log) after faults faults_after
    → StillTells after

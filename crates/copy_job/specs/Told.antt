-- What a history can tell of such a copy: what is copied, the part that stands, and whether anything was
-- changed. How that goes on, each report says.
use Rattle.std.specs.Prelude.{◌≡◌, ℕ, Bool, List, Option, Some, None}
use Rattle.mc_text.specs.Routes.{Route}
use Rattle.tree_trait.specs.Change.{CallLog}
use Rattle.job_answers.specs.declared.replies.Replies.{Replies}
use Rattle.job_reports.specs.declared.report.Cause.{Cause}
use Rattle.job_reports.specs.declared.report.Did.{Did}
use Rattle.job_reports.specs.declared.report.Did.TheVariants.{Began, Placed, Cleaned}
use Rattle.copy_tree.specs.Standing.{after_report}
use Rattle.copy_job.specs.Standing.{IsGoing, SubtreeCopying, part_of, retries}
use Rattle.copy_job.specs.SubtreeSteps.{SubtreeSkips, SubtreeSteps}

-- the part that stands after a report
abbrev pub part_after : Did → Option Route → Option Route
part_after (Began part) was = Some part
part_after (Placed path) was = None
part_after (Cleaned part) was = None
part_after did was = was

pub record IsAfter (did : Did) (old new : SubtreeCopying) : Type 0 where
  pub top : new.top ≡ old.top
  pub part : part_of new.at.item ≡ part_after did (part_of old.at.item)
  pub stage : new.at.stage ≡ after_report did old.at.stage

-- what a retry leaves as it is
pub record IsKept (old new : SubtreeCopying) : Type 0 where
  pub part : part_of new.at.item ≡ part_of old.at.item
  pub stage : new.at.stage ≡ old.at.stage

-- So it stands after each step and each skip; and a retry changes nothing of that.
pub record ToldLaw : Type 0 where
  pub step : (free : Route → Bool) (replies : Replies) (old new : SubtreeCopying) (did : Did) (calls : ℕ)
      (dirty dirty_after : List Route) (before after : Option CallLog) (faults faults_after : ℕ)
      → SubtreeSteps free replies old new did calls dirty dirty_after before after faults faults_after
      → IsGoing old → IsAfter did old new
  pub skip : (cause : Cause) (old new : SubtreeCopying) (did : Did) → SubtreeSkips cause old did new
      → IsGoing old → IsAfter did old new
  pub retry : (c : SubtreeCopying) → IsKept c (retries c)

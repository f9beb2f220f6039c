-- Which reports a job makes that works such a copy, and of which folders.
use Rattle.std.specs.Prelude.{◌≡◌, ℕ, ⊤, Bool, true, false, List, Option, None, Some}
use Rattle.mc_text.specs.Routes.{Route}
use Rattle.tree_trait.specs.Change.{CallLog}
use Rattle.job_answers.specs.Skipping.{holds, kind_in}
use Rattle.job_answers.specs.declared.replies.Replies.{Replies}
use Rattle.job_reports.specs.declared.report.Cause.{Cause}
use Rattle.job_reports.specs.declared.report.Did.{Did}
use Rattle.job_reports.specs.declared.report.Did.TheVariants.{Began, Chunk, Placed, Removed, Made}
use Rattle.job_reports.specs.declared.report.Did.TheVariants.{Set, Kept, Skipped, Cleaned, Barrier}
use Rattle.job_reports.specs.declared.report.Did.TheVariants.{Asked, Merges, Moved, Troubled, Ended}
use Rattle.job_reports.specs.declared.report.Ending.{Ending}
use Rattle.job_reports.specs.declared.report.Ending.TheVariants.{Finished, Aborted, Killed, NoMemory}
use Rattle.job_reports.specs.declared.report.LastStepResult.{LastStepResult}
use Rattle.job_reports.specs.declared.report.Transfer.TheVariants.{ByCopy, ByMove}
use Rattle.job_unsynced.specs.Folders.{with_change}
use Rattle.copy_tree.specs.Ending.{IsWindable}
use Rattle.copy_tree.specs.InPlace.{IsInPlace}
use Rattle.copy_job.specs.Standing.{SubtreeCopying, is_own, part_of}
use Rattle.copy_job.specs.SubtreeSteps.{LastSubtreeStep, SubtreeSteps}

-- it removes nothing but its own part; its own end is that of all, and then no part stands
abbrev pub MayTell : Did → Type 0
MayTell (Removed path) = ⊥
MayTell (Kept path) = ⊤
MayTell (Asked question) = ⊤
MayTell (Merges ByCopy pair names) = ⊤
MayTell (Merges ByMove pair names) = ⊥
MayTell (Moved pair) = ⊥
MayTell (Ended Finished part) = part ≡ None
MayTell (Ended Aborted part) = ⊥
MayTell (Ended Killed part) = ⊥
MayTell (Ended NoMemory part) = ⊥
MayTell (Began part) = ⊤
MayTell (Chunk count) = ⊤
MayTell (Placed path) = ⊤
MayTell (Made path) = ⊤
MayTell (Set path) = ⊤
MayTell (Skipped path cause) = ⊤
MayTell (Cleaned part) = ⊤
MayTell Barrier = ⊤
MayTell (Troubled trouble) = ⊤

-- in last steps the part is removed, a folder's sync is tried, or all ends, which tells the part that stands
abbrev pub MayTellLast : Ending → Option Route → Did → Type 0
MayTellLast ending stands (Cleaned part) = stands ≡ Some part
MayTellLast ending stands Barrier = ⊤
MayTellLast ending stands (Ended how part) = (how ≡ ending) × (part ≡ stands)
MayTellLast ending stands (Began part) = ⊥
MayTellLast ending stands (Chunk count) = ⊥
MayTellLast ending stands (Placed path) = ⊥
MayTellLast ending stands (Removed path) = ⊥
MayTellLast ending stands (Made path) = ⊥
MayTellLast ending stands (Set path) = ⊥
MayTellLast ending stands (Kept path) = ⊥
MayTellLast ending stands (Asked question) = ⊥
MayTellLast ending stands (Merges transfer pair names) = ⊥
MayTellLast ending stands (Moved pair) = ⊥
MayTellLast ending stands (Skipped path cause) = ⊥
MayTellLast ending stands (Troubled trouble) = ⊥

-- the part that stands after a last step; one that could not be removed is told with each end
abbrev pub part_after_last_step : Did → Option Route → Option Route
part_after_last_step Barrier was = was
part_after_last_step did was = None

pub record IsAfterLastStep (ending : Ending) (old : SubtreeCopying) (did : Did)
    (new : SubtreeCopying) : Type 0 where
  pub may : MayTellLast ending (part_of old.at.item) did
  pub top : new.top ≡ old.top
  pub stage : new.at.stage ≡ old.at.stage
  pub part : part_of new.at.item ≡ part_after_last_step did (part_of old.at.item)

-- a folder of the copy's own joined the list, or left it with the report of its sync,
-- or the list is as it was
pub record ChangesOwn (c : SubtreeCopying) (did : Did) (dirty dirty_after : List Route) : Type 0 where
  pub folder : Route
  pub own : is_own c folder ≡ true
  pub was : Bool
  pub now : Bool
  pub list : dirty_after ≡ with_change was now folder dirty
  pub synced : was ≡ true → now ≡ false → did ≡ Barrier

pub record ReportingLaw : Type 0 where
  pub step : (free : Route → Bool) (replies : Replies) (old new : SubtreeCopying) (did : Did) (calls : ℕ)
      (dirty dirty_after : List Route) (before after : Option CallLog) (faults faults_after : ℕ)
      → SubtreeSteps free replies old new did calls dirty dirty_after before after faults faults_after
      → MayTell did
  pub last : (ending : Ending) (old new : SubtreeCopying) (last : LastStepResult)
      (dirty dirty_after : List Route) (before after : Option CallLog) (faults faults_after : ℕ)
      → LastSubtreeStep ending old new last dirty dirty_after before after faults faults_after
      → IsWindable old.at.item → IsAfterLastStep ending old last.did new
  pub list : (free : Route → Bool) (replies : Replies) (old new : SubtreeCopying) (did : Did) (calls : ℕ)
      (dirty dirty_after : List Route) (before after : Option CallLog) (faults faults_after : ℕ)
      → SubtreeSteps free replies old new did calls dirty dirty_after before after faults faults_after
      → IsInPlace old.top old.at → ChangesOwn old did dirty dirty_after
  -- what is passed over is in a trouble of a kind that is skipped
  pub kinds : (free : Route → Bool) (replies : Replies) (old new : SubtreeCopying) (path : Route)
      (cause : Cause) (calls : ℕ) (dirty dirty_after : List Route) (before after : Option CallLog)
      (faults faults_after : ℕ)
      → SubtreeSteps free replies old new (Skipped path cause) calls dirty dirty_after before after faults
      faults_after → holds replies.skips (kind_in cause) ≡ true
  -- the folder that a last step tries is the one that is worked then
  pub tried : (old new : SubtreeCopying) → new.top ≡ old.top → IsInPlace old.top new.at
      → is_own old new.at.levels.inner.copy.target ≡ true

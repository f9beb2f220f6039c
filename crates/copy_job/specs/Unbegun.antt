-- A copy that has changed nothing yet: nothing is at work, no folder was gone into, and none is dirty. Its
-- first change begins a part or makes a folder.
use Rattle.std.specs.Prelude.{◌≡◌, ◌≤◌, ℕ, ⊤, Bool, true, false, List, [], length, Option}
use Rattle.mc_text.specs.Routes.{Route}
use Rattle.tree_trait.specs.Change.{CallLog}
use Rattle.job_answers.specs.declared.replies.Replies.{Replies}
use Rattle.job_reports.specs.declared.job.Pair.{Pair}
use Rattle.job_reports.specs.declared.report.Cause.{Cause}
use Rattle.job_reports.specs.declared.report.Did.{Did}
use Rattle.job_reports.specs.declared.report.Did.TheVariants.{Began, Chunk, Placed, Removed, Made}
use Rattle.job_reports.specs.declared.report.Did.TheVariants.{Set, Kept, Skipped, Cleaned, Barrier}
use Rattle.job_reports.specs.declared.report.Did.TheVariants.{Asked, Merges, Moved, Troubled, Ended}
use Rattle.job_reports.specs.declared.report.Trouble.{Trouble}
use Rattle.copy_folders.specs.FolderCopying.{is_dirty}
use Rattle.copy_tree.specs.declared.item.ItemAtWork.TheVariants.{Next}
use Rattle.copy_tree.specs.Falling.{IsSteady}
use Rattle.copy_tree.specs.Standing.{Seen, is_fresh}
use Rattle.copy_job.specs.Leaving.{owes_at_end}
use Rattle.copy_job.specs.Standing.{IsGoing, SubtreeCopying, retries, begun_subtree_copy}
use Rattle.copy_job.specs.SubtreeSteps.{SubtreeSkips, SubtreeSteps}

-- where it stands: in the folder of its source, which owes nothing, and has at most that one name to be met
pub record IsOutside (c : Seen) : Type 0 where
  pub none : c.item ≡ Next
  pub around : c.levels.around ≡ []
  pub one : length c.levels.inner.names.names ≤ 1
  pub owes : owes_at_end c.levels.inner.copy.stage false ≡ false
  pub clean : is_dirty c.levels.inner.copy.names ≡ false

abbrev pub IsUnbegun : Seen → Type 0
IsUnbegun c = is_fresh c.stage ≡ true → IsOutside c

-- what it may report
abbrev pub MayBegin : Did → Type 0
MayBegin (Began part) = ⊤
MayBegin (Made path) = ⊤
MayBegin (Skipped path cause) = ⊤
MayBegin (Troubled trouble) = ⊤
MayBegin (Ended ending part) = ⊤
MayBegin (Chunk count) = ⊥
MayBegin (Placed path) = ⊥
MayBegin (Removed path) = ⊥
MayBegin (Set path) = ⊥
MayBegin (Kept path) = ⊤
MayBegin (Asked question) = ⊤
MayBegin (Merges transfer pair names) = ⊤
MayBegin (Moved pair) = ⊥
MayBegin (Cleaned part) = ⊥
MayBegin Barrier = ⊥

-- So it is of a copy that begins, and each step, skip and retry keeps it. No trouble of
-- such a copy is at a barrier.
pub record UnbegunLaw : Type 0 where
  pub begins : (job : ℕ) (top : Pair)
      → (let copy : SubtreeCopying = begun_subtree_copy job top in IsUnbegun copy.at)
  pub step : (free : Route → Bool) (replies : Replies) (old new : SubtreeCopying) (did : Did) (calls : ℕ)
      (dirty dirty_after : List Route) (before after : Option CallLog) (faults faults_after : ℕ)
      → SubtreeSteps free replies old new did calls dirty dirty_after before after faults faults_after
      → IsGoing old → IsUnbegun old.at → IsUnbegun new.at
  pub skip : (cause : Cause) (old new : SubtreeCopying) (did : Did) → SubtreeSkips cause old did new
      → IsGoing old → IsUnbegun old.at → IsUnbegun new.at
  pub retry : (c : SubtreeCopying) → IsUnbegun c.at
      → (let again : SubtreeCopying = retries c in IsUnbegun again.at)
  pub trouble : (free : Route → Bool) (replies : Replies) (old new : SubtreeCopying) (trouble : Trouble)
      (calls : ℕ) (dirty dirty_after : List Route) (before after : Option CallLog) (faults faults_after : ℕ)
      → SubtreeSteps free replies old new (Troubled trouble) calls dirty dirty_after before after faults
      faults_after → IsSteady old.at → IsGoing old → IsUnbegun old.at → is_fresh new.at.stage ≡ true
      → trouble.barrier ≡ false
  pub first : (free : Route → Bool) (replies : Replies) (old new : SubtreeCopying) (did : Did) (calls : ℕ)
      (dirty dirty_after : List Route) (before after : Option CallLog) (faults faults_after : ℕ)
      → SubtreeSteps free replies old new did calls dirty dirty_after before after faults faults_after
      → IsUnbegun old.at → is_fresh old.at.stage ≡ true → MayBegin did

-- A folder that is to be copied onto a folder: the two are merged by others, and the copy of it is over,
-- before it has changed anything. What stands at the target of a file or a link, and is kept: the copy is
-- done with it. What is asked whether it is to be replaced.
use Rattle.std.specs.Prelude.{◌≡◌, ◌≤◌, ◌^◌, ℕ, Bool, true, false, List, [], length, Option}
use Rattle.mc_text.specs.Routes.{Route}
use Rattle.tree_trait.specs.Change.{CallLog}
use Rattle.job_answers.specs.declared.replies.Replies.{Replies}
use Rattle.job_reports.specs.declared.job.Pair.{Pair}
use Rattle.job_reports.specs.declared.question.Question.{Question}
use Rattle.job_reports.specs.declared.report.Cause.{Cause}
use Rattle.job_reports.specs.declared.report.Did.{Did}
use Rattle.job_reports.specs.declared.report.Did.TheVariants.{Asked, Kept, Merges}
use Rattle.job_reports.specs.declared.report.Transfer.TheVariants.{ByCopy}
use Rattle.copy_folders.specs.FolderCopying.{is_dirty}
use Rattle.copy_tree.specs.declared.item.ItemAtWork.TheVariants.{Next}
use Rattle.copy_tree.specs.InPlace.{IsInPlace}
use Rattle.copy_tree.specs.Reports.{changes}
use Rattle.copy_tree.specs.Standing.{Seen, is_fresh}
use Rattle.copy_tree.specs.Taking.{AreShort}
use Rattle.copy_job.specs.Leaving.{owes_at_end}
use Rattle.copy_job.specs.Standing.{SubtreeCopying, retries}
use Rattle.copy_job.specs.SubtreeSteps.{SubtreeSkips, SubtreeSteps}
use Rattle.copy_job.specs.Unbegun.{IsUnbegun}

-- nothing is left to be copied, and nothing is owed
pub record IsOver (c : Seen) : Type 0 where
  pub none : c.item ≡ Next
  pub around : c.levels.around ≡ []
  pub names : c.levels.inner.names.names ≡ []
  pub owes : owes_at_end c.levels.inner.copy.stage false ≡ false
  pub clean : is_dirty c.levels.inner.copy.names ≡ false

-- What is merged is what is copied itself, once, before anything was changed; what lies in it can be told,
-- with its targets; and then the copy is over.
pub record MergesTop (old : SubtreeCopying) (pair : Pair) (names : List (List ℕ))
    (new : SubtreeCopying) : Type 0 where
  pub fresh : is_fresh old.at.stage ≡ true
  pub top : pair ≡ old.top
  pub short : AreShort pair names
  pub few : length names ≤ 2 ^ 64
  pub begins : IsOver old.at → ⊥
  pub over : IsOver new.at

-- nothing is left to be copied, but the folder that holds the target may owe its sync
pub record IsPassed (c : Seen) : Type 0 where
  pub none : c.item ≡ Next
  pub around : c.levels.around ≡ []
  pub names : c.levels.inner.names.names ≡ []

-- What is kept is what stands at the target of what is copied itself, at which nothing is at work; then
-- nothing is left to be copied, and where nothing was changed before the copy is over.
pub record KeepsTop (old : SubtreeCopying) (path : Route) (new : SubtreeCopying) : Type 0 where
  pub target : path ≡ old.top.target
  pub none : old.at.item ≡ Next
  pub around : old.at.levels.around ≡ []
  pub begins : IsPassed old.at → ⊥
  pub passed : IsPassed new.at
  pub over : is_fresh old.at.stage ≡ true → IsOver new.at

-- It asks of what is copied itself, at which nothing is at work, and stands where it stood.
pub record AsksTop (old new : SubtreeCopying) : Type 0 where
  pub none : old.at.item ≡ Next
  pub around : old.at.levels.around ≡ []
  pub begins : IsPassed old.at → ⊥
  pub same : new ≡ old

pub record MergedLaw : Type 0 where
  pub merges : (free : Route → Bool) (replies : Replies) (old new : SubtreeCopying) (pair : Pair)
      (names : List (List ℕ)) (calls : ℕ) (dirty dirty_after : List Route) (before after : Option CallLog)
      (faults faults_after : ℕ)
      → SubtreeSteps free replies old new (Merges ByCopy pair names) calls dirty dirty_after before after
      faults faults_after → IsInPlace old.top old.at → IsUnbegun old.at → MergesTop old pair names new
  pub keeps : (free : Route → Bool) (replies : Replies) (old new : SubtreeCopying) (path : Route) (calls : ℕ)
      (dirty dirty_after : List Route) (before after : Option CallLog) (faults faults_after : ℕ)
      → SubtreeSteps free replies old new (Kept path) calls dirty dirty_after before after faults faults_after
      → IsInPlace old.top old.at → IsUnbegun old.at → KeepsTop old path new
  pub asks : (free : Route → Bool) (replies : Replies) (old new : SubtreeCopying) (question : Question)
      (calls : ℕ) (dirty dirty_after : List Route) (before after : Option CallLog) (faults faults_after : ℕ)
      → SubtreeSteps free replies old new (Asked question) calls dirty dirty_after before after faults
      faults_after → IsInPlace old.top old.at → AsksTop old new
  -- a copy that is over stays so, and changes nothing
  pub step : (free : Route → Bool) (replies : Replies) (old new : SubtreeCopying) (did : Did) (calls : ℕ)
      (dirty dirty_after : List Route) (before after : Option CallLog) (faults faults_after : ℕ)
      → SubtreeSteps free replies old new did calls dirty dirty_after before after faults faults_after
      → IsOver old.at → IsOver new.at × (changes did ≡ false)
  pub skip : (cause : Cause) (old new : SubtreeCopying) (did : Did) → SubtreeSkips cause old did new
      → IsOver old.at → IsOver new.at
  pub retry : (c : SubtreeCopying) → IsOver c.at → (let again : SubtreeCopying = retries c in IsOver again.at)

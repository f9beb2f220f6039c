-- The copy of a thing, with all that lies in it, as the work of a job: what a step may report, and where
-- the copy stands then; what that says of the tree's calls; and what a history tells of it. What it does
-- next is said in copy_job.
use Rattle.std.specs.Prelude.{◌≡◌, ◌≤◌, ℕ, Bool, true, false, List, Option, Some}
use Rattle.mc_text.specs.Routes.{Route}
use Rattle.tree_trait.specs.Change.{CallLog}
use Rattle.job_answers.specs.Skipping.{holds, kind_in}
use Rattle.job_answers.specs.declared.replies.Replies.{Replies}
use Rattle.job_reports.specs.declared.report.Transfer.TheVariants.{ByCopy}
use Rattle.job_reports.specs.declared.job.Pair.{Pair}
use Rattle.job_reports.specs.declared.question.Question.{Question}
use Rattle.job_reports.specs.declared.report.Cause.{Cause}
use Rattle.job_reports.specs.declared.report.Did.{Did}
use Rattle.job_reports.specs.declared.report.Did.TheVariants.{Asked, Kept, Merges, Skipped, Troubled}
use Rattle.job_reports.specs.declared.report.Trouble.{Trouble}
use Rattle.copy_tree.specs.declared.copy.Stage.{Stage}
use Rattle.copy_tree.specs.declared.copy.Stage.TheVariants.{Going}
use Rattle.copy_tree.specs.declared.item.ItemAtWork.{ItemAtWork}
use Rattle.copy_tree.specs.declared.item.ItemAtWork.TheVariants.{Next}
use Rattle.copy_tree.specs.Ending.{stays_if}
use Rattle.copy_tree.specs.Falling.{IsSteady}
use Rattle.copy_tree.specs.Reports.{changes}
use Rattle.copy_tree.specs.Standing.{Seen, begun_tree_copy, is_fresh}
use Rattle.copy_job.specs.Merged.{AsksTop, IsOver, KeepsTop, MergesTop}
use Rattle.copy_job.specs.Reporting.{MayTell}
use Rattle.copy_job.specs.Standing.{SubtreeCopying, at_barrier, named_of, part_of}
use Rattle.copy_job.specs.Standing as standing
use Rattle.copy_job.specs.SubtreeSteps.{SubtreeSteps}
use Rattle.copy_job.specs.Told.{IsAfter}
use Rattle.copy_job.specs.Unbegun.{IsUnbegun, MayBegin}

-- a copy that goes on: a step can be made, and its ranks and its beginning are as its laws want them
pub record IsGoing (c : SubtreeCopying) : Type 0 where
  pub can : standing.IsGoing c
  pub steady : IsSteady c.at
  pub unbegun : IsUnbegun c.at

-- What a step may report that goes on, and where the copy stands then. A trouble is at a barrier where the
-- copy stands so after it, and never before the first change, which begins a part or makes a folder; what
-- is passed over is in a trouble of a kind to which `Skip all` was answered. A folder is merged with one at
-- the target only before that change, and then the copy is over, which changes nothing. What is kept is
-- what stands at the target. After a question the copy stands where it stood.
pub record Tells (replies : Replies) (c : SubtreeCopying) (did : Did) (new : SubtreeCopying) : Type 0 where
  pub may : MayTell did
  pub after : IsAfter did c new
  pub first : is_fresh c.at.stage ≡ true → MayBegin did
  pub barred : (trouble : Trouble) → did ≡ Troubled trouble → trouble.barrier ≡ at_barrier new.at
  pub apart : (trouble : Trouble) → did ≡ Troubled trouble → is_fresh c.at.stage ≡ true
      → trouble.barrier ≡ false
  pub kinds : (path : Route) (cause : Cause) → did ≡ Skipped path cause
      → holds replies.skips (kind_in cause) ≡ true
  pub merged : (pair : Pair) (names : List (List ℕ)) → did ≡ Merges ByCopy pair names
      → MergesTop c pair names new
  pub kept : (path : Route) → did ≡ Kept path → KeepsTop c path new
  pub asked : (question : Question) → did ≡ Asked question → AsksTop c new
  pub over : IsOver c.at → IsOver new.at × (changes did ≡ false)

-- what is left as it is: all that a history tells of the copy stays
abbrev pub Passes : SubtreeCopying → Route → SubtreeCopying → Type 0
Passes c path new = (cause : Cause) × IsAfter (Skipped path cause) c new

-- a part is named only where no other job claims its path
abbrev pub AllowsOnly : (Route → Type 0) → (Route → Bool) → Type 0
AllowsOnly unclaimed free = (path : Route) → free path ≡ true → unclaimed path

-- What the machine does in a step, which may come after looks that met faults.
pub record Goes (unclaimed : Route → Type 0) (replies : Replies) (old new : SubtreeCopying)
    (did : Did) (calls : ℕ) (dirty dirty_after : List Route) (before after : Option CallLog)
    (faults faults_after : ℕ) : Type 0 where
  pub free : Route → Bool
  pub allows : AllowsOnly unclaimed free
  pub since : ℕ
  pub later : faults ≤ since
  pub steps : SubtreeSteps free replies old new did calls dirty dirty_after before after since faults_after

-- what a step says of the tree's calls: they are those of the machine
pub record Calls (unclaimed : Route → Type 0) (replies : Replies) (c : SubtreeCopying) (did : Did)
    (new : SubtreeCopying) (log : CallLog) (after : Option CallLog) : Type 0 where
  pub calls : ℕ
  pub dirty : List Route
  pub dirty_after : List Route
  pub faults : ℕ
  pub faults_after : ℕ
  pub goes : Goes unclaimed replies c new did calls dirty dirty_after (Some log) after faults faults_after

-- A copy as its history tells it: the one just begun, with its stage and its part, as one that stays.
abbrev pub told_at : ℕ → Pair → Stage → Option Route → SubtreeCopying
told_at id top stage part = record {
  top = top;
  at = (let c : Seen = begun_tree_copy id (named_of top.source) (named_of top.target) in
      record c { stage = stage; item = stays_if part });
}

abbrev pub as_told : ℕ → SubtreeCopying → SubtreeCopying
as_told id c = told_at id c.top c.at.stage (part_of c.at.item)

-- the copy with this item at work
abbrev pub with_item : ItemAtWork → SubtreeCopying → SubtreeCopying
with_item item c = record c { at = (let s : Seen = c.at in record s { item = item }) }

-- something was changed
abbrev pub changed_copy : SubtreeCopying → SubtreeCopying
changed_copy c = record c { at = (let s : Seen = c.at in record s { stage = Going }) }

-- what a report makes of a copy as it is told: this part stands, and something was changed
abbrev pub with_part : Option Route → SubtreeCopying → SubtreeCopying
with_part part c = with_item (stays_if part) (changed_copy c)

-- in last steps the part was removed
abbrev pub without_part : SubtreeCopying → SubtreeCopying
without_part c = with_item Next c

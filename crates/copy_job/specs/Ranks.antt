-- How many steps a copy makes at most before its end or its next trouble, whatever the tree
-- lists. Each step leaves fewer.
use Rattle.std.specs.Prelude.{◌≡◌, ◌<◌, ◌≤◌, ℕ, ◌+◌, ◌-◌, ◌*◌, ◌^◌, Bool}
use Rattle.std.specs.Prelude.{true, false, List, [], ◌∷◌, Option, Some, None}
use Rattle.mc_text.specs.Routes.{Route}
use Rattle.tree_trait.specs.Change.{CallLog}
use Rattle.job_answers.specs.declared.replies.Replies.{Replies}
use Rattle.job_reports.specs.declared.job.Pair.{Pair}
use Rattle.job_reports.specs.declared.report.Cause.{Cause}
use Rattle.job_reports.specs.declared.report.Did.{Did}
use Rattle.job_reports.specs.declared.report.Did.TheVariants.{Asked, Troubled, Ended}
use Rattle.job_reports.specs.declared.report.Ending.{Ending}
use Rattle.job_reports.specs.declared.report.LastStepResult.{LastStepResult}
use Rattle.job_reports.specs.Reports.{ends}
use Rattle.copy_file.specs.declared.stage.Next.TheVariants as file_next
use Rattle.copy_file.specs.declared.stage.Stage.{Stage as FileStage}
use Rattle.copy_file.specs.declared.stage.Stage.TheVariants as file
use Rattle.copy_folders.specs.declared.stage.NamesState.{NamesState}
use Rattle.copy_folders.specs.declared.stage.NamesState.TheVariants.{Synced, Dirty}
use Rattle.copy_folders.specs.declared.stage.Stage.{Stage}
use Rattle.copy_folders.specs.declared.stage.Stage.TheVariants.{Make, Fill, Close, Done}
use Rattle.copy_link.specs.declared.stage.Next.TheVariants as link_next
use Rattle.copy_link.specs.declared.stage.Stage.{Stage as LinkStage}
use Rattle.copy_link.specs.declared.stage.Stage.TheVariants as link
use Rattle.copy_folders.specs.declared.level.Level.{Level}
use Rattle.copy_folders.specs.Levels.{Levels}
use Rattle.copy_tree.specs.declared.item.ItemAtWork.{ItemAtWork}
use Rattle.copy_tree.specs.declared.item.ItemAtWork.TheVariants.{Next, File, Link, Stays}
use Rattle.copy_tree.specs.Falling.{IsSteady, things_left}
use Rattle.copy_tree.specs.Standing.{Seen}
use Rattle.copy_job.specs.Standing.{IsGoing, SubtreeCopying, at_barrier, retries, begun_subtree_copy}
use Rattle.copy_job.specs.SubtreeSteps.{LastSubtreeStep, SubtreeSkips, SubtreeSteps}

-- a sync is owed
abbrev pub dirt : NamesState → ℕ
dirt Dirty = 1
dirt Synced = 0

-- at a folder itself: it is made, closed, given its mode, and synced
abbrev pub stage_rank : Stage → ℕ
stage_rank (Make mode) = 4
stage_rank (Fill owed) = 3
stage_rank (Close (Some mode)) = 2
stage_rank (Close None) = 1
stage_rank Done = 0

abbrev pub level_rank : Level → ℕ
level_rank l = 2 * stage_rank l.copy.stage + dirt l.copy.names

abbrev pub around_rank : List Level → ℕ
around_rank [] = 0
around_rank (outer ∷ around) = level_rank outer + around_rank around

abbrev pub levels_rank : Levels → ℕ
levels_rank l = level_rank l.inner + around_rank l.around

-- of a thing that is to be begun, where none takes more than so many steps; and once more where
-- its part is removed before
abbrev pub anew : ℕ → ℕ
anew most = most + 16

-- of a file: its bytes, of which each chunk takes one at least
abbrev pub file_rank : ℕ → FileStage → ℕ
file_rank most file.Begin = anew most
file_rank most (file.Fill part facts done) = 2 * (facts.size - done) + 8
file_rank most (file.Clean part file_next.Begin) = anew most + 4
file_rank most (file.Clean part file_next.Decided) = 4
file_rank most (file.Left part) = 4
file_rank most file.Decided = 4

abbrev pub link_rank : ℕ → LinkStage → ℕ
link_rank most link.Make = anew most
link_rank most link.Place = 8
link_rank most (link.Clean link_next.Again) = anew most + 4
link_rank most (link.Clean link_next.Decided) = 4
link_rank most link.Left = 4
link_rank most link.Again = anew most
link_rank most link.Decided = 4

abbrev pub item_rank : ℕ → ItemAtWork → ℕ
item_rank most Next = anew most
item_rank most (File f) = file_rank most f.stage
item_rank most (Link l) = link_rank most l.stage
item_rank most (Stays part) = 0

-- of all things that are left, of the one at work, and of the open folders
abbrev pub rank_by : ℕ → Seen → ℕ
rank_by most c = things_left c * anew most + (item_rank most c.item + levels_rank c.levels)

-- a file has at most 2^63 bytes
abbrev pub rank : Seen → ℕ
rank c = rank_by (2 ^ 64) c

-- The copy goes on after this report. After a question it stands where it stood, and waits for the answer.
abbrev pub goes_on : Did → Bool
goes_on (Troubled trouble) = false
goes_on (Asked question) = false
goes_on (Ended ending part) = false
goes_on did = true

-- Each step after which the copy goes on leaves fewer.
abbrev pub RankLaw : Type 0
RankLaw =
    (free : Route → Bool) (replies : Replies) (old new : SubtreeCopying) (did : Did) (calls : ℕ)
    (dirty dirty_after : List Route) (before after : Option CallLog) (faults faults_after : ℕ)
    → SubtreeSteps free replies old new did calls dirty dirty_after before after faults faults_after
    → IsSteady old.at → IsGoing old → goes_on did ≡ true → rank new.at < rank old.at

-- A copy that begins is steady, as this law wants it, and each step, skip and retry keeps it so.
pub record SteadyLaw : Type 0 where
  pub begins : (job : ℕ) (top : Pair)
      → (let copy : SubtreeCopying = begun_subtree_copy job top in IsSteady copy.at)
  pub step : (free : Route → Bool) (replies : Replies) (old new : SubtreeCopying) (did : Did) (calls : ℕ)
      (dirty dirty_after : List Route) (before after : Option CallLog) (faults faults_after : ℕ)
      → SubtreeSteps free replies old new did calls dirty dirty_after before after faults faults_after
      → IsSteady old.at → IsSteady new.at
  pub skip : (cause : Cause) (old new : SubtreeCopying) (did : Did) → SubtreeSkips cause old did new
      → IsSteady old.at → IsSteady new.at
  pub retry : (c : SubtreeCopying) → IsSteady c.at
      → (let again : SubtreeCopying = retries c in IsSteady again.at)

-- What a person answers to a trouble. A skip after which the copy goes on leaves two steps fewer at least;
-- a retry leaves those of one thing more at most, which is begun again.
pub record AnsweredLaw : Type 0 where
  pub skip : (cause : Cause) (old new : SubtreeCopying) (did : Did) → SubtreeSkips cause old did new
      → IsSteady old.at → at_barrier old.at ≡ false → goes_on did ≡ true → rank new.at + 2 ≤ rank old.at
  pub retry : (c : SubtreeCopying) → IsGoing c
      → (let again : SubtreeCopying = retries c in rank again.at) ≤ rank c.at + anew (2 ^ 64) + 4

-- Of last steps: the part at work, and one try for each folder that is dirty.
abbrev pub marks_around : List Level → ℕ
marks_around [] = 0
marks_around (outer ∷ around) = dirt outer.copy.names + marks_around around

abbrev pub marks : Levels → ℕ
marks l = dirt l.inner.copy.names + marks_around l.around

abbrev pub last_of : ItemAtWork → ℕ
last_of Next = 0
last_of (File f) = 3
last_of (Link l) = 3
last_of (Stays part) = 0

abbrev pub last_rank : Seen → ℕ
last_rank c = last_of c.item + marks c.levels

-- They are fewer than those of a copy that goes on, so one that waits counts as one that is aborted.
abbrev pub WaitingLaw : Type 0
WaitingLaw = (c : SubtreeCopying) → IsGoing c → last_rank c.at < rank c.at

-- Each last step but the end leaves fewer.
abbrev pub LastRankLaw : Type 0
LastRankLaw =
    (ending : Ending) (old new : SubtreeCopying) (last : LastStepResult) (dirty dirty_after : List Route)
    (before after : Option CallLog) (faults faults_after : ℕ)
    → LastSubtreeStep ending old new last dirty dirty_after before after faults faults_after
    → ends last.did ≡ false → last_rank new.at < last_rank old.at

-- What stands at the target of a copy or a move is replaced, kept or asked about only as was answered, a
-- folder that is merged is merged whole, and one that was emptied is removed only where nothing lies in it;
-- in the words of the history alone. Histories stand newest first here.
use Rattle.std.specs.Prelude.{◌≡◌, ◌⊎◌, ◌↔◌, ℕ, ◌<◌, ⊤, ◌==◌, Bool, true, false, ◌&&◌, not}
use Rattle.std.specs.Prelude.{if◌then◌else◌, List, [], ◌∷◌, length, is_some, Some, None}
use Rattle.std.specs.Option.{option_map}
use Rattle.mc_text.specs.Routes.{Route}
use Rattle.mc_text.specs.declared.kind.Kind.{Kind}
use Rattle.tree_trait.specs.FileSystem.{Value, View}
use Rattle.tree_trait.specs.Answers.{IsAscending}
use Rattle.tree_trait.specs.Refusals.{folder_kind}
use Rattle.tree_trait.specs.Change.{CallLog}
use Rattle.tree_trait.specs.CrashImages.{Among}
use Rattle.job_reports.specs.declared.answer.Answer.{Answer}
use Rattle.job_reports.specs.declared.answer.Answer.TheVariants.{Yes, No, All, Update, Nothing}
use Rattle.job_reports.specs.declared.answer.Answer.TheVariants.{SizeDiffers, Retry, Skip, SkipAll, Abort}
use Rattle.job_reports.specs.declared.job.Pair.{Pair}
use Rattle.job_reports.specs.declared.question.Question.{Question}
use Rattle.job_reports.specs.declared.report.Did.{Did}
use Rattle.job_reports.specs.declared.report.Did.TheVariants.{Began, Chunk, Placed, Removed, Made}
use Rattle.job_reports.specs.declared.report.Did.TheVariants.{Set, Kept, Skipped, Cleaned, Barrier}
use Rattle.job_reports.specs.declared.report.Did.TheVariants.{Asked, Merges, Moved, Troubled, Ended}
use Rattle.job_reports.specs.declared.report.Transfer.TheVariants.{ByCopy, ByMove}
use Rattle.job_reports.specs.Jobs.{ItemOfJob, Copies, Moves, RemovesEmptied}
use Rattle.job_reports.specs.Paths.{folder_of}
use Rattle.job_answers.specs.declared.replies.Decision.TheVariants.{Ask, Keep, Replace}
use Rattle.job_answers.specs.declared.replies.Replies.{Replies}
use Rattle.job_answers.specs.Decisions.{decision_on, no_replies, with_reply}
use Rattle.copy_tree.specs.Replaceable.{IsReplaceable}
use Rattle.session_entries.specs.declared.history.Event.{Event}
use Rattle.session_entries.specs.declared.history.Event.TheVariants.{Key, Look, Sought, Order}
use Rattle.session_entries.specs.declared.history.Event.TheVariants.{Step, Next, Closed}
use Rattle.session_entries.specs.declared.history.Event.TheVariants as event
use Rattle.session_entries.specs.declared.history.JobOrder.TheVariants.{Answered}
use Rattle.session_entries.specs.declared.history.Entry.{Entry}
use Rattle.session_entries.specs.Entries.{IsMoment, is_closed}
use Rattle.session_entries.specs.LiveJobs.{live_item, live_jobs}
use Rattle.laws_sessions.specs.Replayed.{replayed_tree}

-- the report is a question
abbrev pub asks_by : Did → Bool
asks_by (Asked question) = true
asks_by (Began part) = false
asks_by (Chunk count) = false
asks_by (Placed path) = false
asks_by (Removed path) = false
asks_by (Made made) = false
asks_by (Set path) = false
asks_by (Kept path) = false
asks_by (Skipped path cause) = false
asks_by (Cleaned part) = false
asks_by Barrier = false
asks_by (Merges transfer pair names) = false
asks_by (Moved pair) = false
asks_by (Troubled trouble) = false
asks_by (Ended ending part) = false

-- a question takes the answer
abbrev pub settles : Answer → Bool
settles Yes = true
settles No = true
settles All = true
settles Update = true
settles Nothing = true
settles SizeDiffers = true
settles Abort = true
settles Retry = false
settles Skip = false
settles SkipAll = false

abbrev pub asks_after : ℕ → Event → Bool → Bool
asks_after id (event.Began number plan background) before = if number == id then false else before
asks_after id (Step number did) before = if number == id then asks_by did else before
asks_after id (Next number plan) before = if number == id then false else before
asks_after id (Order number (Answered answer)) before =
    if id == number then before && not (settles answer) else before
asks_after id (Key key now refusals lost) before = before
asks_after id (Look refusals) before = before
asks_after id Sought before = before
asks_after id Closed before = before

-- The job with this number waits for the answer to its question: that was what it reported last, and
-- nothing was answered since. On a closed session no job waits.
abbrev pub asks_still : ℕ → List Entry → Bool
asks_still id [] = false
asks_still id (e ∷ older) =
    if is_closed (e ∷ older) then false else asks_after id e.what (asks_still id older)

-- What was answered to its questions and still holds: nothing as it begins; what was answered for one thing
-- goes with the next source. Of troubles, and which kinds are passed over, nothing is in it.
abbrev pub said_after : ℕ → Event → Bool → Replies → Replies
said_after id (event.Began number plan background) asks before = if number == id then no_replies else before
said_after id (Next number plan) asks before = if number == id then record before { item = None } else before
said_after id (Order number (Answered answer)) asks before =
    if id == number then (if asks then with_reply answer before else before) else before
said_after id (Step number did) asks before = before
said_after id (Key key now refusals lost) asks before = before
said_after id (Look refusals) asks before = before
said_after id Sought asks before = before
said_after id Closed asks before = before

abbrev pub replies_said : ℕ → List Entry → Replies
replies_said id [] = no_replies
replies_said id (e ∷ older) = said_after id e.what (asks_still id older) (replies_said id older)

-- a thing of such a kind stands at the path, of so many bytes
abbrev pub IsSizedAs : (Kind → Type 0) → View → Route → ℕ → Type 0
IsSizedAs IsOfKind v path size =
    (x : Value) × ((v path).value ≡ Some x) × IsOfKind x.kind × (size ≡ length x.bytes)

-- a file or a link does
abbrev pub IsSized : View → Route → ℕ → Type 0
IsSized v path size = IsSizedAs IsReplaceable v path size

-- The question is whether what stands at this source replaces what stands at this
-- target, each a file or a link.
pub record IsQuestionOf (v : View) (source target : Route) (question : Question) : Type 0 where
  pub from : question.source ≡ source
  pub to : question.target ≡ target
  pub source_is : IsSized v source question.source_size
  pub target_is : IsSized v target question.target_size

-- The same of what is moved: a file, a link or a special thing.
pub record IsMoveQuestion (v : View) (source target : Route) (question : Question) : Type 0 where
  pub from : question.source ≡ source
  pub to : question.target ≡ target
  pub source_is : IsSizedAs (λ kind. folder_kind kind ≡ false) v source question.source_size
  pub target_is : IsSized v target question.target_size

-- These are the names of all that stands in the folder at the source, each once and in their order, where
-- each thing has one that can be told; so a merge leaves nothing out.
pub record IsMergedWhole (v : View) (pair : Pair) (names : List (List ℕ)) : Type 0 where
  pub in_order : IsAscending names
  pub all : (name : List ℕ) → Among names name ↔ (is_some (v (name ∷ pair.source)).value ≡ true)
  pub named : option_map (λ x. x.unnamed) (v pair.source).value ≡ Some 0

-- A move asks where no answer that stands decides; it keeps what stands at its target where one says so; of
-- a folder that is merged all that lies in it is told, to be moved; and it goes there, by which that is
-- replaced if anything stands there, only where one says that.
abbrev pub IsMovedAsAnswered : Replies → Route → Route → View → Did → Type 0
IsMovedAsAnswered replies source target v (Asked question) =
    IsMoveQuestion v source target question × (decision_on replies question ≡ Ask)
IsMovedAsAnswered replies source target v (Kept path) = (path ≡ target) × ((question : Question)
    × IsMoveQuestion v source target question × (decision_on replies question ≡ Keep))
IsMovedAsAnswered replies source target v (Moved pair) =
    (pair ≡ record { source = source; target = target })
    × (is_some (v target).value ≡ true → (question : Question) × IsMoveQuestion v source target question
    × (decision_on replies question ≡ Replace))
IsMovedAsAnswered replies source target v (Began part) = ⊥
IsMovedAsAnswered replies source target v (Chunk count) = ⊥
IsMovedAsAnswered replies source target v (Placed path) = ⊥
IsMovedAsAnswered replies source target v (Removed path) = ⊥
IsMovedAsAnswered replies source target v (Made made) = ⊥
IsMovedAsAnswered replies source target v (Set path) = ⊥
IsMovedAsAnswered replies source target v (Cleaned part) = ⊥
IsMovedAsAnswered replies source target v (Merges transfer pair names) =
    (transfer ≡ ByMove) × (pair ≡ record { source = source; target = target }) × IsMergedWhole v pair names
IsMovedAsAnswered replies source target v (Skipped path cause) = ⊤
IsMovedAsAnswered replies source target v Barrier = ⊤
IsMovedAsAnswered replies source target v (Troubled trouble) = ⊤
IsMovedAsAnswered replies source target v (Ended ending part) = ⊤

-- A copy asks where no answer that stands decides; it keeps what stands at its target where one says so; of
-- a folder that is merged all that lies in it is told, to be copied; and it begins a part beside its
-- target, by which that is replaced if anything stands there, only where one says that.
abbrev pub IsAsAnswered : Replies → Route → Route → View → Did → Type 0
IsAsAnswered replies source target v (Asked question) =
    IsQuestionOf v source target question × (decision_on replies question ≡ Ask)
IsAsAnswered replies source target v (Kept path) = (path ≡ target)
    × ((question : Question) × IsQuestionOf v source target question × (decision_on replies question ≡ Keep))
IsAsAnswered replies source target v (Began part) =
    folder_of part ≡ folder_of target → is_some (v target).value ≡ true
    → (question : Question) × IsQuestionOf v source target question × (decision_on replies question ≡ Replace)
IsAsAnswered replies source target v (Chunk count) = ⊤
IsAsAnswered replies source target v (Placed path) = ⊤
IsAsAnswered replies source target v (Removed path) = ⊤
IsAsAnswered replies source target v (Made made) = ⊤
IsAsAnswered replies source target v (Set path) = ⊤
IsAsAnswered replies source target v (Skipped path cause) = ⊤
IsAsAnswered replies source target v (Cleaned part) = ⊤
IsAsAnswered replies source target v Barrier = ⊤
IsAsAnswered replies source target v (Merges transfer pair names) =
    (transfer ≡ ByCopy) × (pair ≡ record { source = source; target = target }) × IsMergedWhole v pair names
IsAsAnswered replies source target v (Moved pair) = ⊤
IsAsAnswered replies source target v (Troubled trouble) = ⊤
IsAsAnswered replies source target v (Ended ending part) = ⊤

-- something lies in the folder at this path, under a name, or under one that can't be told
abbrev pub HoldsSome : View → Route → Type 0
HoldsSome v path = ((name : List ℕ) × (is_some (v (name ∷ path)).value ≡ true))
    ⊎ ((x : Value) × ((v path).value ≡ Some x) × (0 < x.unnamed))

-- The removal of an emptied folder asks nothing. It removes the folder only where nothing lies in that, and
-- keeps it only where something does.
abbrev pub IsRemovedIfEmpty : Route → View → Did → Type 0
IsRemovedIfEmpty path v (Removed gone) = (gone ≡ path) × (HoldsSome v path → ⊥)
IsRemovedIfEmpty path v (Kept kept) = (kept ≡ path) × HoldsSome v path
IsRemovedIfEmpty path v (Skipped passed cause) = ⊤
IsRemovedIfEmpty path v Barrier = ⊤
IsRemovedIfEmpty path v (Troubled trouble) = ⊤
IsRemovedIfEmpty path v (Ended ending part) = ⊤
IsRemovedIfEmpty path v (Asked question) = ⊥
IsRemovedIfEmpty path v (Began part) = ⊥
IsRemovedIfEmpty path v (Chunk count) = ⊥
IsRemovedIfEmpty path v (Placed placed) = ⊥
IsRemovedIfEmpty path v (Made made) = ⊥
IsRemovedIfEmpty path v (Set given) = ⊥
IsRemovedIfEmpty path v (Cleaned part) = ⊥
IsRemovedIfEmpty path v (Merges transfer pair names) = ⊥
IsRemovedIfEmpty path v (Moved pair) = ⊥

-- Wherever in a history a job that works on such an item reports something, that is as
-- was answered to it before.
abbrev pub Follows : (Route → Route → ItemOfJob) → (Replies → Route → Route → View → Did → Type 0) → CallLog
    → CallLog → List Entry → Type 0
Follows item IsAs opening now newest =
    (e : Entry) (older : List Entry) (id : ℕ) (did : Did) (source target : Route)
    → e.what ≡ Step id did → live_item id (live_jobs older) ≡ Some (item source target)
    → IsMoment newest (e ∷ older) (e ∷ older) e.calls
    → IsAs (replies_said id older) source target (replayed_tree opening now older) did

-- Wherever in a history a job that removes an emptied folder reports something, that is by
-- what lies in the folder.
abbrev pub FollowsContents : CallLog → CallLog → List Entry → Type 0
FollowsContents opening now newest =
    (e : Entry) (older : List Entry) (id : ℕ) (did : Did) (path : Route)
    → e.what ≡ Step id did → live_item id (live_jobs older) ≡ Some (RemovesEmptied path) → IsMoment newest
    (e ∷ older) (e ∷ older) e.calls → IsRemovedIfEmpty path (replayed_tree opening now older) did

-- so it is of a job that copies, of one that moves, and of one that removes an emptied folder
pub record FollowsAnswers (opening now : CallLog) (newest : List Entry) : Type 0 where
  pub copies : Follows Copies IsAsAnswered opening now newest
  pub moves : Follows Moves IsMovedAsAnswered opening now newest
  pub emptied : FollowsContents opening now newest

-- What comes of a thing that is to be moved: the looks at it and at its target, and what the
-- answers that stand decide.
use Rattle.std.specs.Prelude.{◌≡◌, ◌⊎◌, ℕ, ⊤, false, List, Option, Some, None, Result, Ok, Err}
use Rattle.mc_text.specs.Routes.{Route}
use Rattle.mc_text.specs.declared.kind.Kind.{Kind}
use Rattle.tree_trait.specs.declared.file_system.FileSystem.{FileSystem}
use Rattle.tree_trait.specs.declared.calls.Meta.{Meta}
use Rattle.tree_trait.specs.declared.calls.TreeError.TheVariants as refused
use Rattle.tree_trait.specs.Answers.{IsAscending, IsMeta}
use Rattle.tree_trait.specs.CrashImages.{Among}
use Rattle.tree_trait.specs.Calls.{Stat}
use Rattle.tree_trait.specs.Refusals.{folder_kind, refusal_of}
use Rattle.job_reports.specs.declared.job.Pair.{Pair}
use Rattle.job_reports.specs.declared.question.Question.{Question}
use Rattle.job_reports.specs.declared.report.Cause.{Cause}
use Rattle.job_reports.specs.declared.report.Cause.TheVariants as why
use Rattle.job_reports.specs.declared.report.Trouble.{Trouble}
use Rattle.job_reports.specs.Questions.{question_on}
use Rattle.job_reports.specs.Reading.{StatStops, TargetStops}
use Rattle.job_reports.specs.Stops.{out_of_memory_at}
use Rattle.job_answers.specs.declared.placing.Origin.TheVariants.{Moved}
use Rattle.job_answers.specs.declared.placing.Placing.TheVariants.{Asks, Merges, TargetKind}
use Rattle.job_answers.specs.declared.replies.Decision.{Decision}
use Rattle.job_answers.specs.declared.replies.Decision.TheVariants.{Replace, Keep, Ask}
use Rattle.job_answers.specs.declared.replies.Replies.{Replies}
use Rattle.job_answers.specs.Decisions.{decision_on}
use Rattle.job_answers.specs.Questions.{placing_at}
use Rattle.copy_tree.specs.Taking.{AreShort, ChildStops, FolderStops, Lists}
use Rattle.move_job.specs.declared.taking.Taking.{Taking}
use Rattle.move_job.specs.declared.taking.Taking.TheVariants as taking

-- a thing stands there, of which a look tells this
pub record Stands (s : FileSystem) (path : Route) (meta : Meta) : Type 0 where
  pub there : refusal_of s (Stat path) ≡ None
  pub is : IsMeta s path meta

-- a thing stands at the source
pub record CanMove (s : FileSystem) (pair : Pair) : Type 0 where
  pub source : Meta
  pub stands : Stands s pair.source source

-- A thing that is no folder comes onto a file or a link, this is the question whether it replaces that, and
-- this is decided of it by the answers that stand.
pub record IsDecided (s : FileSystem) (pair : Pair) (replies : Replies) (question : Question)
    (decision : Decision) : Type 0 where
  pub source : Meta
  pub target : Meta
  pub of_source : Stands s pair.source source
  pub of_target : Stands s pair.target target
  pub single : folder_kind source.kind ≡ false
  pub meets : placing_at (Moved source.kind) (Some target.kind) ≡ Asks
  pub asks : question ≡ question_on pair.source source pair.target target
  pub decides : decision_on replies question ≡ decision

-- A thing may be renamed, a folder with all that lies in it: nothing stands at its target, or it is no
-- folder, and what stands there is replaced by an answer that stands.
pub record MayMove (s : FileSystem) (pair : Pair) (replies : Replies) : Type 0 where
  pub can : CanMove s pair
  pub free : (refusal_of s (Stat pair.target) ≡ Some refused.Missing)
      ⊎ ((question : Question) × IsDecided s pair replies question Replace)

-- it is kept, by an answer that stands
abbrev pub IsKept : FileSystem → Pair → Replies → Type 0
IsKept s pair replies = (question : Question) × IsDecided s pair replies question Keep

-- A folder comes onto a folder on the same mount.
pub record MeetsFolder (s : FileSystem) (pair : Pair) : Type 0 where
  pub source : Meta
  pub target : Meta
  pub of_source : Stands s pair.source source
  pub of_target : Stands s pair.target target
  pub meets : placing_at (Moved source.kind) (Some target.kind) ≡ Merges
  pub together : source.mount ≡ target.mount

-- The trouble of a folder that comes onto a folder on another mount: the two aren't merged.
pub record MeetsOtherMount (s : FileSystem) (pair : Pair) (cause : Cause) (path : Option Route) : Type 0 where
  pub source : Meta
  pub target : Meta
  pub of_source : Stands s pair.source source
  pub of_target : Stands s pair.target target
  pub meets : placing_at (Moved source.kind) (Some target.kind) ≡ Merges
  pub apart : source.mount ≡ target.mount → ⊥
  pub cause_is : cause ≡ why.Tree refused.CrossMount
  pub path_is : path ≡ Some pair.target

-- The two are merged: what lies in the source, by these names, is moved into the one at the target, each
-- thing by a move of its own.
pub record IsMerged (s : FileSystem) (pair : Pair) (names : List (List ℕ)) : Type 0 where
  pub meets : MeetsFolder s pair
  pub lists : Lists s pair.source names

-- what comes of it
abbrev pub Takes : FileSystem → Pair → Replies → Taking → Type 0
Takes s pair replies taking.Moves = MayMove s pair replies
Takes s pair replies taking.Keeps = IsKept s pair replies
Takes s pair replies (taking.Asks question) = IsDecided s pair replies question Ask
Takes s pair replies (taking.Merges names) = IsMerged s pair names

-- all that lies in a folder that is merged can be told, with its target, in the order of the names
abbrev pub IsTold : Pair → Taking → Type 0
IsTold pair taking.Moves = ⊤
IsTold pair taking.Keeps = ⊤
IsTold pair (taking.Asks question) = ⊤
IsTold pair (taking.Merges names) = AreShort pair names × IsAscending names

-- The trouble of a folder that comes onto a folder: it can't be listed, or not all its names can be shown;
-- or something in it has too long a path, or would at its target.
pub record MergeStops (s : FileSystem) (pair : Pair) (cause : Cause) (path : Option Route) : Type 0 where
  pub meets : MeetsFolder s pair
  pub trouble : Trouble
  pub cause_is : cause ≡ trouble.cause
  pub path_is : path ≡ trouble.path
  pub stops : FolderStops s pair.source trouble ⊎ ((name : List ℕ) × (names : List (List ℕ))
      × Lists s pair.source names × Among names name × ChildStops pair name trouble)

-- what stands at the target can't be replaced: a folder, or something special, or
-- what comes there is a folder
pub record StandsInTheWay (s : FileSystem) (pair : Pair) (cause : Cause) (path : Option Route) : Type 0 where
  pub kind : Kind
  pub cause_is : cause ≡ why.TargetKind kind
  pub path_is : path ≡ Some pair.target
  pub source : Meta
  pub target : Meta
  pub of_source : Stands s pair.source source
  pub of_target : Stands s pair.target target
  pub meets : placing_at (Moved source.kind) (Some target.kind) ≡ TargetKind kind

-- the trouble of a thing that comes onto something: a folder can't be merged, or stands on another mount,
-- or something stands in the way
abbrev pub OntoStops : FileSystem → Pair → Cause → Option Route → Type 0
OntoStops s pair cause path =
    MergeStops s pair cause path ⊎ (MeetsOtherMount s pair cause path ⊎ StandsInTheWay s pair cause path)

-- the trouble before a thing is renamed: the look at it was refused, or that at its target, what stands
-- there stops it, or there was no memory
abbrev pub LooksStop : FileSystem → Pair → Cause → Option Route → Type 0
LooksStop s pair cause path =
    (StatStops s pair.source cause path ⊎ (CanMove s pair × TargetStops s pair.target cause path))
    ⊎ (OntoStops s pair cause path ⊎ ((cause ≡ why.Memory) × (path ≡ None)))

-- what is decided of what comes onto something
abbrev pub Decides : Pair → Replies → Meta → Meta → Result Taking Trouble → Type 0
Decides pair replies source target (Ok taking.Moves) =
    decision_on replies (question_on pair.source source pair.target target) ≡ Replace
Decides pair replies source target (Ok taking.Keeps) =
    decision_on replies (question_on pair.source source pair.target target) ≡ Keep
Decides pair replies source target (Ok (taking.Asks question)) =
    (question ≡ question_on pair.source source pair.target target) × (decision_on replies question ≡ Ask)
Decides pair replies source target (Ok (taking.Merges names)) = ⊥
Decides pair replies source target (Err trouble) = trouble ≡ out_of_memory_at false

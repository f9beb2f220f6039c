-- What comes of a thing that is to be carried: the looks at it and at its target, and what the answers that
-- stand decide.
use Rattle.std.specs.Prelude.{◌≡◌, ◌⊎◌, ⊤, Bool, true, false, Option, Some, None, Result, Ok, Err}
use Rattle.mc_text.specs.Routes.{Route}
use Rattle.mc_text.specs.declared.kind.Kind.{Kind}
use Rattle.mc_text.specs.declared.kind.Kind.TheVariants as kind
use Rattle.tree_trait.specs.declared.file_system.FileSystem.{FileSystem}
use Rattle.tree_trait.specs.declared.calls.Meta.{Meta}
use Rattle.tree_trait.specs.declared.calls.TreeError.TheVariants as refused
use Rattle.tree_trait.specs.Answers.{IsMeta}
use Rattle.tree_trait.specs.Calls.{Stat}
use Rattle.tree_trait.specs.Refusals.{refusal_of}
use Rattle.job_reports.specs.declared.question.Question.{Question}
use Rattle.job_reports.specs.declared.report.Cause.{Cause}
use Rattle.job_reports.specs.declared.report.Cause.TheVariants as why
use Rattle.job_reports.specs.declared.report.Trouble.{Trouble}
use Rattle.job_reports.specs.Questions.{question_on}
use Rattle.job_reports.specs.Reading.{StatStops, TargetStops}
use Rattle.job_reports.specs.Stops.{IsTroubleWithPath, out_of_memory_at}
use Rattle.job_answers.specs.declared.placing.Origin.TheVariants.{Copied}
use Rattle.job_answers.specs.declared.placing.Placing.{Placing}
use Rattle.job_answers.specs.declared.placing.Placing.TheVariants as placing
use Rattle.job_answers.specs.declared.replies.Decision.{Decision}
use Rattle.job_answers.specs.declared.replies.Decision.TheVariants.{Replace, Keep, Ask}
use Rattle.job_answers.specs.declared.replies.Replies.{Replies}
use Rattle.job_answers.specs.Decisions.{decision_on}
use Rattle.job_answers.specs.Questions.{placing_at}
use Rattle.copy_file.specs.Copying.{Places}
use Rattle.copy_file.specs.Looking.{HasRange, facts_in}
use Rattle.carry_job.specs.declared.taking.Taken.{Taken}
use Rattle.carry_job.specs.declared.taking.Taken.TheVariants as taken

-- a thing stands there, of which a look tells this
pub record Stands (s : FileSystem) (path : Route) (meta : Meta) : Type 0 where
  pub there : refusal_of s (Stat path) ≡ None
  pub is : IsMeta s path meta

-- a file or a link is carried by a copy and a removal
abbrev pub is_carried : Kind → Bool
is_carried kind.File = true
is_carried kind.Link = true
is_carried kind.Folder = false
is_carried kind.Other = false

-- the question whether the source replaces what stands at the target, where looks told these
abbrev pub question_at : Places → Meta → Meta → Question
question_at p source target = question_on p.source source p.target target

-- A file or a link comes onto a file or a link, this is the question whether it replaces that, and this is
-- decided of it by the answers that stand.
pub record IsDecided (s : FileSystem) (p : Places) (replies : Replies) (question : Question)
    (decision : Decision) : Type 0 where
  pub source : Meta
  pub target : Meta
  pub of_source : Stands s p.source source
  pub of_target : Stands s p.target target
  pub meets : placing_at (Copied source.kind) (Some target.kind) ≡ placing.Asks
  pub asks : question ≡ question_at p source target
  pub decides : decision_on replies question ≡ decision

-- nothing stands at the target, or what stands there is replaced by an answer that stands
abbrev pub IsOpen : FileSystem → Places → Replies → Type 0
IsOpen s p replies = (refusal_of s (Stat p.target) ≡ Some refused.Missing)
    ⊎ ((question : Question) × IsDecided s p replies question Replace)

-- a thing of this kind, of which a look tells this, may be copied to the target
pub record MayCopy (s : FileSystem) (p : Places) (replies : Replies) (k : Kind) (source : Meta) : Type 0 where
  pub stands : Stands s p.source source
  pub kind_is : source.kind ≡ k
  pub open_target : IsOpen s p replies

-- what comes of it
abbrev pub Takes : FileSystem → Places → Replies → Taken → Type 0
Takes s p replies (taken.File facts) =
    (source : Meta) × MayCopy s p replies kind.File source × (facts ≡ facts_in source)
Takes s p replies taken.Link = (source : Meta) × MayCopy s p replies kind.Link source
Takes s p replies taken.Keeps = (question : Question) × IsDecided s p replies question Keep
Takes s p replies (taken.Asks question) = IsDecided s p replies question Ask

-- a file has at most 2^63 bytes, and a mode twelve bits
abbrev pub IsSound : Taken → Type 0
IsSound (taken.File facts) = HasRange facts
IsSound taken.Link = ⊤
IsSound taken.Keeps = ⊤
IsSound (taken.Asks question) = ⊤

-- what stands at the target can't be replaced: a folder, or something special
pub record StandsInTheWay (s : FileSystem) (p : Places) (cause : Cause) (path : Option Route) : Type 0 where
  pub at : Kind
  pub cause_is : cause ≡ why.TargetKind at
  pub path_is : path ≡ Some p.target
  pub source : Meta
  pub target : Meta
  pub of_source : Stands s p.source source
  pub of_target : Stands s p.target target
  pub meets : placing_at (Copied source.kind) (Some target.kind) ≡ placing.TargetKind at

-- what stands at the target isn't told as in the way: it could be replaced, or a folder comes onto a folder
abbrev pub IsNotInTheWay : Placing → Type 0
IsNotInTheWay placing.SpecialSource = ⊤
IsNotInTheWay placing.Merges = ⊤
IsNotInTheWay placing.Asks = ⊥
IsNotInTheWay placing.Free = ⊥
IsNotInTheWay placing.Replaces = ⊥
IsNotInTheWay (placing.TargetKind at) = ⊥

-- nothing stands at the target of this thing, or nothing that goes before the trouble of the thing itself
abbrev pub IsApart : FileSystem → Places → Meta → Type 0
IsApart s p source = (refusal_of s (Stat p.target) ≡ Some refused.Missing)
    ⊎ ((target : Meta) × Stands s p.target target
    × IsNotInTheWay (placing_at (Copied source.kind) (Some target.kind)))

-- the source is no file and no link, and nothing that goes before that stands at the target
pub record IsNotCarried (s : FileSystem) (p : Places) (cause : Cause) (path : Option Route) : Type 0 where
  pub cause_is : cause ≡ why.SpecialSource
  pub path_is : path ≡ Some p.source
  pub source : Meta
  pub of_source : Stands s p.source source
  pub other : is_carried source.kind ≡ false
  pub apart : IsApart s p source

-- The trouble before a part is made, in their order: the look at the source was refused, or that at the
-- target; what stands there is in the way; the source is no file and no link. Or there was no memory.
abbrev pub LooksStop : FileSystem → Places → Cause → Option Route → Type 0
LooksStop s p cause path =
    StatStops s p.source cause path
    ⊎ ((source : Meta) × Stands s p.source source × TargetStops s p.target cause path)
    ⊎ StandsInTheWay s p cause path
    ⊎ IsNotCarried s p cause path
    ⊎ ((cause ≡ why.Memory) × (path ≡ None))

-- the trouble of a source that is no file and no link
abbrev pub IsSpecial : Places → Trouble → Type 0
IsSpecial p trouble = IsTroubleWithPath why.SpecialSource p.source trouble

-- a file or a link is taken up, and anything else is a trouble
abbrev pub TakesSingle : Places → Meta → Result Taken Trouble → Type 0
TakesSingle p source (Ok what) = ((source.kind ≡ kind.File) × (what ≡ taken.File (facts_in source)))
    ⊎ ((source.kind ≡ kind.Link) × (what ≡ taken.Link))
TakesSingle p source (Err trouble) = (is_carried source.kind ≡ false) × IsSpecial p trouble

-- by what the answers decide it is taken up, or what stands at the target is kept, or it is asked
abbrev pub TakesDecided : Decision → Question → Places → Meta → Result Taken Trouble → Type 0
TakesDecided Replace question p source result = TakesSingle p source result
TakesDecided Keep question p source result = result ≡ Ok taken.Keeps
TakesDecided Ask question p source result = result ≡ Ok (taken.Asks question)

-- or there is no memory for the question
abbrev pub ByAnswer : Places → Replies → Meta → Meta → Result Taken Trouble → Type 0
ByAnswer p replies source target result =
    (result ≡ Err (out_of_memory_at false))
    ⊎ TakesDecided (decision_on replies (question_at p source target)) (question_at p source target) p source
    result

-- the trouble of what stands at the target
abbrev pub IsInTheWay : Places → Kind → Result Taken Trouble → Type 0
IsInTheWay p at result =
    (t : Trouble) × (result ≡ Err t) × IsTroubleWithPath (why.TargetKind at) p.target t

abbrev pub IsTold : Places → Result Taken Trouble → Type 0
IsTold p result = (t : Trouble) × (result ≡ Err t) × IsSpecial p t

-- what is decided of a thing at whose target something stands
abbrev pub JudgesBy : Placing → Places → Replies → Meta → Meta → Result Taken Trouble → Type 0
JudgesBy placing.Asks p replies source target result = ByAnswer p replies source target result
JudgesBy (placing.TargetKind at) p replies source target result = IsInTheWay p at result
JudgesBy placing.SpecialSource p replies source target result = IsTold p result
JudgesBy placing.Merges p replies source target result = IsTold p result
JudgesBy placing.Free p replies source target result = ⊥
JudgesBy placing.Replaces p replies source target result = ⊥

abbrev pub JudgesOnto : Places → Replies → Meta → Meta → Result Taken Trouble → Type 0
JudgesOnto p replies source target result =
    JudgesBy (placing_at (Copied source.kind) (Some target.kind)) p replies source target result

abbrev pub Judges : Places → Replies → Meta → Option Meta → Result Taken Trouble → Type 0
Judges p replies source (Some target) result = JudgesOnto p replies source target result
Judges p replies source None result = TakesSingle p source result

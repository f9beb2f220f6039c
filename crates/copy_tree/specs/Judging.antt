-- What was seen of a thing that is no folder, and of its target, comes to this.
use Rattle.std.specs.Prelude.{◌≡◌, ◌≢◌, ◌⊎◌, ⊤, Bool, true, false, Option, Some, None, Result, Ok, Err}
use Rattle.mc_text.specs.declared.kind.Kind.{Kind}
use Rattle.mc_text.specs.declared.kind.Kind.TheVariants as kind
use Rattle.tree_trait.specs.declared.calls.Meta.{Meta}
use Rattle.job_answers.specs.declared.replies.Decision.{Decision}
use Rattle.job_answers.specs.declared.replies.Decision.TheVariants.{Ask, Keep, Replace}
use Rattle.job_answers.specs.declared.replies.Replies.{Replies}
use Rattle.job_answers.specs.Decisions.{decision_on}
use Rattle.job_reports.specs.declared.job.Pair.{Pair}
use Rattle.job_reports.specs.declared.report.Cause.TheVariants.{SpecialSource, TargetKind}
use Rattle.job_reports.specs.declared.report.Trouble.{Trouble}
use Rattle.job_reports.specs.declared.question.Question.{Question}
use Rattle.job_reports.specs.Questions.{question_on}
use Rattle.job_reports.specs.Stops.{IsTroubleWithPath, out_of_memory_at}
use Rattle.copy_tree.specs.Replaceable.{IsReplaceable}
use Rattle.copy_file.specs.Looking.{facts_in}
use Rattle.copy_tree.specs.declared.looking.Taken.{Taken}
use Rattle.copy_tree.specs.declared.looking.Taken.TheVariants as taken

abbrev pub IsNoFolder : Kind → Type 0
IsNoFolder kind.File = ⊤
IsNoFolder kind.Link = ⊤
IsNoFolder kind.Other = ⊤
IsNoFolder kind.Folder = ⊥

-- a file or a link is taken up, and anything else is a trouble
abbrev pub TakesSingle : Pair → Meta → Result Taken Trouble → Type 0
TakesSingle pair source (Ok what) = ((source.kind ≡ kind.File) × (what ≡ taken.File (facts_in source)))
    ⊎ ((source.kind ≡ kind.Link) × (what ≡ taken.Link))
TakesSingle pair source (Err t) =
    (IsReplaceable source.kind → ⊥) × IsTroubleWithPath SpecialSource pair.source t

-- it is taken up, or what stands at its target is kept, or it is asked
abbrev pub TakesDecided : Decision → Question → Pair → Meta → Result Taken Trouble → Type 0
TakesDecided Replace question pair source result = TakesSingle pair source result
TakesDecided Keep question pair source result = result ≡ Ok taken.Kept
TakesDecided Ask question pair source result = result ≡ Ok (taken.Asked question)

-- by the answers that stand, or there is no memory for the question
abbrev pub ByAnswer : Replies → Pair → Meta → Meta → Result Taken Trouble → Type 0
ByAnswer replies pair source target result =
    (result ≡ Err (out_of_memory_at false))
    ⊎ (let question : Question = question_on pair.source source pair.target target in
    TakesDecided (decision_on replies question) question pair source result)

-- What stands at the target is in the way; or it is a file or a link, and then a special file can't be
-- copied, and a file or a link that is copied itself is as was answered.
abbrev pub JudgesOnto : Bool → Replies → Pair → Meta → Meta → Result Taken Trouble → Type 0
JudgesOnto top replies pair source target result =
    (((IsReplaceable target.kind → ⊥) ⊎ (IsReplaceable source.kind × (top ≡ false)))
    × ((t : Trouble) × (result ≡ Err t) × IsTroubleWithPath (TargetKind target.kind) pair.target t))
    ⊎ (IsReplaceable target.kind × (IsReplaceable source.kind → ⊥)
    × ((t : Trouble) × (result ≡ Err t) × IsTroubleWithPath SpecialSource pair.source t))
    ⊎ (IsReplaceable target.kind × IsReplaceable source.kind × (top ≡ true)
    × ByAnswer replies pair source target result)

abbrev pub Judges : Bool → Replies → Pair → Meta → Option Meta → Result Taken Trouble → Type 0
Judges top replies pair source (Some target) result = JudgesOnto top replies pair source target result
Judges top replies pair source None result = TakesSingle pair source result

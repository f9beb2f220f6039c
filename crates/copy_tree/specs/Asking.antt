-- What may be replaced: where what is copied itself is a file or a link, and a file or a link stands at its
-- target, it is asked whether the one replaces the other, where no answer that stands decides that.
use Rattle.std.specs.Prelude.{◌≡◌, ◌⊎◌, Bool, true, None, Some}
use Rattle.tree_trait.specs.declared.file_system.FileSystem.{FileSystem}
use Rattle.tree_trait.specs.declared.calls.Meta.{Meta}
use Rattle.tree_trait.specs.declared.calls.TreeError.TheVariants as refused
use Rattle.tree_trait.specs.Answers.{IsMeta}
use Rattle.tree_trait.specs.Calls.{Stat}
use Rattle.tree_trait.specs.Refusals.{refusal_of}
use Rattle.job_reports.specs.declared.job.Pair.{Pair}
use Rattle.job_reports.specs.declared.question.Question.{Question}
use Rattle.job_reports.specs.Questions.{question_on}
use Rattle.job_answers.specs.declared.replies.Decision.{Decision}
use Rattle.job_answers.specs.declared.replies.Decision.TheVariants.{Replace}
use Rattle.job_answers.specs.declared.replies.Replies.{Replies}
use Rattle.job_answers.specs.Decisions.{decision_on}
use Rattle.copy_tree.specs.Replaceable.{IsReplaceable}

-- nothing stands at the target
abbrev pub IsFree : FileSystem → Pair → Type 0
IsFree s pair = refusal_of s (Stat pair.target) ≡ Some refused.Missing

-- a file or a link stands at the source, and one at the target
pub record AreBothSingle (s : FileSystem) (pair : Pair) : Type 0 where
  pub source : Meta
  pub target : Meta
  pub there : refusal_of s (Stat pair.source) ≡ None
  pub of_source : IsMeta s pair.source source
  pub stands : refusal_of s (Stat pair.target) ≡ None
  pub of_target : IsMeta s pair.target target
  pub replacing : IsReplaceable source.kind
  pub replaceable : IsReplaceable target.kind

-- This is the question whether the one replaces the other, and this is decided of it
-- by the answers that stand.
pub record IsDecided (s : FileSystem) (pair : Pair) (replies : Replies) (question : Question)
    (decision : Decision) : Type 0 where
  pub both : AreBothSingle s pair
  pub asks : question ≡ question_on pair.source both.source pair.target both.target
  pub decides : decision_on replies question ≡ decision

-- Nothing stands at the target; or what is copied is the top itself, and what stands there is replaced
-- by an answer that stands.
abbrev pub IsOpen : FileSystem → Bool → Replies → Pair → Type 0
IsOpen s top replies pair =
    IsFree s pair ⊎ ((top ≡ true) × ((question : Question) × IsDecided s pair replies question Replace))

-- What was answered to a job's questions and troubles, and what that decides.
use Rattle.std.specs.Prelude.{◌≡◌, ◌==◌, if◌then◌else◌, Option, Some, None}
use Rattle.std.specs.Int.Signed.{lt_z}
use Rattle.job_reports.specs.declared.answer.Answer.{Answer}
use Rattle.job_reports.specs.declared.answer.Answer.TheVariants.{Yes, No, All, Update, Nothing}
use Rattle.job_reports.specs.declared.answer.Answer.TheVariants.{SizeDiffers, Retry, Skip, SkipAll, Abort}
use Rattle.job_reports.specs.declared.question.Question.{Question}
use Rattle.job_reports.specs.declared.report.Cause.{Cause}
use Rattle.job_answers.specs.declared.replies.ItemAnswer.{ItemAnswer}
use Rattle.job_answers.specs.declared.replies.ItemAnswer.TheVariants as item
use Rattle.job_answers.specs.declared.replies.Rule.{Rule}
use Rattle.job_answers.specs.declared.replies.Rule.TheVariants as rule
use Rattle.job_answers.specs.declared.replies.Decision.{Decision}
use Rattle.job_answers.specs.declared.replies.Decision.TheVariants.{Replace, Keep, Ask}
use Rattle.job_answers.specs.declared.replies.Replies.{Replies}
use Rattle.job_answers.specs.Skipping.{kind_in, no_skips, with_kind}

-- nothing was answered
abbrev pub no_replies : Replies
no_replies = record { item = None; rule = None; skips = no_skips }

-- an answer for all: `Update` replaces what is older than its source, `SizeDiffers` what has another size
abbrev pub rule_decides : Rule → Question → Decision
rule_decides rule.All question = Replace
rule_decides rule.Update question = if lt_z question.target_time question.source_time then Replace else Keep
rule_decides rule.Nothing question = Keep
rule_decides rule.SizeDiffers question =
    if question.source_size == question.target_size then Keep else Replace

-- what is decided by an answer for this item, or by one for all; where neither stands, it is asked
abbrev pub decided_by : Option ItemAnswer → Option Rule → Question → Decision
decided_by (Some item.Yes) rule question = Replace
decided_by (Some item.No) rule question = Keep
decided_by None (Some rule) question = rule_decides rule question
decided_by None None question = Ask

abbrev pub decision_on : Replies → Question → Decision
decision_on replies question = decided_by replies.item replies.rule question

-- what is answered to a question stands for this item, or for all
abbrev pub with_reply : Answer → Replies → Replies
with_reply Yes replies = record replies { item = Some item.Yes }
with_reply No replies = record replies { item = Some item.No }
with_reply All replies = record replies { rule = Some rule.All }
with_reply Update replies = record replies { rule = Some rule.Update }
with_reply Nothing replies = record replies { rule = Some rule.Nothing }
with_reply SizeDiffers replies = record replies { rule = Some rule.SizeDiffers }
with_reply Retry replies = replies
with_reply Skip replies = replies
with_reply SkipAll replies = replies
with_reply Abort replies = replies

-- after `SkipAll` troubles of this kind are passed over, of this item and of all later ones
abbrev pub with_skips : Cause → Replies → Replies
with_skips cause replies = record replies { skips = with_kind (kind_in cause) replies.skips }

-- what was answered to its questions alone
abbrev pub to_questions : Replies → Replies
to_questions replies = record replies { skips = no_skips }

-- What a live job waits with.
use Rattle.std.specs.Prelude.{Option, None}
use Rattle.std.specs.Option.{option_map}
use Rattle.job_reports.specs.declared.question.Question.{Question}
use Rattle.job_reports.specs.declared.report.Trouble.{Trouble}
use Rattle.job_reports.specs.declared.row.JobRow.{JobRow}
use Rattle.job_reports.specs.declared.row.JobState.{JobState}
use Rattle.job_reports.specs.declared.row.JobState.TheVariants.{Ready, Asking, Troubled, Stopped}
use Rattle.job_reports.specs.declared.waits.Waits.{Waits}
use Rattle.job_reports.specs.declared.waits.Waits.TheVariants as waits

-- a job that asks waits with its question, one in trouble with that, and no other waits for an answer
abbrev pub waits_at : JobState → Option Question → Option Trouble → Option Waits
waits_at Asking asked trouble = option_map waits.Question asked
waits_at Troubled asked trouble = option_map waits.Trouble trouble
waits_at Ready asked trouble = None
waits_at Stopped asked trouble = None

abbrev pub waits_of : JobRow → Option Waits
waits_of row = waits_at row.state row.asked row.trouble

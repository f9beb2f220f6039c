-- What the live jobs allow. Today one job is live at a time.
use Rattle.std.specs.Prelude.{Bool, true, false, List, [], ◌∷◌, Option, is_ok}
use Rattle.std.specs.Option.{option_map}
use Rattle.job_reports.specs.declared.answer.Answer.{Answer}
use Rattle.job_reports.specs.declared.row.JobRow.{JobRow}
use Rattle.job_reports.specs.declared.waits.Waits.{Waits}
use Rattle.job_reports.specs.declared.waits.Waits.TheVariants as waits
use Rattle.job_reports.specs.Waits.{waits_of}
use Rattle.job_answers.specs.declared.answer.Waiting.{Waiting}
use Rattle.job_answers.specs.declared.answer.Waiting.TheVariants as waiting
use Rattle.job_answers.specs.Answers.{answer_result, waiting_of}

-- no job is live
abbrev pub none_live : List JobRow → Bool
none_live [] = true
none_live (row ∷ rows) = false

-- what decides of an answer to a question, and to a trouble
abbrev pub waiting_with : Waits → Waiting
waiting_with (waits.Question question) = waiting.Question
waiting_with (waits.Trouble trouble) = waiting_of trouble

abbrev pub row_waiting : JobRow → Option Waiting
row_waiting row = option_map waiting_with (waits_of row)

-- what a job waits with can be answered so
abbrev pub takes_answer : JobRow → Answer → Bool
takes_answer row answer = is_ok (answer_result (row_waiting row) answer)

-- the live job can be answered so
abbrev pub can_answer : List JobRow → Answer → Bool
can_answer [] answer = false
can_answer (row ∷ rows) answer = takes_answer row answer

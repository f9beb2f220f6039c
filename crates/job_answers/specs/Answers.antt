-- What may be answered to a question, to a trouble and at a barrier, and what the job does then.
use Rattle.std.specs.Prelude.{◌≡◌, Bool, true, false, if◌then◌else◌, Option, Some, None, Result, Ok, Err}
use Rattle.job_reports.specs.declared.answer.AnswerError.{AnswerError}
use Rattle.job_reports.specs.declared.answer.AnswerError.TheVariants.{NotAsked, WrongAnswer}
use Rattle.job_reports.specs.declared.report.Cause.{Cause}
use Rattle.job_reports.specs.declared.report.Trouble.{Trouble}
use Rattle.job_reports.specs.declared.answer.Answer.{Answer}
use Rattle.job_reports.specs.declared.answer.Answer.TheVariants.{Yes, No, All, Update, Nothing}
use Rattle.job_reports.specs.declared.answer.Answer.TheVariants.{SizeDiffers, Retry, Skip, SkipAll, Abort}
use Rattle.job_answers.specs.declared.answer.Waiting.{Waiting}
use Rattle.job_answers.specs.declared.answer.Waiting.TheVariants as waits
use Rattle.job_answers.specs.declared.answer.Then.{Then}
use Rattle.job_answers.specs.declared.answer.Then.TheVariants.{Decides, Retries, Skips, Ends}

-- what a job in trouble waits with
abbrev pub waiting_of : Trouble → Waiting
waiting_of trouble = if trouble.barrier then waits.Barrier else waits.Trouble trouble.cause

-- to a question: for this item, for all, or the end of the job
abbrev pub to_question : Answer → Result Then AnswerError
to_question Yes = Ok Decides
to_question No = Ok Decides
to_question All = Ok Decides
to_question Update = Ok Decides
to_question Nothing = Ok Decides
to_question SizeDiffers = Ok Decides
to_question Abort = Ok Ends
to_question Retry = Err WrongAnswer
to_question Skip = Err WrongAnswer
to_question SkipAll = Err WrongAnswer

-- to a trouble
abbrev pub to_trouble : Answer → Result Then AnswerError
to_trouble Retry = Ok Retries
to_trouble Skip = Ok Skips
to_trouble SkipAll = Ok Skips
to_trouble Abort = Ok Ends
to_trouble Yes = Err WrongAnswer
to_trouble No = Err WrongAnswer
to_trouble All = Err WrongAnswer
to_trouble Update = Err WrongAnswer
to_trouble Nothing = Err WrongAnswer
to_trouble SizeDiffers = Err WrongAnswer

-- at a barrier nothing can be skipped
abbrev pub to_barrier : Answer → Result Then AnswerError
to_barrier Retry = Ok Retries
to_barrier Abort = Ok Ends
to_barrier Skip = Err WrongAnswer
to_barrier SkipAll = Err WrongAnswer
to_barrier Yes = Err WrongAnswer
to_barrier No = Err WrongAnswer
to_barrier All = Err WrongAnswer
to_barrier Update = Err WrongAnswer
to_barrier Nothing = Err WrongAnswer
to_barrier SizeDiffers = Err WrongAnswer

-- what a job does after an answer, by what it waits with
abbrev pub answer_result : Option Waiting → Answer → Result Then AnswerError
answer_result None answer = Err NotAsked
answer_result (Some waits.Question) answer = to_question answer
answer_result (Some (waits.Trouble cause)) answer = to_trouble answer
answer_result (Some waits.Barrier) answer = to_barrier answer

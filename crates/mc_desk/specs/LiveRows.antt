-- The rows of the live jobs, as the screen sees them: each is what its run and its newest report say.
-- Histories stand newest first here.
use Rattle.std.specs.Prelude.{false, if◌then◌else◌, List, [], ◌∷◌, Option, Some, None}
use Rattle.job_reports.specs.declared.question.Question.{Question}
use Rattle.job_reports.specs.declared.report.Trouble.{Trouble}
use Rattle.job_reports.specs.declared.row.JobRow.{JobRow}
use Rattle.job_reports.specs.declared.row.JobState.{JobState}
use Rattle.job_reports.specs.declared.row.JobState.TheVariants.{Ready, Asking, Troubled}
use Rattle.job_reports.specs.declared.waits.Waits.{Waits}
use Rattle.job_reports.specs.declared.waits.Waits.TheVariants as waits
use Rattle.session_entries.specs.declared.history.Entry.{Entry}
use Rattle.copy_move.specs.Jobs.{Running, kind_of, path_of, waits_on}
use Rattle.laws_sessions.specs.ToldJob.{live_job}
use Rattle.session_log.specs.Told.{waits_told}

-- a job that waits for an answer waits with what was told; each other has a next step
abbrev pub waits_in : Running → Option Waits → Option Waits
waits_in job told = if waits_on job.course then told else None

-- what a job is at that waits with this, its question and its trouble
abbrev pub state_with : Option Waits → JobState
state_with None = Ready
state_with (Some (waits.Question question)) = Asking
state_with (Some (waits.Trouble trouble)) = Troubled

abbrev pub question_in : Option Waits → Option Question
question_in None = None
question_in (Some (waits.Question question)) = Some question
question_in (Some (waits.Trouble trouble)) = None

abbrev pub trouble_in : Option Waits → Option Trouble
trouble_in None = None
trouble_in (Some (waits.Question question)) = None
trouble_in (Some (waits.Trouble trouble)) = Some trouble

-- a live job's row, where this was told
abbrev pub row_of : Running → Option Waits → JobRow
row_of job told = record {
  job = job.id;
  state = state_with (waits_in job told);
  kind = kind_of job.work;
  path = path_of job.work;
  background = false;
  asked = question_in (waits_in job told);
  trouble = trouble_in (waits_in job told);
}

abbrev pub rows_of : Option Running → Option Waits → List JobRow
rows_of None told = []
rows_of (Some job) told = row_of job told ∷ []

-- the rows that a history tells
abbrev pub rows_told : List Entry → List JobRow
rows_told newest = rows_of (live_job newest) (waits_told newest)

-- What a key makes of the list of the live jobs, as it stands over the panels.
use Rattle.std.specs.Prelude.{List}
use Rattle.key_screen.specs.declared.keys.Key.{Key}
use Rattle.job_reports.specs.declared.row.JobRow.{JobRow}
use Rattle.ui_job_list.specs.declared.act.JobsAct.{JobsAct}
use Rattle.ui_job_list.specs.declared.act.JobsAct.TheVariants as jobs
use Rattle.ui_job_list.specs.declared.list.JobList.{JobList}
use Rattle.ui_job_list.specs.JobLists.{act_by, list_by}
use Rattle.ui_job_boxes.specs.JobBoxes.{AnswerBox}
use Rattle.mc_ui.specs.Boxes.{Box, NoBox, OneJobBox, JobsBox}

-- what stands there once a key came to this: the list, in its place the box of a question
-- or a trouble, or nothing
abbrev pub jobs_over : JobsAct → JobList → Box
jobs_over jobs.Stays list = JobsBox list
jobs_over (jobs.Opens waits) list = OneJobBox (AnswerBox waits)
jobs_over jobs.Leaves list = NoBox

-- what stands there after a key, while these jobs are live
abbrev pub left_by_jobs : List JobRow → JobList → Key → Box
left_by_jobs rows list key = jobs_over (act_by rows list key) (list_by rows list key)

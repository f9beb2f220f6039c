-- The list of the live jobs: where its cursor stands, what a key comes to, and what it shows. Own,
-- after the listboxes of mc(1).
use Rattle.std.specs.Prelude.{ℕ, ◌-◌, min, List, length, map, take, drop}
use Rattle.std.specs.Prelude.{Option, Some, None, slice_get, codes}
use Rattle.std.specs.Option.{option_map_or}
use Rattle.job_reports.specs.declared.row.JobRow.{JobRow}
use Rattle.job_reports.specs.declared.waits.Waits.{Waits}
use Rattle.job_reports.specs.Waits.{waits_of}
use Rattle.key_screen.specs.declared.keys.Base.{Base}
use Rattle.key_screen.specs.declared.keys.Key.{Key}
use Rattle.key_screen.specs.Grids.{CellGrid}
use Rattle.mc_dialogs.specs.declared.frame.Line.{Line}
use Rattle.mc_dialogs.specs.Boxes.{with_box}
use Rattle.mc_dialogs.specs.ListKeys.{moved_to, scrolled_to, titled_rows}
use Rattle.ui_job_list.specs.declared.act.JobsAct.{JobsAct}
use Rattle.ui_job_list.specs.declared.act.JobsAct.TheVariants.{Stays, Opens, Leaves}
use Rattle.ui_job_list.specs.declared.command.JobsCommand.{JobsCommand}
use Rattle.ui_job_list.specs.declared.command.JobsCommand.TheVariants.{Move, Open, Leave, Nothing}
use Rattle.ui_job_list.specs.declared.list.JobList.{JobList}
use Rattle.ui_job_list.specs.JobKeys.{jobs_command}
use Rattle.ui_job_list.specs.JobLines.{job_line}

-- the list as it opens on a screen of so many lines: the first job is current
abbrev pub opened_list : ℕ → JobList
opened_list lines = record { lines = lines; current = 0; first = 0 }

-- how many rows it shows at most
abbrev pub page_of : JobList → ℕ
page_of l = l.lines - 6

-- the list over so many rows: neither the current one nor the first one shown lies behind the last
abbrev pub cut_to : ℕ → JobList → JobList
cut_to count l =
    record { lines = l.lines; current = min l.current (count - 1); first = min l.first (count - 1) }

-- KEYS

-- another job is current, of so many
abbrev pub moved_by : ℕ → Base → JobList → JobList
moved_by count base l =
    let cut = cut_to count l in
    let current = moved_to count (page_of l) cut.current base in
    record { lines = l.lines; current = current; first = scrolled_to (page_of l) cut.first current }

-- what a job waits with is opened; where it waits with nothing the list is shut
abbrev pub waits_opened : Option Waits → JobsAct
waits_opened None = Leaves
waits_opened (Some waits) = Opens waits

-- Enter on a row
abbrev pub row_opened : JobRow → JobsAct
row_opened row = waits_opened (waits_of row)

-- what Enter comes to while these jobs are live; without one the list is shut
abbrev pub enter_act : List JobRow → JobList → JobsAct
enter_act rows l = option_map_or row_opened (slice_get rows (cut_to (length rows) l).current) Leaves

-- what a command comes to, and how it leaves the list
abbrev pub act_of : JobsCommand → List JobRow → JobList → JobsAct
act_of (Move base) rows l = Stays
act_of Open rows l = enter_act rows l
act_of Leave rows l = Leaves
act_of Nothing rows l = Stays

abbrev pub list_of : JobsCommand → List JobRow → JobList → JobList
list_of (Move base) rows l = moved_by (length rows) base l
list_of Open rows l = l
list_of Leave rows l = l
list_of Nothing rows l = l

-- what a key comes to while these jobs are live, and how it leaves the list
abbrev pub act_by : List JobRow → JobList → Key → JobsAct
act_by rows l key = act_of (jobs_command key) rows l

abbrev pub list_by : List JobRow → JobList → Key → JobList
list_by rows l key = list_of (jobs_command key) rows l

-- WHAT IT SHOWS

-- the lines over these rows from the first one shown on: the title, and so many of them,
-- the current one in reverse
abbrev pub lines_from : List JobRow → JobList → List Line
lines_from rows l =
    titled_rows (codes "Jobs") l.first l.current (map job_line (take (page_of l) (drop l.first rows)))

-- its lines while these jobs are live
abbrev pub jobs_lines : List JobRow → JobList → List Line
jobs_lines rows l = lines_from rows (cut_to (length rows) l)

-- over a screen
abbrev pub with_jobs : List JobRow → JobList → CellGrid → CellGrid
with_jobs rows l grid = with_box grid (jobs_lines rows l)

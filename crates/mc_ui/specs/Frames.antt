-- The frame of a screen: its panels with the line of jobs and the key bar, the box over them, and a message
-- over these; or the page of a file that is viewed.
use Rattle.std.specs.Prelude.{◌+◌, List, [], ◌∷◌, Option, Some, None}
use Rattle.job_reports.specs.declared.row.JobRow.{JobRow}
use Rattle.job_reports.specs.declared.row.JobState.{JobState}
use Rattle.job_reports.specs.declared.row.JobState.TheVariants as state
use Rattle.key_screen.specs.Grids.{CellGrid}
use Rattle.screen_frame.specs.declared.jobs_line.JobCounts.{JobCounts}
use Rattle.screen_frame.specs.Frames.{panels_frame}
use Rattle.mc_dialogs.specs.Boxes.{columns_inside, with_box}
use Rattle.mc_dialogs.specs.QuestionKeys.{plain_lines}
use Rattle.ui_words.specs.declared.message.Message.{Message}
use Rattle.ui_words.specs.BoxLines.{message_lines}
use Rattle.ui_find.specs.FindFrames.{with_find}
use Rattle.ui_job_boxes.specs.Paintings.{with_job_box}
use Rattle.ui_job_list.specs.JobLists.{with_jobs}
use Rattle.panel_boxes.specs.Paintings.{with_panel_box}
use Rattle.panel_pair.specs.Frames.{panes_of}
use Rattle.ui_viewer.specs.ViewerFrames.{frame_of as viewer_frame}
use Rattle.mc_ui.specs.declared.viewing.ViewedFile.{ViewedFile}
use Rattle.mc_ui.specs.Boxes.{Box, NoBox, OneJobBox, PanelsBox, FindBox, JobsBox}
use Rattle.mc_ui.specs.Screens.{Screen, frame_size}

-- one job more in this state
abbrev pub counts_with_job : JobState → JobCounts → JobCounts
counts_with_job state.Ready c = record c { ready = c.ready + 1 }
counts_with_job state.Asking c = record c { asking = c.asking + 1 }
counts_with_job state.Troubled c = record c { troubled = c.troubled + 1 }
counts_with_job state.Stopped c = record c { stopped = c.stopped + 1 }

-- how many jobs are in each state
abbrev pub counts_of : List JobRow → JobCounts
counts_of [] = record { ready = 0; asking = 0; troubled = 0; stopped = 0 }
counts_of (row ∷ rows) = counts_with_job row.state (counts_of rows)

-- the box over what lies below, while these jobs are live
abbrev pub with_over : Box → List JobRow → CellGrid → CellGrid
with_over NoBox rows grid = grid
with_over (OneJobBox asks) rows grid = with_job_box asks grid
with_over (PanelsBox asks) rows grid = with_panel_box asks grid
with_over (FindBox find) rows grid = with_find find grid
with_over (JobsBox list) rows grid = with_jobs rows list grid

-- and the message over all
abbrev pub with_message : Option Message → CellGrid → CellGrid
with_message None grid = grid
with_message (Some message) grid =
    with_box grid (plain_lines (message_lines (columns_inside grid.columns) message))

-- the frame of the panels, and of what stands over them, while these jobs are live
unfoldable pub frame_below : Screen → List JobRow → CellGrid
frame_below s rows = with_message s.message (with_over s.over rows
    (panels_frame s.lines s.columns (panes_of (frame_size s) s.panels) (counts_of rows)))

-- a file that is viewed covers them
abbrev pub frame_by : Option ViewedFile → Screen → List JobRow → CellGrid
frame_by None s rows = frame_below s rows
frame_by (Some viewed) s rows = viewer_frame s.lines s.columns viewed.mode

-- the frame of a screen while these jobs are live
unfoldable pub frame_of : Screen → List JobRow → CellGrid
frame_of s rows = frame_by s.viewing s rows

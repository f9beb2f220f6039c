-- How the boxes are painted over a screen.
use Rattle.key_screen.specs.Grids.{CellGrid}
use Rattle.mc_dialogs.specs.Boxes.{columns_inside, with_box}
use Rattle.mc_dialogs.specs.InputField.{with_input}
use Rattle.mc_dialogs.specs.ModeKeys.{mode_lines}
use Rattle.mc_dialogs.specs.QuestionKeys.{plain_lines}
use Rattle.ui_words.specs.BoxLines.{delete_lines, waits_lines}
use Rattle.ui_job_boxes.specs.JobBoxes.{JobBoxState, DeleteBox, MaskBox, TargetBox, FolderBox}
use Rattle.ui_job_boxes.specs.JobBoxes.{LinkTextBox, LinkNameBox, NewModeBox, AnswerBox}

abbrev pub with_job_box : JobBoxState → CellGrid → CellGrid
with_job_box (DeleteBox paths) grid =
    with_box grid (plain_lines (delete_lines (columns_inside grid.columns) paths))
with_job_box (MaskBox how paths typed) grid = with_input grid typed
with_job_box (TargetBox how paths mask typed) grid = with_input grid typed
with_job_box (FolderBox typed) grid = with_input grid typed
with_job_box (LinkTextBox typed) grid = with_input grid typed
with_job_box (LinkNameBox text typed) grid = with_input grid typed
with_job_box (NewModeBox paths asked) grid = with_box grid (mode_lines asked)
with_job_box (AnswerBox waits) grid =
    with_box grid (plain_lines (waits_lines (columns_inside grid.columns) waits))

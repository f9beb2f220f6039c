-- A box that is painted over a screen leaves its size as it was.
use Rattle.std.proofs.Common.{◌≡◌, ℕ, List, refl, Option, Some, None}
use Rattle.key_screen.specs.Grids.{CellGrid}
use Rattle.job_reports.specs.declared.row.JobRow.{JobRow}
use Rattle.mc_dialogs.specs.Boxes.{columns_inside}
use Rattle.mc_dialogs.specs.ListKeys.{list_lines}
use Rattle.mc_dialogs.specs.ModeKeys.{mode_lines}
use Rattle.mc_dialogs.specs.QuestionKeys.{plain_lines}
use Rattle.ui_words.specs.BoxLines.{delete_lines, waits_lines}
use Rattle.ui_job_boxes.specs.JobBoxes.{JobBoxState, DeleteBox, MaskBox, TargetBox, FolderBox, LinkTextBox, LinkNameBox, NewModeBox, AnswerBox}
use Rattle.ui_job_boxes.specs.Paintings.{with_job_box}
use Rattle.ui_job_list.specs.JobLists.{jobs_lines}
use Rattle.ui_viewer.proofs.BoxSizes.{box_columns_same, box_lines_same, input_columns_same, input_lines_same}
use Rattle.ui_find.specs.declared.asking.Asking.{Asking}
use Rattle.ui_find.specs.Listings.{ListingState}
use Rattle.ui_find.specs.FindScreens.{FindScreen, page_of}
use Rattle.ui_find.specs.FindFrames.{found_lines, painted_search, with_find}
use Rattle.panel_boxes.specs.declared.panel_box.PanelBox.{PanelBox}
use Rattle.panel_boxes.specs.declared.panel_box.PanelBox.TheVariants.{Pending, Typed, Options}
use Rattle.panel_boxes.specs.Paintings.{with_panel_box}
use Rattle.mc_ui.specs.Boxes.{Box, NoBox, OneJobBox, PanelsBox, FindBox, JobsBox}
use Rattle.mc_ui.specs.Frames.{with_over}

panel_lines_same : (asks : PanelBox) (grid : CellGrid) → (with_panel_box asks grid).lines ≡ grid.lines
panel_lines_same Pending grid = refl
panel_lines_same (Typed asked typed) grid = input_lines_same grid typed
panel_lines_same (Options list) grid = box_lines_same grid (list_lines list)

panel_columns_same : (asks : PanelBox) (grid : CellGrid) → (with_panel_box asks grid).columns ≡ grid.columns
panel_columns_same Pending grid = refl
panel_columns_same (Typed asked typed) grid = input_columns_same grid typed
panel_columns_same (Options list) grid = box_columns_same grid (list_lines list)

-- a box of a job
job_lines_same : (asks : JobBoxState) (grid : CellGrid) → (with_job_box asks grid).lines ≡ grid.lines
job_lines_same (DeleteBox paths) grid = box_lines_same grid (plain_lines (delete_lines (columns_inside grid.columns) paths))
job_lines_same (MaskBox how paths typed) grid = input_lines_same grid typed
job_lines_same (TargetBox how paths mask typed) grid = input_lines_same grid typed
job_lines_same (FolderBox typed) grid = input_lines_same grid typed
job_lines_same (LinkTextBox typed) grid = input_lines_same grid typed
job_lines_same (LinkNameBox text typed) grid = input_lines_same grid typed
job_lines_same (NewModeBox paths asked) grid = box_lines_same grid (mode_lines asked)
job_lines_same (AnswerBox waits) grid = box_lines_same grid (plain_lines (waits_lines (columns_inside grid.columns) waits))

job_columns_same : (asks : JobBoxState) (grid : CellGrid) → (with_job_box asks grid).columns ≡ grid.columns
job_columns_same (DeleteBox paths) grid = box_columns_same grid (plain_lines (delete_lines (columns_inside grid.columns) paths))
job_columns_same (MaskBox how paths typed) grid = input_columns_same grid typed
job_columns_same (TargetBox how paths mask typed) grid = input_columns_same grid typed
job_columns_same (FolderBox typed) grid = input_columns_same grid typed
job_columns_same (LinkTextBox typed) grid = input_columns_same grid typed
job_columns_same (LinkNameBox text typed) grid = input_columns_same grid typed
job_columns_same (NewModeBox paths asked) grid = box_columns_same grid (mode_lines asked)
job_columns_same (AnswerBox waits) grid = box_columns_same grid (plain_lines (waits_lines (columns_inside grid.columns) waits))

-- the line that asks what is sought, or the list of what was found
painted_lines_same : (asking : Option Asking) (page : ℕ) (listing : ListingState) (grid : CellGrid) → (painted_search asking page listing grid).lines ≡ grid.lines
painted_lines_same None page listing grid = box_lines_same grid (found_lines (columns_inside grid.columns) page listing)
painted_lines_same (Some asking) page listing grid = input_lines_same grid asking.line

painted_columns_same : (asking : Option Asking) (page : ℕ) (listing : ListingState) (grid : CellGrid) → (painted_search asking page listing grid).columns ≡ grid.columns
painted_columns_same None page listing grid = box_columns_same grid (found_lines (columns_inside grid.columns) page listing)
painted_columns_same (Some asking) page listing grid = input_columns_same grid asking.line

find_lines_same : (find : FindScreen) (grid : CellGrid) → (with_find find grid).lines ≡ grid.lines
find_lines_same find grid = painted_lines_same find.asking (page_of find.lines) find.listing grid

find_columns_same : (find : FindScreen) (grid : CellGrid) → (with_find find grid).columns ≡ grid.columns
find_columns_same find grid = painted_columns_same find.asking (page_of find.lines) find.listing grid

-- any box over the panels
pub over_lines_same : (over : Box) (rows : List JobRow) (grid : CellGrid) → (with_over over rows grid).lines ≡ grid.lines
over_lines_same NoBox rows grid = refl
over_lines_same (OneJobBox asks) rows grid = job_lines_same asks grid
over_lines_same (PanelsBox asks) rows grid = panel_lines_same asks grid
over_lines_same (FindBox find) rows grid = find_lines_same find grid
over_lines_same (JobsBox list) rows grid = box_lines_same grid (jobs_lines rows list)

pub over_columns_same : (over : Box) (rows : List JobRow) (grid : CellGrid) → (with_over over rows grid).columns ≡ grid.columns
over_columns_same NoBox rows grid = refl
over_columns_same (OneJobBox asks) rows grid = job_columns_same asks grid
over_columns_same (PanelsBox asks) rows grid = panel_columns_same asks grid
over_columns_same (FindBox find) rows grid = find_columns_same find grid
over_columns_same (JobsBox list) rows grid = box_columns_same grid (jobs_lines rows list)

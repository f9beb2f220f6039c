-- The frame while a file is viewed: its page, the line that asks over it, and a message over all.
use Rattle.std.specs.Prelude.{ℕ, List, [], ◌∷◌, map, Option, Some, None, codes}
use Rattle.key_screen.specs.declared.cells.Attr.TheVariants.{Plain}
use Rattle.key_screen.specs.Grids.{CellGrid}
use Rattle.mc_dialogs.specs.Boxes.{columns_inside, with_box}
use Rattle.mc_dialogs.specs.InputField.{with_input}
use Rattle.mc_dialogs.specs.QuestionKeys.{plain_lines}
use Rattle.screen_frame.specs.declared.key_bar.KeyBar.TheVariants.{Viewer}
use Rattle.screen_frame.specs.declared.page.Page.{Page}
use Rattle.screen_frame.specs.declared.page.Run.{Run}
use Rattle.screen_frame.specs.Pages.{page_frame}
use Rattle.mc_viewer.specs.declared.error.ViewError.{ViewError}
use Rattle.mc_viewer.specs.declared.error.ViewError.TheVariants.{Tree, NotFound, BadPattern}
use Rattle.mc_viewer.specs.declared.error.ViewError.TheVariants.{LineTooLong, Memory}
use Rattle.ui_words.specs.Causes.{cause_words}
use Rattle.ui_words.specs.PathLines.{cut_in_front}
use Rattle.ui_viewer.specs.declared.asking.Asking.{Asking}
use Rattle.ui_viewer.specs.ViewerScreens.{ViewerScreen}

-- the lines of a message, of so many columns: what is said, and of a refusal of the tree the file that it is
-- said of
abbrev pub message_lines : ℕ → List ℕ → ViewError → List (List ℕ)
message_lines columns title (Tree e) = cause_words e ∷ cut_in_front columns title ∷ []
message_lines columns title NotFound = codes "not found" ∷ []
message_lines columns title BadPattern = codes "bad pattern" ∷ []
message_lines columns title (LineTooLong line) = codes "line too long" ∷ []
message_lines columns title Memory = codes "out of memory" ∷ []

-- a row of the page: its text, from the first column on
abbrev pub page_row : List ℕ → List Run
page_row text = record { column = 1; text = text; look = Plain } ∷ []

-- a page with this title and these rows, and the keys of the viewer
abbrev pub page_with : List ℕ → List (List ℕ) → Page
page_with title rows = record { title = title; rows = map page_row rows; bar = Viewer }

-- the line that asks, over the page
abbrev pub with_asking : Option Asking → CellGrid → CellGrid
with_asking None grid = grid
with_asking (Some asking) grid = with_input grid asking.line

-- and the message over all
abbrev pub with_message : List ℕ → Option ViewError → CellGrid → CellGrid
with_message title None grid = grid
with_message title (Some why) grid =
    with_box grid (plain_lines (message_lines (columns_inside grid.columns) title why))

-- the frame of a screen of this size: the page has the rows as they were read last
unfoldable pub frame_of : ℕ → ℕ → ViewerScreen → CellGrid
frame_of lines columns s = with_message s.title s.refused
    (with_asking s.asking (page_frame lines columns (page_with s.title s.rows)))

-- The frame while a file is edited: its page, the block in bold and the point in reverse on it, what asks
-- over it, and a message over all. Own.
use Rattle.std.specs.Prelude.{ℕ, ◌+◌, ◌-◌, true, ◌&&◌, nat_le, nat_lt, max, if◌then◌else◌}
use Rattle.std.specs.Prelude.{List, [], ◌∷◌, ◌++◌, map, get_or, Option, Some, None, codes}
use Rattle.unicode_segmentation.specs.Grapheme.{graphemes}
use Rattle.mc_text.specs.Fit.{cluster_columns}
use Rattle.key_screen.specs.declared.cells.Attr.TheVariants.{Bold, Plain, Reverse}
use Rattle.key_screen.specs.Grids.{CellGrid, written_at}
use Rattle.mc_dialogs.specs.Boxes.{with_box}
use Rattle.mc_dialogs.specs.InputField.{with_input}
use Rattle.mc_dialogs.specs.QuestionKeys.{plain_lines}
use Rattle.mc_edit.specs.declared.error.EditError.{EditError}
use Rattle.mc_edit.specs.declared.error.EditError.TheVariants.{TooLarge, NoBlock, NotFound}
use Rattle.mc_edit.specs.declared.error.EditError.TheVariants.{NothingToUndo, NothingToRedo, Memory}
use Rattle.mc_edit.specs.declared.marked.MarkedColumns.{MarkedColumns}
use Rattle.mc_edit.specs.Edits.{EditedText}
use Rattle.mc_edit.specs.Marked.{marked_columns}
use Rattle.mc_edit.specs.Pages.{lines_above, page_column, page_rows}
use Rattle.screen_frame.specs.declared.key_bar.KeyBar.TheVariants.{Editor}
use Rattle.screen_frame.specs.declared.page.Page.{Page}
use Rattle.screen_frame.specs.declared.page.Run.{Run}
use Rattle.screen_frame.specs.Pages.{page_frame}
use Rattle.ui_editor.specs.declared.asking.Asking.{Asking}
use Rattle.ui_editor.specs.declared.asking.Asking.TheVariants.{Text, Leaving}
use Rattle.ui_editor.specs.EditorScreens.{EditorScreen}
use Rattle.ui_editor.specs.Questions.{leaving_lines}

-- what a message says of a refusal
abbrev pub refusal_words : EditError → List ℕ
refusal_words (TooLarge size) = codes "too large"
refusal_words NoBlock = codes "no block"
refusal_words NotFound = codes "not found"
refusal_words NothingToUndo = codes "nothing to undo"
refusal_words NothingToRedo = codes "nothing to redo"
refusal_words Memory = codes "out of memory"

-- THE PAGE

-- a row of the page: its text, from the first column on
abbrev pub page_row : List ℕ → List Run
page_row text = record { column = 1; text = text; look = Plain } ∷ []

-- a page with this title and these rows, and the keys of the editor
abbrev pub page_with : List ℕ → List (List ℕ) → Page
page_with title rows = record { title = title; rows = map page_row rows; bar = Editor }

-- those of some clusters that begin in the columns from one up to another; the first one begins in `column`
abbrev pub clusters_within : ℕ → ℕ → ℕ → List (List ℕ) → List ℕ
clusters_within from to column [] = []
clusters_within from to column (cluster ∷ rest) =
    (if nat_le from column && nat_lt column to then cluster else [])
    ++ clusters_within from to (column + cluster_columns cluster) rest

-- what a row shows in these columns
abbrev pub shown_within : ℕ → ℕ → List ℕ → List ℕ
shown_within from to row = clusters_within from to 0 (graphemes true row)

-- What the block has of a row in bold. Rows are counted from 0, and stand from the
-- second line of the screen on.
abbrev pub with_marked : ℕ → List ℕ → MarkedColumns → CellGrid → CellGrid
with_marked row text marked grid =
    written_at grid (row + 2) (marked.from + 1) (shown_within marked.from marked.to text) Bold

-- the same in each row, from one on
abbrev pub with_block : ℕ → List (List ℕ) → List MarkedColumns → CellGrid → CellGrid
with_block row rows [] grid = grid
with_block row [] (marked ∷ more) grid = grid
with_block row (text ∷ rows) (marked ∷ more) grid =
    with_block (row + 1) rows more (with_marked row text marked grid)

-- a blank where there is nothing
abbrev pub or_blank : List ℕ → List ℕ
or_blank [] = 32 ∷ []
or_blank (byte ∷ rest) = byte ∷ rest

-- the cell at the point, in reverse
abbrev pub with_point : ℕ → ℕ → List ℕ → CellGrid → CellGrid
with_point row column text grid =
    written_at grid (row + 2) (column + 1) (or_blank (shown_within column (column + 1) text)) Reverse

-- the text on a screen of so many lines and columns, which has at least a row of it and a column
abbrev pub with_text : ℕ → ℕ → List (List ℕ) → EditedText → CellGrid → CellGrid
with_text lines columns rows edited grid =
    let row = lines_above edited.text.bytes (lines - 3) edited.text.point in
    with_point row (page_column columns edited.text) (get_or rows row [])
    (with_block 0 rows (marked_columns lines columns edited) grid)

-- a frame that shows the text alone
abbrev pub text_frame : ℕ → ℕ → List ℕ → EditedText → CellGrid
text_frame lines columns title edited =
    let rows = page_rows (max lines 3) (max columns 1) edited.text in
    with_text (max lines 3) (max columns 1) rows edited (page_frame lines columns (page_with title rows))

-- OVER THE PAGE

-- what asks, over the page
abbrev pub with_asking : Option Asking → CellGrid → CellGrid
with_asking None grid = grid
with_asking (Some (Text asked)) grid = with_input grid asked.line
with_asking (Some Leaving) grid = with_box grid (plain_lines leaving_lines)

-- and the message over all
abbrev pub with_message : Option EditError → CellGrid → CellGrid
with_message None grid = grid
with_message (Some why) grid = with_box grid (plain_lines (refusal_words why ∷ []))

-- the frame of a screen of this size
unfoldable pub frame_of : ℕ → ℕ → EditorScreen → CellGrid
frame_of lines columns s =
    with_message s.refused (with_asking s.asking (text_frame lines columns s.title s.edited))

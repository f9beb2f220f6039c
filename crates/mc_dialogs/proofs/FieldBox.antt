-- the field written over its box is the painted input line
use Rattle.std.proofs.Common.{◌≡◌, ℕ, ◌+◌, List, refl}
use Rattle.key_screen.specs.Grids.{CellGrid}
use Rattle.mc_dialogs.specs.declared.frame.Line.{Line}
use Rattle.mc_dialogs.specs.Boxes.{with_box, columns_inside, middle}
use Rattle.mc_dialogs.specs.InputKeys.{InputState}
use Rattle.mc_dialogs.specs.InputField.{with_field, with_input, input_lines}

abbrev pub line_state : List ℕ → List ℕ → List ℕ → InputState
line_state title before behind = record { title = title; before = before; behind = behind }

pub field_over_box : (grid boxed : CellGrid) (title before behind : List ℕ) (lines : List Line) (row column inside : ℕ)
    → boxed ≡ with_box grid lines → lines ≡ input_lines title → row ≡ middle grid.lines 4 + 2
    → column ≡ middle grid.columns (columns_inside grid.columns + 4) + 2 → inside ≡ columns_inside grid.columns
    → with_field boxed row column inside before behind ≡ with_input grid (line_state title before behind)
field_over_box grid boxed title before behind lines row column inside is_boxed is_lines is_row is_column is_inside =
    rw (is_boxed, is_lines, is_row, is_column, is_inside) refl

-- How an input line is painted: a box whose second line is the field. The field shows the text around the
-- cursor, whose cell is in reverse. Own.
use Rattle.std.specs.Prelude.{ℕ, ◌+◌, ◌-◌, true, nat_le, if◌then◌else◌, List, [], ◌∷◌}
use Rattle.std.specs.List.{sum_by}
use Rattle.unicode_segmentation.specs.Grapheme.{graphemes}
use Rattle.mc_text.specs.Fit.{cluster_columns, columns_in, fitted_text}
use Rattle.mc_text.specs.Drawn.{drawn_text}
use Rattle.key_screen.specs.declared.cells.Attr.TheVariants.{Plain, Reverse}
use Rattle.key_screen.specs.Grids.{CellGrid, written_at}
use Rattle.mc_dialogs.specs.declared.frame.Line.{Line}
use Rattle.mc_dialogs.specs.Boxes.{with_box, columns_inside, middle}
use Rattle.mc_dialogs.specs.InputKeys.{InputState, first_clusters, later_clusters}

-- how many clusters are left out: the fewest without which the others take at most so many columns
abbrev pub left_out : ℕ → List (List ℕ) → ℕ
left_out room [] = 0
left_out room (cluster ∷ rest) =
    if nat_le (sum_by cluster_columns (cluster ∷ rest)) room then 0 else 1 + left_out room rest

-- what a field shows before the cursor: the end of the drawn text that leaves a column for the cursor
abbrev pub shown_before : List ℕ → ℕ → List ℕ
shown_before before inside =
    later_clusters (left_out (inside - 1) (graphemes true (drawn_text before))) (drawn_text before)

-- A field of so many columns, from a cell on. What it shows from the cursor on fills the columns that are
-- left, and the first cluster of that is in reverse.
abbrev pub with_field : CellGrid → ℕ → ℕ → ℕ → List ℕ → List ℕ → CellGrid
with_field grid row column inside before behind =
    let start = shown_before before inside in
    let room = inside - columns_in start in
    let end = fitted_text (drawn_text behind) room in
    let cursor = column + (inside - room) in
    let started = written_at grid row column start Plain in
    let whole = written_at started row cursor end Plain in
    written_at whole row cursor (first_clusters 1 end) Reverse

-- the lines of its box: its title, and one for the field
abbrev pub input_lines : List ℕ → List Line
input_lines title = record { text = title; attr = Plain } ∷ record { text = []; attr = Plain } ∷ []

-- an input line over a screen
abbrev pub with_input : CellGrid → InputState → CellGrid
with_input grid s =
    let inside = columns_inside grid.columns in
    let row = middle grid.lines 4 + 2 in
    let column = middle grid.columns (inside + 4) + 2 in
    with_field (with_box grid (input_lines s.title)) row column inside s.before s.behind

-- A box that is painted over a screen leaves its size as it was.
use Rattle.std.proofs.Common.{◌≡◌, ℕ, ◌+◌, ◌-◌, Bool, true, false, List, [], ◌∷◌, length, refl}
use Rattle.std.specs.Prelude.{if◌then◌else◌, ◌&&◌}
use Rattle.mc_text.specs.Fit.{columns_in, fitted_text}
use Rattle.mc_text.specs.Drawn.{drawn_text}
use Rattle.key_screen.specs.declared.cells.Attr.{Attr}
use Rattle.key_screen.specs.declared.cells.Attr.TheVariants.{Plain, Reverse}
use Rattle.key_screen.specs.Grids.{CellGrid, grid_with_text, written_at}
use Rattle.key_screen.specs.KeySpelling.{is_within}
use Rattle.mc_dialogs.specs.declared.frame.Line.{Line}
use Rattle.mc_dialogs.specs.Boxes.{columns_inside, edge, middle, with_box, with_line, with_lines}
use Rattle.mc_dialogs.specs.InputField.{input_lines, shown_before, with_field, with_input}
use Rattle.mc_dialogs.specs.InputKeys.{InputState, first_clusters}

-- one screen has the size of another
pub record IsSized (lines columns : ℕ) (grid : CellGrid) : Type 0 where
  pub lines_are : grid.lines ≡ lines
  pub columns_are : grid.columns ≡ columns

module _ (lines columns : ℕ) where
  either : (test : Bool) (one other : CellGrid) → IsSized lines columns one → IsSized lines columns other → IsSized lines columns (if test then one else other)
  either true one other h g = h
  either false one other h g = g

  text_sized : (grid : CellGrid) (row column : ℕ) (text : List ℕ) (attr : Attr) → IsSized lines columns grid → IsSized lines columns (written_at grid row column text attr)
  unfolding written_at
  text_sized grid row column text attr h =
      either (is_within 1 grid.lines row && is_within 1 grid.columns column) (grid_with_text grid row column text attr) grid (record { lines_are = h.lines_are; columns_are = h.columns_are }) h

  line_sized : (grid : CellGrid) (row column inside : ℕ) (line : Line) → IsSized lines columns grid → IsSized lines columns (with_line grid row column inside line)
  line_sized grid row column inside line h =
      let left = written_at grid row column (124 ∷ 32 ∷ []) Plain in
      let text = written_at left row (column + 2) (fitted_text (drawn_text line.text) inside) line.attr in
      text_sized text row (column + 2 + inside) (32 ∷ 124 ∷ []) Plain
      (text_sized left row (column + 2) (fitted_text (drawn_text line.text) inside) line.attr (text_sized grid row column (124 ∷ 32 ∷ []) Plain h))

  lines_sized : (grid : CellGrid) (row column inside : ℕ) (all : List Line) → IsSized lines columns grid → IsSized lines columns (with_lines grid row column inside all)
  lines_sized grid row column inside [] h = h
  lines_sized grid row column inside (line ∷ more) h = lines_sized (with_line grid row column inside line) (row + 1) column inside more (line_sized grid row column inside line h)

  box_sized : (grid : CellGrid) (all : List Line) → IsSized lines columns grid → IsSized lines columns (with_box grid all)
  box_sized grid all h =
      let inside = columns_inside grid.columns in
      let row = middle grid.lines (length all + 2) in
      let column = middle grid.columns (inside + 4) in
      let top = written_at grid row column (edge inside) Plain in
      text_sized (with_lines top (row + 1) column inside all) (row + 1 + length all) column (edge inside) Plain
      (lines_sized top (row + 1) column inside all (text_sized grid row column (edge inside) Plain h))

  field_sized : (grid : CellGrid) (row column inside : ℕ) (before behind : List ℕ) → IsSized lines columns grid → IsSized lines columns (with_field grid row column inside before behind)
  field_sized grid row column inside before behind h =
      let start = shown_before before inside in
      let room = inside - columns_in start in
      let end = fitted_text (drawn_text behind) room in
      let cursor = column + (inside - room) in
      let started = written_at grid row column start Plain in
      let whole = written_at started row cursor end Plain in
      text_sized whole row cursor (first_clusters 1 end) Reverse (text_sized started row cursor end Plain (text_sized grid row column start Plain h))

  input_sized : (grid : CellGrid) (typed : InputState) → IsSized lines columns grid → IsSized lines columns (with_input grid typed)
  input_sized grid typed h =
      let inside = columns_inside grid.columns in
      let row = middle grid.lines 4 + 2 in
      let column = middle grid.columns (inside + 4) + 2 in
      field_sized (with_box grid (input_lines typed.title)) row column inside typed.before typed.behind (box_sized grid (input_lines typed.title) h)

pub box_lines_same : (grid : CellGrid) (all : List Line) → (with_box grid all).lines ≡ grid.lines
box_lines_same grid all = (box_sized grid.lines grid.columns grid all (record { lines_are = refl; columns_are = refl })).lines_are

pub box_columns_same : (grid : CellGrid) (all : List Line) → (with_box grid all).columns ≡ grid.columns
box_columns_same grid all = (box_sized grid.lines grid.columns grid all (record { lines_are = refl; columns_are = refl })).columns_are

pub input_lines_same : (grid : CellGrid) (typed : InputState) → (with_input grid typed).lines ≡ grid.lines
input_lines_same grid typed = (input_sized grid.lines grid.columns grid typed (record { lines_are = refl; columns_are = refl })).lines_are

pub input_columns_same : (grid : CellGrid) (typed : InputState) → (with_input grid typed).columns ≡ grid.columns
input_columns_same grid typed = (input_sized grid.lines grid.columns grid typed (record { lines_are = refl; columns_are = refl })).columns_are

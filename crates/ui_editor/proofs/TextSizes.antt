-- The block and the point leave the size of a screen as it was.
use Rattle.std.proofs.Common.{◌≡◌, ℕ, ◌+◌, Bool, true, false, List, [], ◌∷◌, refl}
use Rattle.std.specs.Prelude.{if◌then◌else◌, ◌&&◌}
use Rattle.key_screen.specs.declared.cells.Attr.{Attr}
use Rattle.key_screen.specs.declared.cells.Attr.TheVariants.{Bold, Reverse}
use Rattle.key_screen.specs.Grids.{CellGrid, grid_with_text, written_at}
use Rattle.key_screen.specs.KeySpelling.{is_within}
use Rattle.mc_edit.specs.declared.marked.MarkedColumns.{MarkedColumns}
use Rattle.ui_viewer.proofs.BoxSizes.{IsSized}
use Rattle.ui_editor.specs.EditorFrames.{or_blank, shown_within, with_block, with_marked, with_point}

module _ (lines columns : ℕ) where
  either : (test : Bool) (one other : CellGrid) → IsSized lines columns one → IsSized lines columns other → IsSized lines columns (if test then one else other)
  either true one other h g = h
  either false one other h g = g

  text_sized : (grid : CellGrid) (row column : ℕ) (text : List ℕ) (attr : Attr) → IsSized lines columns grid → IsSized lines columns (written_at grid row column text attr)
  unfolding written_at
  text_sized grid row column text attr h =
      either (is_within 1 grid.lines row && is_within 1 grid.columns column) (grid_with_text grid row column text attr) grid (record { lines_are = h.lines_are; columns_are = h.columns_are }) h

  block_sized : (row : ℕ) (rows : List (List ℕ)) (marked : List MarkedColumns) (grid : CellGrid) → IsSized lines columns grid → IsSized lines columns (with_block row rows marked grid)
  block_sized row rows [] grid h = h
  block_sized row [] (mark ∷ more) grid h = h
  block_sized row (text ∷ rows) (mark ∷ more) grid h =
      block_sized (row + 1) rows more (with_marked row text mark grid)
      (text_sized grid (row + 2) (mark.from + 1) (shown_within mark.from mark.to text) Bold h)

  pub text_is_sized : (row column : ℕ) (text : List ℕ) (rows : List (List ℕ)) (marked : List MarkedColumns) (grid : CellGrid) → IsSized lines columns grid
      → IsSized lines columns (with_point row column text (with_block 0 rows marked grid))
  text_is_sized row column text rows marked grid h =
      text_sized (with_block 0 rows marked grid) (row + 2) (column + 1) (or_blank (shown_within column (column + 1) text)) Reverse
      (block_sized 0 rows marked grid h)

-- where no row is left nothing is marked
pub no_rows : (row : ℕ) (marked : List MarkedColumns) (grid : CellGrid) → with_block row [] marked grid ≡ grid
no_rows row [] grid = refl
no_rows row (mark ∷ more) grid = refl

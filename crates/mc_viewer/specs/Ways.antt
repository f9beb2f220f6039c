-- The row to which a step leads, by the row from which it leads and by how far it is from there (own).
use Rattle.std.specs.Prelude.{ℕ, List, length}
use Rattle.mc_viewer.specs.declared.state.State.{State}
use Rattle.mc_viewer.specs.declared.way.Start.{Start}
use Rattle.mc_viewer.specs.declared.way.Start.TheVariants.{Byte, Line, End}
use Rattle.mc_viewer.specs.declared.way.Way.{Way}
use Rattle.mc_viewer.specs.declared.way.Way.TheVariants.{Nowhere, Down, Up}
use Rattle.mc_viewer.specs.Rows.{row_holding, rows_down, rows_up, line_behind}
use Rattle.mc_viewer.specs.ViewerSteps.{shape_of, rows_of}

-- the byte at a place
abbrev pub start_byte : List ℕ → Start → ℕ
start_byte bytes (Byte byte) = byte
start_byte bytes (Line lines) = line_behind lines bytes 0
start_byte bytes End = length bytes

-- the row so far from a row
abbrev pub row_along : Way → List ℕ → ℕ → ℕ
row_along Nowhere rows row = row
row_along (Down count) rows row = rows_down count rows row
row_along (Up count) rows row = rows_up count rows row

-- the row so far from that which holds a place is the top
abbrev pub to_row : List ℕ → State → Start → Way → State
to_row bytes s start way =
    record s {
      top =
          row_along way (rows_of bytes s) (row_holding (shape_of s) s.columns bytes (start_byte bytes start));
    }

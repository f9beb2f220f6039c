-- Where a viewer stands, and where each step leads (own; mc(1) has the keys).
use Rattle.std.specs.Prelude.{⊤, ℕ, ◌+◌, ◌-◌, ◌^◌, min, Bool, true, false, not}
use Rattle.std.specs.Prelude.{◌&&◌, List, length, Option, None, if◌then◌else◌}
use Rattle.mc_viewer.specs.declared.layout.Shape.{Shape}
use Rattle.mc_viewer.specs.declared.layout.Shape.TheVariants.{Wrapped, Unwrapped, Hex}
use Rattle.mc_viewer.specs.declared.layout.Layout.{Layout}
use Rattle.mc_viewer.specs.declared.state.State.{State}
use Rattle.mc_viewer.specs.declared.state.ViewStep.{ViewStep}
use Rattle.mc_viewer.specs.declared.state.ViewStep.TheVariants as step
use Rattle.mc_viewer.specs.declared.search.Hit.{Hit}
use Rattle.mc_viewer.specs.declared.subject.Subject.{Subject}
use Rattle.mc_viewer.specs.Rows.{all_rows, row_holding, rows_down, rows_up, line_behind}
use Rattle.mc_viewer.specs.Pages.{page_rows}

-- the shape of the rows
abbrev pub shape_of : State → Shape
shape_of s = if s.is_hex then Hex else if s.wraps then Wrapped else Unwrapped

abbrev pub layout_of : State → Layout
layout_of s = record { shape = shape_of s; columns = s.columns; left = s.left }

-- the rows of a page: the screen's lines but for two
abbrev pub page_lines : State → ℕ
page_lines s = s.lines - 2

-- the row at the top: the one that holds the byte by which it is named, or the last row
abbrev pub top_row : List ℕ → State → ℕ
top_row bytes s = row_holding (shape_of s) s.columns bytes s.top

abbrev pub rows_of : List ℕ → State → List ℕ
rows_of bytes s = all_rows (shape_of s) s.columns bytes

-- the row that holds a byte is the top
abbrev pub to_byte : List ℕ → State → ℕ → State
to_byte bytes s byte = record s { top = row_holding (shape_of s) s.columns bytes byte }

abbrev pub down : List ℕ → State → ℕ → State
down bytes s count = record s { top = rows_down count (rows_of bytes s) (top_row bytes s) }

abbrev pub up : List ℕ → State → ℕ → State
up bytes s count = record s { top = rows_up count (rows_of bytes s) (top_row bytes s) }

-- the last rows make the page
abbrev pub to_end : List ℕ → State → State
to_end bytes s = record s {
  top =
      rows_up (page_lines s - 1) (rows_of bytes s) (row_holding (shape_of s) s.columns bytes (length bytes));
}

-- lines stand beside what is shown only where they are in one row each
abbrev pub moves_sideways : State → Bool
moves_sideways s = not s.is_hex && not s.wraps

abbrev pub to_left : State → State
to_left s = if moves_sideways s then record s { left = s.left - 10 } else s

-- the first column in sight stays at its last value
abbrev pub to_right : State → State
to_right s = if moves_sideways s then record s { left = min (s.left + 10) (2 ^ 32 - 1) } else s

-- where a step leads
abbrev pub after_step : List ℕ → ViewStep → State → State
after_step bytes step.Down s = down bytes s 1
after_step bytes step.Up s = up bytes s 1
after_step bytes step.PageDown s = down bytes s (page_lines s)
after_step bytes step.PageUp s = up bytes s (page_lines s)
after_step bytes step.Home s = record s { top = 0 }
after_step bytes step.End s = to_end bytes s
after_step bytes step.Left s = to_left s
after_step bytes step.Right s = to_right s
after_step bytes (step.Line line) s = to_byte bytes s (line_behind (line - 1) bytes 0)
after_step bytes (step.Byte byte) s = to_byte bytes s byte
after_step bytes step.Wrap s = to_byte bytes (record s { wraps = not s.wraps }) s.top
after_step bytes step.Hex s = to_byte bytes (record s { is_hex = not s.is_hex }) s.top

-- a step that leads to the same place in every file
abbrev pub NeedsNoLook : ViewStep → Type 0
NeedsNoLook step.Home = ⊤
NeedsNoLook step.Left = ⊤
NeedsNoLook step.Right = ⊤
NeedsNoLook other = ⊥

-- a viewer: what is viewed, where it stands, and what was found last
pub record Viewing : Type 0 where
  pub subject : Subject
  pub state : State
  pub last : Option Hit

-- it begins at the top, with lines wrapped, and nothing found
abbrev pub begun_viewing : Subject → ℕ → ℕ → Viewing
begun_viewing subject lines columns = record {
  subject = subject;
  state = record { lines = lines; columns = columns; wraps = true; is_hex = false; left = 0; top = 0 };
  last = None;
}

-- what is shown
abbrev pub page_of : List ℕ → State → List (List ℕ)
page_of bytes s = page_rows (layout_of s) (page_lines s) bytes s.top

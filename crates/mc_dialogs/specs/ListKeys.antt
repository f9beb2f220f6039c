-- The box that lists rows, of which one is current, and what it makes of a key. Own,
-- after the listboxes of mc(1).
use Rattle.std.specs.Prelude.{ℕ, ◌+◌, ◌-◌, min, Bool, true, false, ◌==◌, ◌&&◌, nat_lt, nat_le}
use Rattle.std.specs.Prelude.{if◌then◌else◌, List, [], ◌∷◌, length, take, drop, Option, Some, None}
use Rattle.std.specs.Str.{chars}
use Rattle.key_screen.specs.declared.keys.Base.{Base}
use Rattle.key_screen.specs.declared.keys.Base.TheVariants.{Char, Enter, Up, Down, Home, End, PgUp, PgDn}
use Rattle.key_screen.specs.declared.keys.Key.{Key}
use Rattle.mc_dialogs.specs.declared.shut.Shut.{Shut}
use Rattle.mc_dialogs.specs.declared.shut.Shut.TheVariants.{Stay, Closed}
use Rattle.mc_dialogs.specs.declared.shut.Reply.{Reply}
use Rattle.mc_dialogs.specs.declared.shut.Reply.TheVariants.{Cancel, Chosen}
use Rattle.key_screen.specs.declared.cells.Attr.TheVariants.{Plain, Reverse}
use Rattle.mc_dialogs.specs.declared.frame.Line.{Line}
use Rattle.mc_dialogs.specs.CommonKeys.{cancels}

-- a list box: its title and rows, the lines of its screen, whether letters choose, the position of the
-- current row, and that of the first one shown
pub record ListState : Type 0 where
  pub title : List ℕ
  pub rows : List (List ℕ)
  pub lines : ℕ
  pub by_letter : Bool
  pub current : ℕ
  pub first : ℕ

-- how many rows it shows at most
abbrev pub page_of : ListState → ℕ
page_of s = s.lines - 6

-- the row that a key makes current, of so many
abbrev pub moved_to : ℕ → ℕ → ℕ → Base → ℕ
moved_to count page current Up = current - 1
moved_to count page current Down = min (current + 1) (count - 1)
moved_to count page current Home = 0
moved_to count page current End = count - 1
moved_to count page current PgUp = current - page
moved_to count page current PgDn = min (current + page) (count - 1)
moved_to count page current base = current

-- the first row shown: the least change of the old one that shows the current row
abbrev pub scrolled_to : ℕ → ℕ → ℕ → ℕ
scrolled_to page first current =
    if nat_lt current first then current
    else if nat_le (first + page) current then current + 1 - page
    else first

abbrev pub list_moved : ListState → Base → ListState
list_moved s base =
    let current = moved_to (length s.rows) (page_of s) s.current base in
    record s { current = current; first = scrolled_to (page_of s) s.first current }

-- a list box after a key
abbrev pub list_after : ListState → Key → ListState
list_after s key = if key.meta then s else list_moved s key.base

-- a row begins with a character
abbrev pub first_is : ℕ → List ℕ → Bool
first_is code [] = false
first_is code (first ∷ more) = first == code

-- the first row, at this position or behind it, that begins with a character
abbrev pub chosen_by : ℕ → ℕ → List (List ℕ) → Shut
chosen_by code position [] = Stay
chosen_by code position (row ∷ rows) =
    if first_is code (chars row) then Closed (Chosen position) else chosen_by code (position + 1) rows

-- the answer of Enter: the current row, where there is one
abbrev pub chosen_row : ListState → Reply
chosen_row s = if length s.rows == 0 then Cancel else Chosen s.current

abbrev pub list_closed : ListState → Base → Shut
list_closed s (Char code) = if s.by_letter then chosen_by code 0 s.rows else Stay
list_closed s Enter = Closed (chosen_row s)
list_closed s base = if cancels base then Closed Cancel else Stay

-- what it answers
abbrev pub list_shut : ListState → Key → Shut
list_shut s key = if key.meta then Stay else list_closed s key.base

-- rows, of which the first has this position; the current one is in reverse
abbrev pub rows_shown : ℕ → ℕ → List (List ℕ) → List Line
rows_shown position current [] = []
rows_shown position current (row ∷ rows) =
    record { text = row; attr = (if position == current then Reverse else Plain) }
    ∷ rows_shown (position + 1) current rows

-- the lines of a list: its title, and some of its rows, of which the first has this position
abbrev pub titled_rows : List ℕ → ℕ → ℕ → List (List ℕ) → List Line
titled_rows title first current rows = record { text = title; attr = Plain } ∷ rows_shown first current rows

-- the lines of a list box: its title, and the rows that it shows
abbrev pub list_lines : ListState → List Line
list_lines s = titled_rows s.title s.first s.current (take (page_of s) (drop s.first s.rows))

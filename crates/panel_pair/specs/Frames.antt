-- What the frame shows of the panels (own, after mc(1), "Directory Panels").
use Rattle.std.specs.Prelude.{ℕ, ◌+◌, ◌-◌, ◌/◌, Bool, true, false, if◌then◌else◌, List, [], ◌∷◌}
use Rattle.mc_text.specs.Routes.{path_text}
use Rattle.key_screen.specs.declared.cells.Attr.{Attr}
use Rattle.key_screen.specs.declared.cells.Attr.TheVariants.{Plain, Bold, Reverse}
use Rattle.screen_frame.specs.declared.panes.ListingLine.{ListingLine}
use Rattle.screen_frame.specs.declared.panes.Pane.{Pane}
use Rattle.screen_frame.specs.declared.panes.Panes.{Panes}
use Rattle.screen_frame.specs.declared.panes.Panes.TheVariants.{Both, Whole}
use Rattle.screen_frame.specs.declared.panes.Shape.{Shape}
use Rattle.screen_frame.specs.declared.panes.Shape.TheVariants as shape
use Rattle.panel_state.specs.declared.format.Layout.{Layout}
use Rattle.panel_state.specs.declared.format.Layout.TheVariants.{Columns, Brief}
use Rattle.panel_state.specs.declared.window.Mark.{Mark}
use Rattle.panel_state.specs.declared.window.Mark.TheVariants as mark
use Rattle.panel_state.specs.declared.window.View.{View}
use Rattle.panel_state.specs.Formats.{FormatState, format_meant}
use Rattle.panel_state.specs.Panels.{PanelState, current_text}
use Rattle.panel_state.specs.Windows.{panel_heading, panel_rows, mark_of}
use Rattle.panel_pair.specs.declared.frame.FrameSize.{FrameSize}
use Rattle.panel_pair.specs.declared.side.Side.{Side}
use Rattle.panel_pair.specs.declared.side.Side.TheVariants.{Left, Right}
use Rattle.panel_pair.specs.Pairs.{PairState, left_panel, right_panel}

-- how a row looks that is marked so
abbrev pub look_of : Mark → Attr
look_of mark.Plain = Plain
look_of mark.Tagged = Bold
look_of mark.Current = Reverse

-- items with these texts, of which the first stands in this row
abbrev pub items_from : PanelState → Bool → ℕ → List (List ℕ) → List ListingLine
items_from p is_current row [] = []
items_from p is_current row (text ∷ texts) =
    record { text = text; look = look_of (mark_of row is_current p) }
    ∷ items_from p is_current (row + 1) texts

-- brief has two columns of items
abbrev pub shape_of : Layout → Shape
shape_of Columns = shape.Full
shape_of Brief = shape.Brief

-- what a panel shows: its folder, the heading, its rows from the first on the screen on, the current name,
-- and how many names can't be shown
abbrev pub pane_of : View → Bool → PanelState → Pane
pane_of view is_current p =
    record {
      title = path_text p.folder;
      heading = panel_heading view.columns p.format;
      shape = shape_of p.format.layout;
      items = items_from p is_current p.first (panel_rows view p);
      name = current_text p;
      unnamed = p.listing.unnamed;
      is_current = is_current;
    }

-- how many rows of a column are on a screen of so many lines, and how many columns stand
-- within the walls of a panel
abbrev pub page_of : ℕ → ℕ
page_of lines = lines - 6

abbrev pub inside : ℕ → ℕ
inside width = width - 2

-- the room in a panel of so many columns
abbrev pub view_in : FrameSize → ℕ → View
view_in size width = record { columns = inside width; page = page_of size.lines; now = size.now }

-- the columns of a full format have the whole screen
abbrev pub whole_by : Layout → List ℕ → Bool
whole_by Columns text = (format_meant text).full
whole_by Brief text = false

abbrev pub has_whole_screen : FormatState → Bool
has_whole_screen format = whole_by format.layout format.text

-- the panel on a side is the current one
abbrev pub is_left : Side → Bool
is_left Left = true
is_left Right = false

abbrev pub is_right : Side → Bool
is_right Left = false
is_right Right = true

-- The left panel has half of the columns, rounded down, and the right one the rest; or the current
-- one has the whole screen.
abbrev pub panes_of : FrameSize → PairState → Panes
panes_of size pair =
    if has_whole_screen pair.current.format
    then Whole (pane_of (view_in size size.columns) true pair.current) else
    Both (pane_of (view_in size (size.columns / 2)) (is_left pair.side) (left_panel pair))
    (pane_of (view_in size (size.columns - size.columns / 2)) (is_right pair.side) (right_panel pair))

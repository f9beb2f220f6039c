-- What the frame shows of a panel (own, after mc(1), "Directory Panels" and "Listing
-- format": full, brief, user).
use Rattle.std.specs.Prelude.{◌≡◌, ℕ, ◌+◌, ◌-◌, ◌/◌, ◌==◌, ◌&&◌, Bool, false, codes}
use Rattle.std.specs.Prelude.{if◌then◌else◌, List, [], ◌∷◌, ◌++◌, slice_index_or, Option, None}
use Rattle.panel_listing.specs.declared.format.Field.TheVariants.{Name, TypeLetter}
use Rattle.panel_listing.specs.FormatTexts.{RowFormat}
use Rattle.panel_listing.specs.Listings.{rows_in}
use Rattle.panel_listing.specs.RowTexts.{is_tagged, rows_text, heading_text}
use Rattle.panel_state.specs.declared.format.Layout.{Layout}
use Rattle.panel_state.specs.declared.format.Layout.TheVariants.{Columns, Brief}
use Rattle.panel_state.specs.declared.window.View.{View}
use Rattle.panel_state.specs.declared.window.Mark.{Mark}
use Rattle.panel_state.specs.declared.window.Mark.TheVariants.{Plain, Tagged, Current}
use Rattle.panel_state.specs.Formats.{FormatState, format_meant}
use Rattle.panel_state.specs.Panels.{PanelState, tag_set}

-- a row in brief: the character of its kind, and its name in what is left
abbrev pub brief_format : RowFormat
brief_format = record {
  full = false;
  columns = record { field = TypeLetter; width = None } ∷ record { field = Name; width = None } ∷ [];
}

-- what stands over the rows
abbrev pub heading_by : Layout → ℕ → List ℕ → List ℕ
heading_by Columns columns text = heading_text (format_meant text) columns
heading_by Brief columns text = codes "Name"

abbrev pub panel_heading : ℕ → FormatState → List ℕ
panel_heading columns format = heading_by format.layout columns format.text

-- the rows of a column, from a row on
unfoldable pub column_rows : View → ℕ → RowFormat → PanelState → List (List ℕ)
column_rows view first format p =
    rows_text p.listing (tag_set p) format (record {
      columns = view.columns;
      first = first;
      count = view.page;
      now = view.now;
    })

-- the view with so many columns
abbrev pub narrowed_view : View → ℕ → View
narrowed_view view columns = record view { columns = columns }

-- In brief there are two columns with a wall between them. The first has half of what
-- that leaves, rounded down.
abbrev pub brief_rows : View → PanelState → List (List ℕ)
brief_rows view p =
    column_rows (narrowed_view view ((view.columns - 1) / 2)) p.first brief_format p
    ++ column_rows (narrowed_view view (view.columns - 1 - (view.columns - 1) / 2))
    (p.first + view.page) brief_format p

-- the rows on the screen
abbrev pub rows_by : Layout → View → PanelState → List (List ℕ)
rows_by Columns view p = column_rows view p.first (format_meant p.format.text) p
rows_by Brief view p = brief_rows view p

abbrev pub panel_rows : View → PanelState → List (List ℕ)
panel_rows view p = rows_by p.format.layout view p

-- how a row is marked: the current one of the current panel, else the tagged ones
abbrev pub mark_of : ℕ → Bool → PanelState → Mark
mark_of row is_current p =
    if is_current && (row == p.cursor) then Current
    else if is_tagged (tag_set p) (slice_index_or (rows_in p.listing) row None) then Tagged else Plain

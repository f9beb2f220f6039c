-- The state of a panel, and what moving its cursor makes of it (own, after mc(1), "Directory Panels").
use Rattle.std.specs.Prelude.{ℕ, ◌+◌, ◌-◌, ◌^◌, ◌<◌, ◌≤◌, min, codes, Bool, false, List, [], ◌∷◌, length}
use Rattle.std.specs.Prelude.{slice_index_or, nat_lt, if◌then◌else◌, Option, Some, None, unwrap_or}
use Rattle.std.specs.List.{position}
use Rattle.std.specs.Option.{option_map}
use Rattle.std.specs.Str.{bytes_eq}
use Rattle.std.specs.FinSet as set
use Rattle.mc_text.specs.Routes.{Route}
use Rattle.key_screen.specs.declared.keys.Base.{Base}
use Rattle.mc_dialogs.specs.ListKeys.{moved_to, scrolled_to}
use Rattle.tagging.specs.TagSets.{TagSet, names_in}
use Rattle.panel_listing.specs.declared.item.Item.{Item}
use Rattle.panel_listing.specs.declared.wish.Wish.{Wish}
use Rattle.panel_listing.specs.Listings.{Listed, rows_in}
use Rattle.panel_listing.specs.Orders.{AreArranged}
use Rattle.panel_state.specs.Formats.{FormatState, in_brief, rows_shown}
use Rattle.panel_state.specs.Visits.{FoldersShown}

-- a panel: its folder, what that held when it was read, which of it is wished for and how it is shown, the
-- tagged names, the row of the cursor, the first row on the screen, and the other folders that were shown
pub record PanelState : Type 0 where
  pub folder : Route
  pub listing : Listed
  pub wish : Wish
  pub format : FormatState
  pub tags : List (List ℕ)
  pub cursor : ℕ
  pub first : ℕ
  pub visits : FoldersShown

-- what is listed is what is wished for, and the cursor stands on one of its rows, on the
-- screen or right above it
pub record IsSteady (wish : Wish) (listing : Listed) (cursor first : ℕ) : Type 0 where
  pub arranged : AreArranged wish listing.items listing.shown
  pub small : length (rows_in listing) < 2 ^ 60
  pub within : cursor ≤ length (rows_in listing) - 1
  pub near : first ≤ cursor + 1

-- no tags, the set of the tagged names, and the panel with another one
abbrev pub no_tags : TagSet
no_tags = set.empty

abbrev pub tag_set : PanelState → TagSet
tag_set p = names_in p.tags

abbrev pub with_tags : TagSet → PanelState → PanelState
with_tags tags p = record p { tags = set.items tags }

abbrev pub untagged_panel : PanelState → PanelState
untagged_panel p = with_tags no_tags p

-- how many rows there are
abbrev pub row_count : PanelState → ℕ
row_count p = length (rows_in p.listing)

-- the item under the cursor; `..` is none
abbrev pub current_item : PanelState → Option Item
current_item p = slice_index_or (rows_in p.listing) p.cursor None

-- and its name
abbrev pub current_name : PanelState → Option (List ℕ)
current_name p = option_map (λ item. item.name) (current_item p)

-- the path of the thing under the cursor
abbrev pub current_path : PanelState → Option Route
current_path p = option_map (λ name. name ∷ p.folder) (current_name p)

-- the text of a row, if it is one: `..` has no item
abbrev pub row_text : Bool → Option Item → List ℕ
row_text is_row None = if is_row then codes ".." else []
row_text is_row (Some item) = item.name

abbrev pub current_text : PanelState → List ℕ
current_text p = row_text (nat_lt p.cursor (row_count p)) (current_item p)

-- the panel with the cursor in this row; of the rows on the screen the first changes as little as shows it
abbrev pub with_cursor : ℕ → ℕ → PanelState → PanelState
with_cursor page row p =
    record p { cursor = row; first = scrolled_to (rows_shown p.format.layout page) p.first row }

-- the panel after a key that moves the cursor by a row or a page, or to an end
abbrev pub moved_by : ℕ → Base → PanelState → PanelState
moved_by page base p = with_cursor page (moved_to (row_count p) page p.cursor base) p

-- the panel with another format, or in brief
abbrev pub with_format : ℕ → FormatState → PanelState → PanelState
with_format page format p = with_cursor page p.cursor (record p { format = format })

abbrev pub with_brief : ℕ → PanelState → PanelState
with_brief page p = with_format page (in_brief p.format) p

-- a row is that of this name
abbrev pub is_named : List ℕ → Option Item → Bool
is_named name None = false
is_named name (Some item) = bytes_eq item.name name

-- the row of a name in a listing, if it is shown
abbrev pub row_named : Listed → List ℕ → Option ℕ
row_named listing name = position (is_named name) (rows_in listing)

abbrev pub row_of : Listed → Option (List ℕ) → Option ℕ
row_of listing None = None
row_of listing (Some name) = row_named listing name

-- the row of a name, or else another one as far as there are rows
abbrev pub row_from : Listed → Option (List ℕ) → ℕ → ℕ
row_from listing name row = unwrap_or (row_of listing name) (min row (length (rows_in listing) - 1))

-- the row of the cursor where this is listed: that of its name, or else its row as far as there are rows
abbrev pub row_among : Listed → PanelState → ℕ
row_among listing p = row_from listing (current_name p) p.cursor

-- the panel with its cursor on a name, or else on the first row
abbrev pub with_cursor_on : ℕ → Option (List ℕ) → PanelState → PanelState
with_cursor_on page name p = with_cursor page (row_from p.listing name 0) p

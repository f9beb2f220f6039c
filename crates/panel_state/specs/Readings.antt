-- What reading a folder comes to, and what it makes of a panel (own, after mc(1), "Keys":
-- ctrl-r, alt-y, alt-u, enter).
use Rattle.std.specs.Prelude.{◌≡◌, ℕ, true, false, codes, List, [], Option}
use Rattle.std.specs.Prelude.{Some, None, if◌then◌else◌, Result, Ok, Err, ⊤}
use Rattle.std.specs.FinSet as set
use Rattle.mc_text.specs.Routes.{Route, same_path, last_of}
use Rattle.tree_trait.specs.Calls.{ListFolder}
use Rattle.tree_trait.specs.Refusals.{refusal_of, holder}
use Rattle.tree_trait.specs.Change.{CallLog, current}
use Rattle.resolving.specs.declared.error.ResolveError.{ResolveError}
use Rattle.resolving.specs.declared.error.ResolveError.TheVariants.{Tree, TooManyLinks, TooLong}
use Rattle.resolving.specs.declared.error.ResolveError.TheVariants.{BadName, Fault, Memory}
use Rattle.panel_listing.specs.declared.wish.Order.TheVariants.{Name}
use Rattle.panel_listing.specs.declared.wish.Wish.{Wish}
use Rattle.panel_listing.specs.Listings.{Listed, IsListingOf}
use Rattle.panel_state.specs.declared.format.Layout.TheVariants.{Columns}
use Rattle.panel_state.specs.declared.visits.Turn.{Turn}
use Rattle.panel_state.specs.Visits.{FoldersShown, visited_folders, turned_folders}
use Rattle.panel_state.specs.Panels.{PanelState, no_tags, tag_set, with_tags, untagged_panel}
use Rattle.panel_state.specs.Panels.{with_cursor, row_from, row_among, with_cursor_on}
use Rattle.panel_state.specs.Wanted.{kept_tags}

-- Reading a folder gives its listing, or is refused as `list` of it is. Memory may run out, and where
-- nothing refuses `list` a device may fail.
abbrev pub ListsFolder : CallLog → Route → Result Listed ResolveError → Type 0
ListsFolder log folder (Ok listing) =
    (refusal_of (current log) (ListFolder folder) ≡ None) × IsListingOf (current log) folder listing
ListsFolder log folder (Err (Tree path e)) =
    (path ≡ folder) × (refusal_of (current log) (ListFolder folder) ≡ Some e)
ListsFolder log folder (Err Fault) = refusal_of (current log) (ListFolder folder) ≡ None
ListsFolder log folder (Err Memory) = ⊤
ListsFolder log folder (Err TooManyLinks) = ⊥
ListsFolder log folder (Err TooLong) = ⊥
ListsFolder log folder (Err BadName) = ⊥

-- a panel shows a folder as it was read, or that was refused
abbrev pub ShowsFolder : CallLog → Route → Result PanelState ResolveError → Type 0
ShowsFolder log folder (Ok p) = (p.folder ≡ folder) × ListsFolder log folder (Ok p.listing)
ShowsFolder log folder (Err e) = ListsFolder log folder (Err e)

-- what a call on a panel came to: the panel afterwards, or its refusal
abbrev pub outcome : {A : Type 0} → Result A ResolveError → PanelState → Result PanelState ResolveError
outcome (Ok x) p = Ok p
outcome (Err e) p = Err e

-- what panels show at first: by name, hidden names too
abbrev pub first_wish : Wish
first_wish = record { order = Name; reverse = false; hidden = true; filter = None }

-- the panel of a folder that was read
abbrev pub opened_panel : Route → Listed → PanelState
opened_panel folder listing = record {
  folder = folder;
  listing = listing;
  wish = first_wish;
  format = record { layout = Columns; text = codes "half type name | size | mtime" };
  tags = set.items no_tags;
  cursor = 0;
  first = 0;
  visits = record { behind = []; ahead = [] };
}

-- the panel with its folder read again
abbrev pub read_again : ℕ → Listed → PanelState → PanelState
read_again page listing p =
    with_cursor page (row_among listing p)
    (with_tags (kept_tags (tag_set p) listing.items) (record p { listing = listing }))

-- the panel with another folder: nothing is tagged there, and the cursor is on a name,
-- or else on the first row
abbrev pub shown_anew : ℕ → Route → Listed → Option (List ℕ) → FoldersShown → PanelState → PanelState
shown_anew page folder listing on visits p =
    with_cursor page (row_from listing on 0)
    (untagged_panel (record p { folder = folder; listing = listing; first = 0; visits = visits }))

-- the panel that went to another folder
abbrev pub went_to : ℕ → Route → Listed → Option (List ℕ) → PanelState → PanelState
went_to page folder listing on p = shown_anew page folder listing on (visited_folders p.folder p.visits) p

-- the panel that was told to go to a folder, which may be its own
abbrev pub gone_to : ℕ → Route → Listed → PanelState → PanelState
gone_to page folder listing p =
    if same_path folder p.folder then read_again page listing p else went_to page folder listing None p

-- the panel that was told to go to a path: it shows the folder that holds it, the cursor on the last name,
-- or on the first row where that isn't shown
abbrev pub gone_to_path : ℕ → Route → Listed → PanelState → PanelState
gone_to_path page path listing p =
    if same_path (holder path) p.folder then with_cursor_on page (last_of path) (read_again page listing p)
    else went_to page (holder path) listing (last_of path) p

-- the panel that went back to the folder shown before, or forward again
abbrev pub turned_to : Turn → ℕ → Route → Listed → PanelState → PanelState
turned_to turn page folder listing p =
    shown_anew page folder listing None (turned_folders turn p.folder p.visits) p

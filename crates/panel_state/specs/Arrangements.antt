-- What is shown of a folder that was read (mc(1), "Menu Bar": Sort order, Filter; "Keys": alt-.).
use Rattle.std.specs.Prelude.{◌≡◌, ℕ}
use Rattle.panel_listing.specs.declared.wish.Wish.{Wish}
use Rattle.panel_listing.specs.Listings.{Listed}
use Rattle.panel_state.specs.declared.arranging.Arrangement.{Arrangement}
use Rattle.panel_state.specs.declared.arranging.Arrangement.TheVariants.{Sorted, Reversed, Hidden, Filtered}
use Rattle.panel_state.specs.Panels.{PanelState, with_cursor, row_among}

-- what is wished for after a change
abbrev pub wish_after : Arrangement → Wish → Wish
wish_after (Sorted order) wish = record wish { order = order }
wish_after (Reversed reverse) wish = record wish { reverse = reverse }
wish_after (Hidden hidden) wish = record wish { hidden = hidden }
wish_after (Filtered filter) wish = record wish { filter = filter }

-- the panel with its items shown so
abbrev pub arranged_again : ℕ → Arrangement → Listed → PanelState → PanelState
arranged_again page arrangement listing p =
    with_cursor page (row_among listing p)
    (record p { listing = listing; wish = wish_after arrangement p.wish })

-- a listing is of the same items as they were read
pub record HasSameItems (old new : Listed) : Type 0 where
  pub parent : new.has_parent ≡ old.has_parent
  pub items : new.items ≡ old.items
  pub unnamed : new.unnamed ≡ old.unnamed

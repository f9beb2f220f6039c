-- What reading folders again makes of panels (own, after mc(1), "Keys": ctrl-r; a panel whose folder can't
-- be read stays as it was).
use Rattle.std.specs.Prelude.{◌≡◌, ℕ, ◌-◌, ◌<◌, ◌≤◌, ◌^◌, length, Option, Some, None, Result, Ok, Err, ◌≢◌}
use Rattle.std.specs.FinSet as set
use Rattle.mc_text.specs.Routes.{Route}
use Rattle.tree_trait.specs.Change.{CallLog}
use Rattle.resolving.specs.declared.error.ResolveError.{ResolveError}
use Rattle.resolving.specs.declared.error.ResolveError.TheVariants.{Memory}
use Rattle.panel_listing.specs.Orders.{AreArranged}
use Rattle.panel_listing.specs.Listings.{Listed, rows_in}
use Rattle.panel_state.specs.declared.rereading.Attempt.{Attempt}
use Rattle.panel_state.specs.declared.rereading.Attempt.TheVariants.{Read, Refused}
use Rattle.panel_state.specs.FreshReads.{FreshRead}
use Rattle.panel_state.specs.Panels.{PanelState, tag_set, row_among}
use Rattle.panel_state.specs.Readings.{ListsFolder, read_again}
use Rattle.panel_state.specs.Wanted.{kept_tags}

-- the listing that was read, or the refusal
abbrev pub listed_in : Result FreshRead ResolveError → Result Listed ResolveError
listed_in (Ok fresh) = Ok fresh.listing
listed_in (Err e) = Err e

-- this was read for a panel
pub record IsFresh (p : PanelState) (fresh : FreshRead) : Type 0 where
  pub arranged : AreArranged p.wish fresh.listing.items fresh.listing.shown
  pub small : length (rows_in fresh.listing) < 2 ^ 60
  pub within : fresh.row ≤ length (rows_in fresh.listing) - 1
  pub row_is : fresh.row ≡ row_among fresh.listing p
  pub tags_are : fresh.tags ≡ set.items (kept_tags (tag_set p) fresh.listing.items)

-- so did this come of reading the folder of a panel; want of memory is no refusal of it
abbrev pub IsAttempt : PanelState → Attempt → Type 0
IsAttempt p (Read fresh) = IsFresh p fresh
IsAttempt p (Refused e) = e ≢ Memory

-- what was read, or the refusal
abbrev pub tried_read : Attempt → Result FreshRead ResolveError
tried_read (Read fresh) = Ok fresh
tried_read (Refused e) = Err e

-- why it was not read, if it wasn't
abbrev pub refusal_in : Attempt → Option ResolveError
refusal_in (Read fresh) = None
refusal_in (Refused e) = Some e

-- the panel with what was read, or as it was
abbrev pub panel_after_attempt : ℕ → Attempt → PanelState → PanelState
panel_after_attempt page (Read fresh) p = read_again page fresh.listing p
panel_after_attempt page (Refused e) p = p

-- what was read is what the folder holds, or its refusal is the tree's
abbrev pub ShowsAttempt : CallLog → Route → Attempt → Type 0
ShowsAttempt log folder (Read fresh) = ListsFolder log folder (Ok fresh.listing)
ShowsAttempt log folder (Refused e) = ListsFolder log folder (Err e)

-- a panel is read again, or stays as it was where that was refused
abbrev pub IsReadAgain : ℕ → Option ResolveError → PanelState → PanelState → Type 0
IsReadAgain page None before after = after ≡ read_again page after.listing before
IsReadAgain page (Some e) before after = after ≡ before

-- it then shows its folder as it was read, or that is refused by the tree
abbrev pub ShowsAgain : CallLog → Route → Option ResolveError → PanelState → Type 0
ShowsAgain log folder None after = ListsFolder log folder (Ok after.listing)
ShowsAgain log folder (Some e) after = ListsFolder log folder (Err e)

-- What Enter, M-y and M-u make of a panel (mc(1), "Keys"; on which row the cursor then
-- stands is partly our own).
use Rattle.std.specs.Prelude.{◌≡◌, ℕ, Bool, nat_lt, if◌then◌else◌, List, []}
use Rattle.std.specs.Prelude.{◌∷◌, Option, Some, None, Result, Ok, Err, ⊤}
use Rattle.mc_text.specs.Routes.{Route, last_of}
use Rattle.tree_trait.specs.Refusals.{holder}
use Rattle.tree_trait.specs.Change.{CallLog, current}
use Rattle.resolving.specs.declared.error.ResolveError.{ResolveError}
use Rattle.resolving.specs.declared.error.ResolveError.TheVariants.{Fault}
use Rattle.resolving.specs.declared.walking.Wanted.TheVariants.{FolderAlone}
use Rattle.resolving.specs.Errors.{Answers}
use Rattle.resolving.specs.Resolution.{resolved_path}
use Rattle.panel_listing.specs.Items.{leads_to_folder}
use Rattle.panel_listing.specs.declared.item.Item.{Item}
use Rattle.panel_state.specs.declared.going.Going.{Going}
use Rattle.panel_state.specs.declared.going.Going.TheVariants.{Went, NoFolder}
use Rattle.panel_state.specs.declared.going.Way.{Way}
use Rattle.panel_state.specs.declared.going.Way.TheVariants.{Nowhere, Up, Into}
use Rattle.panel_state.specs.Panels.{PanelState, current_item, current_text, row_count}
use Rattle.panel_state.specs.declared.visits.Turn.{Turn}
use Rattle.panel_state.specs.Visits.{folders_on}
use Rattle.panel_state.specs.Readings.{ListsFolder, ShowsFolder, went_to, gone_to, turned_to}

-- where Enter on a row leads, if it is one: `..` has no item and leads to the folder above
abbrev pub way_on : Bool → Option Item → Way
way_on is_row None = if is_row then Up else Nowhere
way_on is_row (Some item) = if leads_to_folder item then Into else Nowhere

abbrev pub way_of : PanelState → Way
way_of p = way_on (nat_lt p.cursor (row_count p)) (current_item p)

-- What Enter makes of the panel. Above, the cursor stands on the folder that was left.
abbrev pub Enters : Way → ℕ → PanelState → PanelState → Going → Type 0
Enters Nowhere page p new going = (going ≡ NoFolder) × (new ≡ p)
Enters Up page p new going =
    (going ≡ Went) × (new ≡ went_to page (holder p.folder) new.listing (last_of p.folder) p)
Enters Into page p new going = (going ≡ Went) × (new ≡ gone_to page new.folder new.listing p)

-- a folder at the end of a way is refused; a device may fail on the way, too
abbrev pub RefusesAtEnd : CallLog → Route → ResolveError → Type 0
RefusesAtEnd log folder Fault = ⊤
RefusesAtEnd log folder e = ListsFolder log folder (Err e)

-- the folder of a text is shown, or the text leads to none
abbrev pub ShowsResolved : CallLog → Result Route ResolveError → Result PanelState ResolveError → Type 0
ShowsResolved log (Ok folder) (Ok p) = ShowsFolder log folder (Ok p)
ShowsResolved log (Ok folder) (Err e) = RefusesAtEnd log folder e
ShowsResolved log (Err e) result = Answers (Err e) result

-- what Enter reads of the tree, and what that refuses; where it leads nowhere nothing is
-- read, and nothing refused
abbrev pub Reads : Way → CallLog → PanelState → Result PanelState ResolveError → Type 0
Reads Nowhere log p (Ok new) = ⊤
Reads Nowhere log p (Err e) = ⊥
Reads Up log p result = ShowsFolder log (holder p.folder) result
Reads Into log p result =
    ShowsResolved log (resolved_path (current log) FolderAlone p.folder (current_text p)) result

-- what going back makes of the panel, and going forward
abbrev pub GoesTo : List Route → (Route → PanelState) → PanelState → PanelState → Going → Type 0
GoesTo [] there p new going = (going ≡ NoFolder) × (new ≡ p)
GoesTo (folder ∷ folders) there p new going = (going ≡ Went) × (new ≡ there folder)

abbrev pub Turns : Turn → ℕ → PanelState → PanelState → Going → Type 0
Turns turn page p new =
    GoesTo (folders_on turn p.visits) (λ folder. turned_to turn page folder new.listing p) p new

-- the first of some folders is shown; where there is none nothing is read, and nothing refused
abbrev pub ShowsNext : CallLog → List Route → Result PanelState ResolveError → Type 0
ShowsNext log [] (Ok p) = ⊤
ShowsNext log [] (Err e) = ⊥
ShowsNext log (folder ∷ folders) result = ShowsFolder log folder result

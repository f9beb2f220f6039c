-- What a step of a search makes of the screen.
use Rattle.std.specs.Prelude.{ℕ, Bool, is_some, Option}
use Rattle.tree_trait.specs.Change.{CallLog}
use Rattle.ui_find.specs.FindScreens.{with_listing}
use Rattle.ui_find.specs.Listings.{ListingState, StepLeads, no_listing}
use Rattle.mc_ui.specs.Boxes.{Box, FindBox}
use Rattle.mc_ui.specs.Screens.{Screen}

-- the list of the found paths with its search; where no things are sought nothing is listed
abbrev pub list_in : Box → ListingState
list_in (FindBox find) = find.listing
list_in other = no_listing

-- another list in its place
abbrev pub listing_in : ListingState → Box → Box
listing_in listing (FindBox find) = FindBox (with_listing listing find)
listing_in listing other = other

abbrev pub with_list : ListingState → Screen → Screen
with_list listing before = record before { over = listing_in listing before.over }

-- a search goes on
abbrev pub is_seeking : Screen → Bool
is_seeking s = is_some (list_in s.over).search

-- a step is one of the search that goes on, if one does
abbrev pub SeekLeads : Option CallLog → ℕ → ℕ → Box → Box → Type 0
SeekLeads contents faults faults_after before after =
    StepLeads (list_in before).search contents faults faults_after (list_in before) (list_in after)

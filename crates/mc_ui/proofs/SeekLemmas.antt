-- Where no things are sought nothing is listed, and another list changes nothing.
use Rattle.std.proofs.Common.{◌≡◌, refl}
use Rattle.ui_find.specs.FindScreens.{FindScreen}
use Rattle.ui_find.specs.Listings.{ListingState, no_listing}
use Rattle.mc_ui.specs.declared.dialog.Dialog.{Dialog}
use Rattle.mc_ui.specs.declared.dialog.Dialog.TheVariants as box
use Rattle.mc_ui.specs.Boxes.{seen_box}
use Rattle.mc_ui.specs.Seekings.{list_in, listing_in}

pub none_listed : (dialog : Dialog) → ((find : FindScreen) → dialog ≡ box.Find find → ⊥) → list_in (seen_box dialog) ≡ no_listing
none_listed box.Nothing other = refl
none_listed (box.Job asks) other = refl
none_listed (box.Panel asks) other = refl
none_listed (box.Jobs list) other = refl
none_listed (box.Find find) other = absurd (other find refl)

pub stays_shut : (dialog : Dialog) (listing : ListingState) → ((find : FindScreen) → dialog ≡ box.Find find → ⊥)
    → listing_in listing (seen_box dialog) ≡ seen_box dialog
stays_shut box.Nothing listing other = refl
stays_shut (box.Job asks) listing other = refl
stays_shut (box.Panel asks) listing other = refl
stays_shut (box.Jobs list) listing other = refl
stays_shut (box.Find find) listing other = absurd (other find refl)

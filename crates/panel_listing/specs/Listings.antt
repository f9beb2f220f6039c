-- The listing of a folder (own, after mc(1), "Directory Panels").
use Rattle.std.specs.Prelude.{◌≡◌, ℕ, zero, suc, Bool, true, false, List, []}
use Rattle.std.specs.Prelude.{◌∷◌, ◌++◌, map, Option, Some, None, if◌then◌else◌}
use Rattle.mc_text.specs.Routes.{Route}
use Rattle.tree_trait.specs.declared.file_system.FileSystem.{FileSystem}
use Rattle.tree_trait.specs.Change.{found_node}
use Rattle.tree_trait.specs.Answers.{IsAscending, IsListing}
use Rattle.panel_listing.specs.Items.{child_item}
use Rattle.panel_listing.specs.declared.item.Item.{Item}

-- a listing: whether `..` is its first row, the items of the folder, those that are shown, and how many
-- things have names that are not UTF-8
pub record Listed : Type 0 where
  pub has_parent : Bool
  pub items : List Item
  pub shown : List Item
  pub unnamed : ℕ

-- nothing is listed, as of the root before it is read
abbrev pub nothing_listed : Listed
nothing_listed = record { has_parent = false; items = []; shown = []; unnamed = 0 }

-- a folder that isn't the root has one above it
abbrev pub has_parent : Route → Bool
has_parent [] = false
has_parent (name ∷ folder) = true

-- the listing is of this folder: its items are those of its children, in the order of their names
pub record IsListingOf (s : FileSystem) (folder : Route) (listing : Listed) : Type 0 where
  pub names : List (List ℕ)
  pub ascending : IsAscending names
  pub children : IsListing s (found_node s folder) (record { names = names; unnamed = listing.unnamed })
  pub items_are : listing.items ≡ map (child_item s folder) names
  pub parent : listing.has_parent ≡ has_parent folder

-- the rows of a listing, `..` being none of the items
abbrev pub rows_in : Listed → List (Option Item)
rows_in listing = (if listing.has_parent then None ∷ [] else []) ++ map Some listing.shown

-- which of the shown items a row has; that of `..` has none
abbrev pub place_of : Bool → ℕ → Option ℕ
place_of false row = Some row
place_of true zero = None
place_of true (suc place) = Some place

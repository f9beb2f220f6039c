-- Items by their numbers, and which of them a filter lets through.
use Rattle.std.specs.Prelude.{◌≡◌, ℕ, ◌<◌, All, Bool, if◌then◌else◌, List, [], ◌∷◌, map}
use Rattle.std.specs.Prelude.{length, slice_index_or, Option, Some, None, is_some, unwrap_or}
use Rattle.std.specs.Str.{bytes_eq}
use Rattle.std.specs.Ordering.{is_lt}
use Rattle.tree_trait.specs.Answers.{IsAscending}
use Rattle.panel_listing.specs.Items.{unseen_item}
use Rattle.panel_listing.specs.Orders.{item_cmp}
use Rattle.panel_listing.specs.declared.item.Item.{Item}
use Rattle.panel_listing.specs.declared.arranging.Numbered.{Numbered}
use Rattle.panel_listing.specs.declared.wish.Wish.{Wish}

abbrev pub names_of : List Item → List (List ℕ)
names_of items = map (λ item. item.name) items

-- the items with these numbers
abbrev pub items_at : List Item → List ℕ → List Item
items_at items numbers = map (λ number. slice_index_or items number (unseen_item [])) numbers

abbrev pub item_in : Numbered → Item
item_in row = row.item.now

-- by the order that is wished for, the item of a row comes before that of another
abbrev pub comes_before : Wish → Numbered → Numbered → Bool
comes_before wish mine theirs = is_lt (item_cmp wish mine.item.now theirs.item.now)

-- an item stands under its number
pub record IsNumberOf (items : List Item) (row : Numbered) : Type 0 where
  pub within : row.number < length items
  pub there : slice_index_or items row.number (unseen_item []) ≡ row.item.now

-- the items of a listing stand in the strict order of their names, and its numbers are those of items
pub record AreSound (items : List Item) (numbers : List ℕ) : Type 0 where
  pub ascending : IsAscending (names_of items)
  pub within : All (λ number. number < length items) numbers

-- what stands behind a name, where that is the first of some names
abbrev pub behind_name : List ℕ → List (List ℕ) → Option (List (List ℕ))
behind_name name [] = None
behind_name name (first ∷ more) = if bytes_eq first name then Some more else None

-- of names, those that stand next in a list of some of them
abbrev pub name_marks : List (List ℕ) → List (List ℕ) → List Bool
name_marks [] some = []
name_marks (name ∷ names) some =
    is_some (behind_name name some) ∷ name_marks names (unwrap_or (behind_name name some) some)

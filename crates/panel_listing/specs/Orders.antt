-- Which items of a folder a panel shows, and in which order (own, after mc(1), "Options",
-- "Directory Panels" and "Filter").
use Rattle.std.specs.Prelude.{ℕ, Bool, true, false, not, ◌||◌, ◌&&◌, ◌==◌, if◌then◌else◌}
use Rattle.std.specs.Prelude.{List, [], ◌∷◌, filter, Option, Some, None, unwrap_or}
use Rattle.std.specs.Option.{option_map_or}
use Rattle.std.specs.Ordering.{nat_cmp, int_cmp, ordering_then}
use Rattle.std.specs.declared.cmp.Ordering.{Ordering}
use Rattle.std.specs.declared.cmp.Ordering.TheVariants.{Equal}
use Rattle.std.specs.List.Sorted.{IsPermutation, IsStrictlySortedBy}
use Rattle.tree_trait.specs.Answers.{name_cmp}
use Rattle.tagging.specs.Patterns.{PatternText, is_found}
use Rattle.panel_listing.specs.Items.{leads_to_folder}
use Rattle.panel_listing.specs.declared.item.Item.{Item}
use Rattle.panel_listing.specs.declared.wish.Order.{Order}
use Rattle.panel_listing.specs.declared.wish.Order.TheVariants.{Name, Extension, Size, Time, Unsorted}
use Rattle.panel_listing.specs.declared.wish.Wish.{Wish}

-- a name that begins with a dot is hidden
abbrev pub is_hidden : List ℕ → Bool
is_hidden [] = false
is_hidden (first ∷ rest) = first == 46

-- the filter lets a name through
abbrev pub passes : Option PatternText → List ℕ → Bool
passes filter name = option_map_or (λ pattern. is_found pattern name) filter true

-- an item is shown whose name the filter lets through, or not: hidden ones where they are
-- wanted, folders in any case
abbrev pub shows : Wish → Item → Bool → Bool
shows wish item passes = (wish.hidden || not (is_hidden item.name)) && (leads_to_folder item || passes)

abbrev pub is_shown : Wish → Item → Bool
is_shown wish item = shows wish item (passes wish.filter item.name)

-- what stands behind the last dot of a text
abbrev pub or_else : Option (List ℕ) → Option (List ℕ) → Option (List ℕ)
or_else (Some text) other = Some text
or_else None other = other

abbrev pub behind_last_dot : List ℕ → Option (List ℕ)
behind_last_dot [] = None
behind_last_dot (byte ∷ rest) = or_else (behind_last_dot rest) (if byte == 46 then Some rest else None)

-- the extension of a name: what stands behind its last dot that isn't its first byte, or nothing
abbrev pub extension : List ℕ → List ℕ
extension [] = []
extension (first ∷ rest) = unwrap_or (behind_last_dot rest) []

-- How two items stand by what an order looks at. A tree gives the names of a folder in their own order, so
-- unsorted items stand by their names.
abbrev pub key_cmp : Order → Item → Item → Ordering
key_cmp Name a b = Equal
key_cmp Extension a b = name_cmp (extension a.name) (extension b.name)
key_cmp Size a b = nat_cmp a.size b.size
key_cmp Time a b = int_cmp a.mtime b.mtime
key_cmp Unsorted a b = Equal

-- items that tie stand by their names
abbrev pub order_cmp : Order → Item → Item → Ordering
order_cmp order a b = ordering_then (key_cmp order a b) (name_cmp a.name b.name)

-- folders come first
abbrev pub group : Item → ℕ
group item = if leads_to_folder item then 0 else 1

-- reverse turns the order within each group round
abbrev pub within_cmp : Wish → Item → Item → Ordering
within_cmp wish a b = if wish.reverse then order_cmp wish.order b a else order_cmp wish.order a b

-- how two items stand in a list
abbrev pub item_cmp : Wish → Item → Item → Ordering
item_cmp wish a b = ordering_then (nat_cmp (group a) (group b)) (within_cmp wish a b)

-- These are the shown ones of a folder's items, each as often as it is there, in the strict order that is
-- wished for: each comes before all that stand behind it, and no two tie.
pub record AreArranged (wish : Wish) (items shown : List Item) : Type 0 where
  pub kept : IsPermutation (filter (is_shown wish) items) shown
  pub ordered : IsStrictlySortedBy (item_cmp wish) shown

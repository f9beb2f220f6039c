-- Places in a hotlist: a position in the list, then one in that group, and so on, each counted from 0 (own).
use Rattle.std.specs.Prelude.{ℕ, zero, suc, ◌-◌, Bool, true, false, List, [], ◌∷◌}
use Rattle.std.specs.Prelude.{length, Option, Some, None, is_none, option_map}
use Rattle.hotlist.specs.declared.error.HotEditError.{HotEditError}
use Rattle.hotlist.specs.declared.error.HotEditError.TheVariants.{NoSuchGroup, TooDeep}
use Rattle.hotlist.specs.HotLists.{HotList, NoMore, AnEntry, AGroup, is_within}

-- the items from a position on
abbrev pub from_position : ℕ → HotList → HotList
from_position zero list = list
from_position (suc position) NoMore = NoMore
from_position (suc position) (AnEntry label path others) = from_position position others
from_position (suc position) (AGroup label items others) = from_position position others

-- the first item alone
abbrev pub first_of : HotList → Option HotList
first_of NoMore = None
first_of (AnEntry label path others) = Some (AnEntry label path NoMore)
first_of (AGroup label items others) = Some (AGroup label items NoMore)

-- the items of a group that stands first
abbrev pub inside : HotList → HotList
inside NoMore = NoMore
inside (AnEntry label path others) = NoMore
inside (AGroup label items others) = items

-- the items of the group at a place; the empty place names the list itself, and where no group stands
-- there are none
abbrev pub items_of_group : List ℕ → HotList → HotList
items_of_group [] list = list
items_of_group (position ∷ place) list = items_of_group place (inside (from_position position list))

-- the item at a place; the empty place names the list itself, which is no item
abbrev pub item_at : List ℕ → HotList → Option HotList
item_at [] list = None
item_at (position ∷ []) list = first_of (from_position position list)
item_at (position ∷ next ∷ place) list = item_at (next ∷ place) (inside (from_position position list))

-- a list before another
abbrev pub followed_by : HotList → HotList → HotList
followed_by NoMore second = second
followed_by (AnEntry label path others) second = AnEntry label path (followed_by others second)
followed_by (AGroup label items others) second = AGroup label items (followed_by others second)

-- the list with the items of the group at a position changed; nothing where no group stands
-- there, or it can't be changed
abbrev pub changed_at : ℕ → (HotList → Option HotList) → HotList → Option HotList
changed_at position change NoMore = None
changed_at zero change (AnEntry label path others) = None
changed_at zero change (AGroup label items others) =
    option_map (λ changed. AGroup label changed others) (change items)
changed_at (suc position) change (AnEntry label path others) =
    option_map (AnEntry label path) (changed_at position change others)
changed_at (suc position) change (AGroup label items others) =
    option_map (AGroup label items) (changed_at position change others)

-- the list with an item at the end of the group at a place; the empty place names the list itself
abbrev pub list_with_item : List ℕ → HotList → HotList → Option HotList
list_with_item [] item list = Some (followed_by list item)
list_with_item (position ∷ place) item list = changed_at position (list_with_item place item) list

-- why an item isn't added, by whether its group is missing and whether it nests to few enough levels
abbrev pub fault_of : (is_missing fits : Bool) → Option HotEditError
fault_of true fits = Some NoSuchGroup
fault_of false false = Some TooDeep
fault_of false true = None

-- why an item isn't added to the group at a place: none stands there, or else groups would
-- nest to more than 32 levels
abbrev pub add_fault : List ℕ → HotList → HotList → Option HotEditError
add_fault group item list =
    fault_of (is_none (list_with_item group item list)) (is_within (32 - length group) item)

-- the list without the item at a position
abbrev pub without_position : ℕ → HotList → Option HotList
without_position position NoMore = None
without_position zero (AnEntry label path others) = Some others
without_position zero (AGroup label items others) = Some others
without_position (suc position) (AnEntry label path others) =
    option_map (AnEntry label path) (without_position position others)
without_position (suc position) (AGroup label items others) =
    option_map (AGroup label items) (without_position position others)

-- the list without the item at a place
abbrev pub list_without_item : List ℕ → HotList → Option HotList
list_without_item [] list = None
list_without_item (position ∷ []) list = without_position position list
list_without_item (position ∷ next ∷ place) list = changed_at position (list_without_item (next ∷ place)) list

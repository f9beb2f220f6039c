-- The items of a hotlist (mc(1), "Hotlist"; the form of the file is own). A list is seen as its
-- first item before the others.
use Rattle.std.specs.Prelude.{ℕ, zero, suc, Bool, true, false, ◌&&◌, List, [], ◌∷◌, map, Option, Some, None}
use Rattle.text_scan.specs.Lines.{IsWithout}
use Rattle.hotlist.specs.declared.items.HotItem.{HotItem}
use Rattle.hotlist.specs.declared.items.HotItem.TheOpen.{HotItem-F, Entry, Group}
use Rattle.hotlist.specs.declared.items.HotItem.TheFolds.{fold-HotItem}

-- an end, an entry before the others, or a group with its own list before the others
pub data HotList : Type 0 where
  NoMore : HotList
  AnEntry : (label path : List ℕ) (others : HotList) → HotList
  AGroup : (label : List ℕ) (items others : HotList) → HotList

-- items in a row, each given by the list that it makes of the others
abbrev pub in_row : List (HotList → HotList) → HotList
in_row [] = NoMore
in_row (item ∷ items) = item (in_row items)

-- one item before others, with what its group holds in a row
abbrev pub layer_before : HotItem-F (HotList → HotList) → HotList → HotList
layer_before (Entry label path) others = AnEntry label path others
layer_before (Group label items) others = AGroup label (in_row items.items) others

-- an item before others
abbrev pub before : HotItem → HotList → HotList
before = fold-HotItem (HotList → HotList) layer_before

-- the list of these items
abbrev pub list_of : List HotItem → HotList
list_of items = in_row (map before items)

-- groups are nested to at most so many
abbrev pub is_within : ℕ → HotList → Bool
is_within room NoMore = true
is_within room (AnEntry label path others) = is_within room others
is_within zero (AGroup label items others) = false
is_within (suc room) (AGroup label items others) = is_within room items && is_within (suc room) others

-- no label and no path holds a newline
abbrev pub AreOneLine : HotList → Type 0
AreOneLine NoMore = Unit {0}
AreOneLine (AnEntry label path others) = IsWithout 10 label × IsWithout 10 path × AreOneLine others
AreOneLine (AGroup label items others) = IsWithout 10 label × AreOneLine items × AreOneLine others

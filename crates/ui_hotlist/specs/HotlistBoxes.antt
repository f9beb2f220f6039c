-- The box of the hotlist: which items it shows, where its cursor stands, and what a key comes to. Own, after
-- the hotlist of mc(1).
use Rattle.std.specs.Prelude.{ℕ, ◌-◌, min, List, [], ◌∷◌, ◌++◌, length, Option, Some, None}
use Rattle.hotlist.specs.HotLists.{HotList, NoMore, AnEntry, AGroup}
use Rattle.hotlist.specs.ListViews.{list_in}
use Rattle.hotlist.specs.Places.{from_position, items_of_group, list_without_item}
use Rattle.key_screen.specs.declared.keys.Base.{Base}
use Rattle.key_screen.specs.declared.keys.Key.{Key}
use Rattle.mc_dialogs.specs.ListKeys.{moved_to, scrolled_to}
use Rattle.ui_hotlist.specs.declared.act.HotlistAct.{HotlistAct}
use Rattle.ui_hotlist.specs.declared.act.HotlistAct.TheVariants.{Stays, Leaves, Goes, Saves, Refused}
use Rattle.ui_hotlist.specs.declared.act.HotlistRefusal.TheVariants.{TooLarge}
use Rattle.ui_hotlist.specs.declared.command.HotlistCommand.{HotlistCommand}
use Rattle.ui_hotlist.specs.declared.command.HotlistCommand.TheVariants.{Move, Choose, Remove, Leave, Nothing}
use Rattle.ui_hotlist.specs.declared.entering.UnderCursor.{UnderCursor}
use Rattle.ui_hotlist.specs.declared.entering.UnderCursor.TheVariants as found
use Rattle.ui_hotlist.specs.declared.hotlist_box.Cursor.{Cursor}
use Rattle.ui_hotlist.specs.declared.hotlist_box.HotlistBox.{HotlistBox}
use Rattle.ui_hotlist.specs.HotlistFiles.{file_of}
use Rattle.ui_hotlist.specs.HotlistKeys.{hotlist_command}
use Rattle.ui_hotlist.specs.HotlistRows.{labels}

-- the lines of the screen, the list, the place of the group whose items are shown, and the cursor among them
pub record HotlistState : Type 0 where
  pub lines : ℕ
  pub list : HotList
  pub group : List ℕ
  pub cursor : Cursor

-- what a box is seen as
abbrev pub seen : HotlistBox → HotlistState
seen box = record { lines = box.lines; list = list_in box.list; group = box.group.items; cursor = box.cursor }

-- the cursor on the first item
abbrev pub at_top : Cursor
at_top = record { current = 0; first = 0 }

-- a list as its box opens on a screen of so many lines
abbrev pub opened_hotlist : ℕ → HotList → HotlistState
opened_hotlist lines list = record { lines = lines; list = list; group = []; cursor = at_top }

-- how many items it shows at most
abbrev pub page_of : HotlistState → ℕ
page_of s = s.lines - 6

-- the items that it shows: those of one group, or of the list itself
abbrev pub items_shown : HotlistState → HotList
items_shown s = items_of_group s.group s.list

abbrev pub shown_count : HotlistState → ℕ
shown_count s = length (labels (items_shown s))

-- the cursor over so many items: neither the current one nor the first one shown lies behind the last
abbrev pub cut_to : ℕ → Cursor → Cursor
cut_to count c = record { current = min c.current (count - 1); first = min c.first (count - 1) }

-- MOVES

-- another item is current, of so many, on a page of so many
abbrev pub moved_by : ℕ → ℕ → Base → Cursor → Cursor
moved_by count page base c =
    let current = moved_to count page (cut_to count c).current base in
    record { current = current; first = scrolled_to page (cut_to count c).first current }

abbrev pub with_cursor : Cursor → HotlistState → HotlistState
with_cursor cursor s = record { lines = s.lines; list = s.list; group = s.group; cursor = cursor }

-- ENTER

-- the position of the current item
abbrev pub current_of : HotlistState → ℕ
current_of s = (cut_to (shown_count s) s.cursor).current

-- the items from the current one on
abbrev pub here : HotlistState → HotList
here s = from_position (current_of s) (items_shown s)

-- what stands first of some items
abbrev pub found_first : HotList → UnderCursor
found_first NoMore = found.Nothing
found_first (AnEntry label path others) = found.Entry path
found_first (AGroup label items others) = found.Group

-- an entry leads to its path, a group opens, and where nothing stands the list is shut
abbrev pub entered_act : HotList → HotlistAct
entered_act NoMore = Leaves
entered_act (AnEntry label path others) = Goes path
entered_act (AGroup label items others) = Stays

-- the items of the current group are shown
abbrev pub in_group : HotlistState → HotlistState
in_group s =
    record { lines = s.lines; list = s.list; group = s.group ++ current_of s ∷ []; cursor = at_top }

abbrev pub entered : HotList → HotlistState → HotlistState
entered NoMore s = s
entered (AnEntry label path others) s = s
entered (AGroup label items others) s = in_group s

-- DELETE

-- the list without the current item, where there is one
abbrev pub rest_of : HotlistState → Option HotList
rest_of s = list_without_item (s.group ++ current_of s ∷ []) s.list

-- its file is to be saved, if it isn't too large
abbrev pub file_act : Option (List ℕ) → HotlistAct
file_act None = Refused TooLarge
file_act (Some bytes) = Saves bytes

abbrev pub saved_act : HotList → HotlistAct
saved_act list = file_act (file_of list)

abbrev pub with_file : Option (List ℕ) → HotList → HotlistState → HotlistState
with_file None list s = s
with_file (Some bytes) list s =
    record { lines = s.lines; list = list; group = s.group; cursor = s.cursor }

abbrev pub with_saved : HotList → HotlistState → HotlistState
with_saved list s = with_file (file_of list) list s

abbrev pub removal_act : Option HotList → HotlistAct
removal_act None = Stays
removal_act (Some list) = saved_act list

abbrev pub with_rest : Option HotList → HotlistState → HotlistState
with_rest None s = s
with_rest (Some list) s = with_saved list s

-- KEYS

-- what a command comes to, and how it leaves the box
abbrev pub act_of : HotlistCommand → HotlistState → HotlistAct
act_of (Move base) s = Stays
act_of Choose s = entered_act (here s)
act_of Remove s = removal_act (rest_of s)
act_of Leave s = Leaves
act_of Nothing s = Stays

abbrev pub state_of : HotlistCommand → HotlistState → HotlistState
state_of (Move base) s = with_cursor (moved_by (shown_count s) (page_of s) base s.cursor) s
state_of Choose s = entered (here s) s
state_of Remove s = with_rest (rest_of s) s
state_of Leave s = s
state_of Nothing s = s

-- what a key comes to, and how it leaves the box
abbrev pub act_by : HotlistState → Key → HotlistAct
act_by s key = act_of (hotlist_command key) s

abbrev pub state_by : HotlistState → Key → HotlistState
state_by s key = state_of (hotlist_command key) s

-- The file of a hotlist that is to be saved, and a folder that is added (mc(1), "Hotlist"; the bounds
-- are own).
use Rattle.std.specs.Prelude.{ℕ, ⊤, ◌==◌, nat_le, if◌then◌else◌, List, length, Option, Some, None}
use Rattle.std.specs.List.{list_any}
use Rattle.mc_text.specs.Routes.{Route, path_text}
use Rattle.hotlist.specs.HotFiles.{IsHotlist}
use Rattle.hotlist.specs.HotLists.{HotList, NoMore, AnEntry}
use Rattle.hotlist.specs.Places.{followed_by}
use Rattle.hotlist.specs.Printed.{printed_list}
use Rattle.ui_hotlist.specs.declared.act.Addition.{Addition}
use Rattle.ui_hotlist.specs.declared.act.Addition.TheVariants.{Saves, Refused}
use Rattle.ui_hotlist.specs.declared.act.HotlistRefusal.TheVariants.{BadName, TooLarge}

-- the printed list, where it has no more bytes than are read of a file: 1,048,576
abbrev pub file_of : HotList → Option (List ℕ)
file_of list =
    if nat_le (length (printed_list 0 list)) 1048576 then Some (printed_list 0 list) else None

-- the list with an entry at its end, whose label and path are the same text
abbrev pub with_entry : List ℕ → HotList → HotList
with_entry text list = followed_by list (AnEntry text text NoMore)

abbrev pub with_folder : Route → HotList → HotList
with_folder folder list = with_entry (path_text folder) list

abbrev pub saved_addition : Option (List ℕ) → Addition
saved_addition None = Refused TooLarge
saved_addition (Some bytes) = Saves bytes

-- a folder is added, unless a newline (the byte 10) stands in its path, or the file would be too large
abbrev pub addition_of : Route → HotList → Addition
addition_of folder list =
    if list_any (λ byte. byte == 10) (path_text folder) then Refused BadName
    else saved_addition (file_of (with_folder folder list))

-- what is to be saved is read as this list
abbrev pub IsReadBack : Addition → HotList → Type 0
IsReadBack (Saves bytes) list = IsHotlist bytes list
IsReadBack (Refused why) list = ⊤

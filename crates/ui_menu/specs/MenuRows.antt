-- The rows of the menu's box, and the one on which it opens (mc(1), "Menu File Edit").
use Rattle.std.specs.Prelude.{ℕ, zero, suc, ◌+◌, ◌==◌, true, if◌then◌else◌}
use Rattle.std.specs.Prelude.{List, [], ◌∷◌, Option, Some, None, codes, slice_get}
use Rattle.std.specs.Option.{option_map}
use Rattle.key_screen.specs.declared.keys.Base.TheVariants.{Down}
use Rattle.mc_dialogs.specs.ListKeys.{ListState, list_moved}
use Rattle.user_menu.specs.Menus.{MenuEntry, command_text}

abbrev pub listed : Option (List ℕ) → List (List ℕ)
listed None = []
listed (Some text) = text ∷ []

-- the title of the entry at a place, and its command
abbrev pub title_at : List MenuEntry → ℕ → List (List ℕ)
title_at menu place = listed (option_map (λ entry. entry.title) (slice_get menu place))

abbrev pub command_at : List MenuEntry → ℕ → List (List ℕ)
command_at menu place = listed (option_map command_text (slice_get menu place))

-- how many places stand before this one
abbrev pub rows_before : ℕ → List ℕ → ℕ
rows_before place [] = 0
rows_before place (first ∷ more) = if first == place then 0 else 1 + rows_before place more

-- the row of the default entry, or else the first one
abbrev pub default_row : Option ℕ → List ℕ → ℕ
default_row None places = 0
default_row (Some place) places = rows_before place places

-- a list after so many keys that move down
abbrev pub moved_down : ℕ → ListState → ListState
moved_down zero list = list
moved_down (suc count) list = list_moved (moved_down count list) Down

-- the box of these rows, in which letters choose too, opened on its first row
abbrev pub opened_list : List (List ℕ) → ℕ → ListState
opened_list rows lines =
    record { title = codes "Menu"; rows = rows; lines = lines; by_letter = true; current = 0; first = 0 }

-- the same, moved down to a row
abbrev pub list_at : ℕ → List (List ℕ) → ℕ → ListState
list_at row rows lines = moved_down row (opened_list rows lines)

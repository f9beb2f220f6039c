-- Entries as far as a file is read: the last of them may have more command lines yet.
use Rattle.std.specs.Prelude.{ℕ, Bool, true, false, List, [], ◌∷◌, ◌++◌, Option}
use Rattle.user_menu.specs.Menus.{MenuEntry, with_line}
use Rattle.user_menu.specs.MenuFiles.{conditions_ahead, commands_ahead, entries_behind}
use Rattle.user_menu.specs.declared.file.Draft.{Draft}
use Rattle.user_menu.specs.declared.line.LineRead.{LineRead}

abbrev pub is_some_entry : List MenuEntry → Bool
is_some_entry [] = false
is_some_entry (entry ∷ entries) = true

-- there is an entry already
abbrev pub has_entry : Draft → Bool
has_entry draft = is_some_entry draft.entries.items

-- command lines with more behind them
abbrev pub with_lines : Option (List ℕ) → List (List ℕ) → Option (List ℕ)
with_lines commands [] = commands
with_lines commands (line ∷ lines) = with_lines (with_line commands line) lines

-- more command lines at the last of some entries
abbrev pub extended_entries : List MenuEntry → List (List ℕ) → List MenuEntry
extended_entries [] more = []
extended_entries (entry ∷ []) more =
    record {
      conditions = entry.conditions;
      title = entry.title;
      commands = with_lines entry.commands more;
    } ∷ []
extended_entries (entry ∷ next ∷ entries) more = entry ∷ extended_entries (next ∷ entries) more

-- the entries so far, with what other lines say behind them
abbrev pub continued_entries : Draft → List LineRead → List MenuEntry
continued_entries draft lines =
    extended_entries draft.entries.items (commands_ahead lines)
    ++ entries_behind (draft.waiting.items ++ conditions_ahead lines) lines

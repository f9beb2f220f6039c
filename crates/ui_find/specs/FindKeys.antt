-- The keys of the list of found paths: those of a list box (after the listboxes of mc(1)), and C-c,
-- which stops the search. Own.
use Rattle.std.specs.Prelude.{ℕ, false, ◌==◌, if◌then◌else◌}
use Rattle.key_screen.specs.declared.keys.Key.{Key}
use Rattle.key_screen.specs.declared.keys.Base.{Base}
use Rattle.key_screen.specs.declared.keys.Base.TheVariants as key
use Rattle.ui_find.specs.declared.command.FindCommand.{FindCommand}
use Rattle.ui_find.specs.declared.command.FindCommand.TheVariants.{Move, Choose, Stop, Leave, Nothing}

-- what a function key does
abbrev pub function_command : ℕ → FindCommand
function_command number = if number == 10 then Leave else Nothing

-- the key that stops the search: C-c
abbrev pub stop_key : Key
stop_key = record { meta = false; base = key.Ctrl 99 }

-- what control with a letter does: with `c` it stops the search
abbrev pub control_command : ℕ → FindCommand
control_command letter = if letter == 99 then Stop else Nothing

-- what a key without meta does
abbrev pub base_command : Base → FindCommand
base_command key.Up = Move key.Up
base_command key.Down = Move key.Down
base_command key.PgUp = Move key.PgUp
base_command key.PgDn = Move key.PgDn
base_command key.Home = Move key.Home
base_command key.End = Move key.End
base_command key.Enter = Choose
base_command key.Escape = Leave
base_command (key.F number) = function_command number
base_command (key.Ctrl letter) = control_command letter
base_command other = Nothing

-- what a key does; one with meta does nothing
abbrev pub find_command : Key → FindCommand
find_command key = if key.meta then Nothing else base_command key.base

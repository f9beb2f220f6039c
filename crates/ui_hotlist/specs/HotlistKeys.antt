-- The keys of the box of the hotlist: those of a list box (after the listboxes of mc(1)), and Delete. Own.
use Rattle.std.specs.Prelude.{ℕ, ◌==◌, if◌then◌else◌}
use Rattle.key_screen.specs.declared.keys.Key.{Key}
use Rattle.key_screen.specs.declared.keys.Base.{Base}
use Rattle.key_screen.specs.declared.keys.Base.TheVariants as key
use Rattle.ui_hotlist.specs.declared.command.HotlistCommand.{HotlistCommand}
use Rattle.ui_hotlist.specs.declared.command.HotlistCommand.TheVariants.{Move, Choose, Remove, Leave, Nothing}

-- what a function key does
abbrev pub function_command : ℕ → HotlistCommand
function_command number = if number == 10 then Leave else Nothing

-- what a key without meta does
abbrev pub base_command : Base → HotlistCommand
base_command key.Up = Move key.Up
base_command key.Down = Move key.Down
base_command key.PgUp = Move key.PgUp
base_command key.PgDn = Move key.PgDn
base_command key.Home = Move key.Home
base_command key.End = Move key.End
base_command key.Enter = Choose
base_command key.Delete = Remove
base_command key.Escape = Leave
base_command (key.F number) = function_command number
base_command other = Nothing

-- what a key does; one with meta does nothing
abbrev pub hotlist_command : Key → HotlistCommand
hotlist_command key = if key.meta then Nothing else base_command key.base

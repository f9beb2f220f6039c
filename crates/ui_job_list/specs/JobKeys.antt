-- The keys of the list of jobs: those of a list box (after the listboxes of mc(1)). Own.
use Rattle.std.specs.Prelude.{ℕ, ◌==◌, if◌then◌else◌}
use Rattle.key_screen.specs.declared.keys.Key.{Key}
use Rattle.key_screen.specs.declared.keys.Base.{Base}
use Rattle.key_screen.specs.declared.keys.Base.TheVariants as key
use Rattle.ui_job_list.specs.declared.command.JobsCommand.{JobsCommand}
use Rattle.ui_job_list.specs.declared.command.JobsCommand.TheVariants.{Move, Open, Leave, Nothing}

-- what a function key does
abbrev pub function_command : ℕ → JobsCommand
function_command number = if number == 10 then Leave else Nothing

-- what a key without meta does
abbrev pub base_command : Base → JobsCommand
base_command key.Up = Move key.Up
base_command key.Down = Move key.Down
base_command key.PgUp = Move key.PgUp
base_command key.PgDn = Move key.PgDn
base_command key.Home = Move key.Home
base_command key.End = Move key.End
base_command key.Enter = Open
base_command key.Escape = Leave
base_command (key.F number) = function_command number
base_command other = Nothing

-- what a key does; one with meta does nothing
abbrev pub jobs_command : Key → JobsCommand
jobs_command key = if key.meta then Nothing else base_command key.base

-- The keys of the viewer, while no line asks over it (mc(1), "Internal File Viewer"; the function keys are
-- those of its bottom line).
use Rattle.std.specs.Prelude.{ℕ, ◌==◌, if◌then◌else◌}
use Rattle.key_screen.specs.declared.keys.Key.{Key}
use Rattle.key_screen.specs.declared.keys.Base.{Base}
use Rattle.key_screen.specs.declared.keys.Base.TheVariants as key
use Rattle.mc_viewer.specs.declared.state.ViewStep.TheVariants as step
use Rattle.ui_viewer.specs.declared.asking.Question.TheVariants.{PlainText, Expression}
use Rattle.ui_viewer.specs.declared.command.ViewerCommand.{ViewerCommand}
use Rattle.ui_viewer.specs.declared.command.ViewerCommand.TheVariants.{Step, AskPlace, Ask}
use Rattle.ui_viewer.specs.declared.command.ViewerCommand.TheVariants.{SearchNext, Leave, Nothing}

-- what a function key does
abbrev pub function_command : ℕ → ViewerCommand
function_command number =
    if number == 2 then Step step.Wrap
    else if number == 3 then Leave
    else if number == 4 then Step step.Hex
    else if number == 5 then AskPlace
    else if number == 7 then Ask PlainText
    else if number == 10 then Leave
    else Nothing

-- what a character does: a blank and `b` go by pages, `/` asks for a regular expression, `n`
-- searches once more, `q` leaves
abbrev pub character_command : ℕ → ViewerCommand
character_command character =
    if character == 32 then Step step.PageDown
    else if character == 47 then Ask Expression
    else if character == 98 then Step step.PageUp
    else if character == 110 then SearchNext
    else if character == 113 then Leave
    else Nothing

-- what a key without meta does
abbrev pub base_command : Base → ViewerCommand
base_command key.Up = Step step.Up
base_command key.Down = Step step.Down
base_command key.PgUp = Step step.PageUp
base_command key.PgDn = Step step.PageDown
base_command key.Home = Step step.Home
base_command key.End = Step step.End
base_command key.Left = Step step.Left
base_command key.Right = Step step.Right
base_command key.Escape = Leave
base_command (key.F number) = function_command number
base_command (key.Char character) = character_command character
base_command other = Nothing

-- what a key does; one with meta does nothing
abbrev pub viewer_command : Key → ViewerCommand
viewer_command key = if key.meta then Nothing else base_command key.base

-- What the user's menu shows: the list, or the line that asks a prompt. Own.
use Rattle.key_screen.specs.Grids.{CellGrid}
use Rattle.mc_dialogs.specs.Boxes.{with_box}
use Rattle.mc_dialogs.specs.InputField.{with_input}
use Rattle.mc_dialogs.specs.ListKeys.{ListState, list_lines}
use Rattle.ui_menu.specs.declared.stage.Stage.{Stage}
use Rattle.ui_menu.specs.declared.stage.Stage.TheVariants.{Choosing, Prompting, Ended}
use Rattle.ui_menu.specs.MenuStates.{MenuScreen}

-- over a screen, by what the menu is at
abbrev pub with_stage_of : Stage → ListState → CellGrid → CellGrid
with_stage_of Choosing list grid = with_box grid (list_lines list)
with_stage_of (Prompting prompts) list grid = with_input grid prompts.line
with_stage_of Ended list grid = grid

abbrev pub with_menu : MenuScreen → CellGrid → CellGrid
with_menu m grid = with_stage_of m.stage m.list grid

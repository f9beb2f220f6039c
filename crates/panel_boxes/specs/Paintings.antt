-- How the boxes of the panels are painted over a screen.
use Rattle.key_screen.specs.Grids.{CellGrid}
use Rattle.mc_dialogs.specs.Boxes.{with_box}
use Rattle.mc_dialogs.specs.InputField.{with_input}
use Rattle.mc_dialogs.specs.ListKeys.{list_lines}
use Rattle.panel_boxes.specs.declared.panel_box.PanelBox.{PanelBox}
use Rattle.panel_boxes.specs.declared.panel_box.PanelBox.TheVariants.{Pending, Typed, Options}

-- a line in its box, the rows of the list; nothing is to be seen of C-x
abbrev pub with_panel_box : PanelBox → CellGrid → CellGrid
with_panel_box Pending grid = grid
with_panel_box (Typed asked line) grid = with_input grid line
with_panel_box (Options list) grid = with_box grid (list_lines list)

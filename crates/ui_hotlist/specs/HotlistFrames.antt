-- What the box of the hotlist shows. Own.
use Rattle.std.specs.Prelude.{List, take, drop, codes}
use Rattle.key_screen.specs.Grids.{CellGrid}
use Rattle.mc_dialogs.specs.declared.frame.Line.{Line}
use Rattle.mc_dialogs.specs.Boxes.{with_box}
use Rattle.mc_dialogs.specs.ListKeys.{titled_rows}
use Rattle.ui_hotlist.specs.declared.hotlist_box.Cursor.{Cursor}
use Rattle.ui_hotlist.specs.HotlistBoxes.{HotlistState, cut_to, items_shown, page_of, shown_count}
use Rattle.ui_hotlist.specs.HotlistRows.{labels}

-- the title, and so many labels from the first one shown on, the current one in reverse
abbrev pub lines_from : HotlistState → Cursor → List Line
lines_from s c =
    titled_rows (codes "Hotlist") c.first c.current
    (take (page_of s) (drop c.first (labels (items_shown s))))

abbrev pub hotlist_lines : HotlistState → List Line
hotlist_lines s = lines_from s (cut_to (shown_count s) s.cursor)

-- over a screen
abbrev pub with_hotlist : HotlistState → CellGrid → CellGrid
with_hotlist s grid = with_box grid (hotlist_lines s)

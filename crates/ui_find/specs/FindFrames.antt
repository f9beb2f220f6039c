-- What is painted over a screen while things are sought: the line that asks, or the list
-- of the found paths. Own.
use Rattle.std.specs.Prelude.{ℕ, Bool, true, false, ◌==◌, if◌then◌else◌, List, [], ◌++◌, length}
use Rattle.std.specs.Prelude.{map, take, drop, Option, Some, None, is_some, codes}
use Rattle.std.specs.Fmt.{decimal}
use Rattle.key_screen.specs.Grids.{CellGrid}
use Rattle.mc_dialogs.specs.declared.frame.Line.{Line}
use Rattle.mc_dialogs.specs.Boxes.{columns_inside, with_box}
use Rattle.mc_dialogs.specs.InputField.{with_input}
use Rattle.mc_dialogs.specs.ListKeys.{titled_rows}
use Rattle.ui_words.specs.PathLines.{path_line}
use Rattle.ui_find.specs.declared.asking.Asking.{Asking}
use Rattle.ui_find.specs.Tellings.{FindingsState}
use Rattle.ui_find.specs.Listings.{ListingState}
use Rattle.ui_find.specs.FindScreens.{FindScreen, page_of}

-- a `+` behind the number of paths, where there are more
abbrev pub more_mark : Bool → List ℕ
more_mark has_more = if has_more then codes "+" else []

-- how many were skipped, where any were
abbrev pub skipped_words : ℕ → List ℕ
skipped_words skipped = if skipped == 0 then [] else codes ", skipped " ++ decimal skipped

-- what was found so far
abbrev pub found_title : FindingsState → List ℕ
found_title f =
    ((codes "Found " ++ decimal (length f.found)) ++ more_mark f.has_more) ++ skipped_words f.skipped

-- behind that: which key stops the search, while it goes on, or that it was stopped
abbrev pub course_words : Bool → Bool → List ℕ
course_words true stopped = codes ", C-c stops"
course_words false true = codes ", stopped"
course_words false false = []

-- the title of the list
abbrev pub list_title : ListingState → List ℕ
list_title l = found_title l.findings ++ course_words (is_some l.search) l.stopped

-- its lines, of so many columns: the title, and so many paths from the first one shown on, the current one in
-- reverse
abbrev pub found_lines : ℕ → ℕ → ListingState → List Line
found_lines columns page l = titled_rows (list_title l) l.first l.current
    (map (path_line columns) (take page (drop l.first l.findings.found)))

-- over a screen
abbrev pub painted_search : Option Asking → ℕ → ListingState → CellGrid → CellGrid
painted_search None page listing grid =
    with_box grid (found_lines (columns_inside grid.columns) page listing)
painted_search (Some asking) page listing grid = with_input grid asking.line

abbrev pub with_find : FindScreen → CellGrid → CellGrid
with_find s grid = painted_search s.asking (page_of s.lines) s.listing grid

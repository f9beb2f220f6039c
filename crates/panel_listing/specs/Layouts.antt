-- How wide the columns of a format are, and a text in exactly so many columns (own, after mc(1),
-- "Listing format": user).
use Rattle.std.specs.Prelude.{ℕ, ◌+◌, ◌-◌, ◌/◌, ◌%◌, true, max, nat_lt, if◌then◌else◌}
use Rattle.std.specs.Prelude.{List, [], ◌∷◌, ◌++◌, Option, Some, None, unwrap_or, is_none}
use Rattle.std.specs.List.{concat, sum_by}
use Rattle.unicode_segmentation.specs.Grapheme.{graphemes}
use Rattle.mc_text.specs.Fit.{cluster_columns, run_within, blanks}
use Rattle.panel_listing.specs.declared.format.Field.{Field}
use Rattle.panel_listing.specs.declared.format.Field.TheVariants.{Name, Size, FileSize, TypeLetter}
use Rattle.panel_listing.specs.declared.format.Field.TheVariants.{Mtime, Permissions, Mark, Space, Bar}
use Rattle.panel_listing.specs.declared.format.Column.{Column}
use Rattle.panel_listing.specs.declared.layout.Cell.{Cell}

-- the width of a field that tells none; a name takes what is left
abbrev pub usual_width : Field → Option ℕ
usual_width Name = None
usual_width Size = Some 7
usual_width FileSize = Some 7
usual_width TypeLetter = Some 1
usual_width Mtime = Some 12
usual_width Permissions = Some 10
usual_width Mark = Some 1
usual_width Space = Some 1
usual_width Bar = Some 1

abbrev pub told_or : Option ℕ → Option ℕ → Option ℕ
told_or (Some width) usual = Some width
told_or None usual = usual

abbrev pub width_of : Column → Option ℕ
width_of column = told_or column.width (usual_width column.field)

-- what the columns take that have a width, and how many have none
abbrev pub taken_columns : List Column → ℕ
taken_columns [] = 0
taken_columns (column ∷ columns) = unwrap_or (width_of column) 0 + taken_columns columns

abbrev pub open_ones : List Column → ℕ
open_ones [] = 0
open_ones (column ∷ columns) = (if is_none (width_of column) then 1 else 0) + open_ones columns

-- the part of one of those that share what is left: earlier ones get one more where it doesn't
-- divide, each gets at least 1
abbrev pub share : ℕ → ℕ → ℕ → ℕ
share left count place = max 1 (left / count + (if nat_lt place (left % count) then 1 else 0))

-- a column where so many share what is left, and so many of these stand before it; and the
-- number of these behind it
abbrev pub cell_at : ℕ → ℕ → ℕ → Field → Option ℕ → Cell
cell_at left count place field (Some width) = record { field = field; width = width }
cell_at left count place field None = record { field = field; width = share left count place }

abbrev pub place_after : ℕ → Option ℕ → ℕ
place_after place (Some width) = place
place_after place None = place + 1

abbrev pub cells_from : ℕ → ℕ → ℕ → List Column → List Cell
cells_from left count place [] = []
cells_from left count place (column ∷ columns) =
    cell_at left count place column.field (width_of column)
    ∷ cells_from left count (place_after place (width_of column)) columns

-- the columns of a row that is so wide, each with its width
unfoldable pub cells_in : ℕ → List Column → List Cell
cells_in row columns = cells_from (row - taken_columns columns) (open_ones columns) 0 columns

-- a text in exactly so many columns: cut between clusters, or filled with blanks
abbrev pub run_then_blanks : List (List ℕ) → ℕ → List ℕ
run_then_blanks run columns = concat run ++ blanks (columns - sum_by cluster_columns run)

unfoldable pub clipped_text : List ℕ → ℕ → List ℕ
clipped_text text columns = run_then_blanks (run_within columns (graphemes true text)) columns

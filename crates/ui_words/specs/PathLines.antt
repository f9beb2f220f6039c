-- A path in a line of a box: where it is wider its front is cut off, so that two things deep in one folder
-- differ. Own.
use Rattle.std.specs.Prelude.{ℕ, ◌-◌, true, nat_le, if◌then◌else◌, List, [], ◌∷◌}
use Rattle.std.specs.List.{concat, sum_by}
use Rattle.unicode_segmentation.specs.Grapheme.{graphemes}
use Rattle.mc_text.specs.Drawn.{drawn_text}
use Rattle.mc_text.specs.Fit.{cluster_columns, columns_in}
use Rattle.mc_text.specs.Routes.{Route, path_text}

-- the longest end of some clusters that takes at most so many columns
abbrev pub end_within : ℕ → List (List ℕ) → List (List ℕ)
end_within room [] = []
end_within room (cluster ∷ rest) =
    if nat_le (sum_by cluster_columns (cluster ∷ rest)) room then cluster ∷ rest else end_within room rest

-- a text that has room in so many columns, or `~` and as much of the end of what is drawn of it as has
unfoldable pub cut_in_front : ℕ → List ℕ → List ℕ
cut_in_front columns text =
    if nat_le (columns_in (drawn_text text)) columns then text
    else 126 ∷ concat (end_within (columns - 1) (graphemes true (drawn_text text)))

-- the line of a path
abbrev pub path_line : ℕ → Route → List ℕ
path_line columns path = cut_in_front columns (path_text path)

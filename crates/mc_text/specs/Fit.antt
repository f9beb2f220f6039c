-- A text in a number of columns (own). Clusters are the extended grapheme clusters of UAX #29, and the
-- columns of one are those that UAX #11 gives its text.
use Rattle.std.specs.Prelude.{◌≡◌, ℕ, ◌+◌, ◌-◌, ◌<◌, ◌≤◌, nat_le, nat_eq, List, [], ◌∷◌}
use Rattle.std.specs.Prelude.{◌++◌, length, take, replicate, true, false, if◌then◌else◌}
use Rattle.std.specs.List.{concat, sum_by}
use Rattle.std.specs.Str.{chars}
use Rattle.unicode_width.specs.Width.{str_width}
use Rattle.unicode_segmentation.specs.Grapheme.{graphemes}

-- the columns of a cluster, which is given by its bytes
unfoldable pub cluster_columns : List ℕ → ℕ
cluster_columns cluster = str_width false (chars cluster)

-- the columns of a text, the sum of its clusters' columns
abbrev pub columns_in : List ℕ → ℕ
columns_in text = sum_by cluster_columns (graphemes true text)

-- clusters from the start, as long as their columns add to at most `room`
abbrev pub run_within : ℕ → List (List ℕ) → List (List ℕ)
run_within room [] = []
run_within room (cluster ∷ rest) =
    if nat_le (cluster_columns cluster) room
    then cluster ∷ run_within (room - cluster_columns cluster) rest else []

-- a run from the start that fits the room, where no longer one does
pub record IsLongestRun (room : ℕ) (clusters run : List (List ℕ)) : Type 0 where
  pub front : run ≡ take (length run) clusters
  pub fits : sum_by cluster_columns run ≤ room
  pub longest : (k : ℕ) → length run < k → k ≤ length clusters
      → room < sum_by cluster_columns (take k clusters)

-- so many blanks
abbrev pub blanks : ℕ → List ℕ
blanks n = replicate n 32

-- a run, `~` and blanks, which take so many columns
abbrev pub cut_short : List (List ℕ) → ℕ → List ℕ
cut_short run columns = concat run ++ 126 ∷ blanks (columns - (sum_by cluster_columns run + 1))

-- a text filled with blanks, or its longest run that leaves a column for `~`
unfoldable pub fitted_text : List ℕ → ℕ → List ℕ
fitted_text text columns =
    if nat_eq columns 0 then []
    else if nat_le (columns_in text) columns then text ++ blanks (columns - columns_in text)
    else cut_short (run_within (columns - 1) (graphemes true text)) columns

-- A text as it is drawn, so that nothing in it shifts its row (own). Clusters are those of UAX #29.
use Rattle.std.specs.Prelude.{ℕ, Bool, true, not, ◌&&◌, nat_le, List, [], ◌∷◌, map, if◌then◌else◌}
use Rattle.std.specs.List.{concat, list_any}
use Rattle.std.specs.Str.{chars}
use Rattle.std.specs.Char.{is_control}
use Rattle.unicode_segmentation.specs.Grapheme.{graphemes}
use Rattle.mc_text.specs.Fit.{cluster_columns}

-- a cluster of one or two columns that holds no control character (Unicode 4.5, category Cc)
unfoldable pub is_drawable : List ℕ → Bool
is_drawable cluster =
    nat_le 1 (cluster_columns cluster) && nat_le (cluster_columns cluster) 2
    && not (list_any is_control (chars cluster))

-- a cluster as it is drawn, `?` in place of one that can't be
abbrev pub drawn_cluster : List ℕ → List ℕ
drawn_cluster cluster = if is_drawable cluster then cluster else 63 ∷ []

-- what is drawn of a text, one piece for each of its clusters
abbrev pub drawn_clusters : List ℕ → List (List ℕ)
drawn_clusters text = map drawn_cluster (graphemes true text)

-- the drawn text
abbrev pub drawn_text : List ℕ → List ℕ
drawn_text text = concat (drawn_clusters text)

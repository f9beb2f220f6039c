-- How text is drawn. Clusters are the extended grapheme clusters of UAX #29, and their
-- columns those of unicode_width.
use Rattle.std.specs.Prelude.{ℕ, ◌+◌, ◌-◌, Bool, true, false, not, ◌&&◌, ◌||◌, ◌==◌}
use Rattle.std.specs.Prelude.{nat_le, nat_lt, if◌then◌else◌, List, [], ◌∷◌, length}
use Rattle.std.specs.List.{list_any}
use Rattle.std.specs.Str.{chars, is_utf8}
use Rattle.std.specs.Char.{is_control}
use Rattle.unicode_width.specs.Width.{str_width}
use Rattle.unicode_segmentation.specs.Grapheme.{graphemes}
use Rattle.key_screen.specs.declared.cells.Attr.{Attr}
use Rattle.key_screen.specs.declared.cells.Glyph.{Glyph}
use Rattle.key_screen.specs.declared.cells.Glyph.TheVariants.{Blank, Cluster}
use Rattle.key_screen.specs.declared.cells.Cell.{Cell}
use Rattle.key_screen.specs.Cells.{put_narrow, put_wide}

-- the columns of a cluster, which is given by its bytes
unfoldable pub cluster_columns : List ℕ → ℕ
cluster_columns cluster = str_width false (chars cluster)

-- a cluster holds a control character
unfoldable pub has_control : List ℕ → Bool
has_control cluster = list_any is_control (chars cluster)

-- bytes are a text of one cluster, as each cluster of a text is
unfoldable pub stands_alone : List ℕ → Bool
stands_alone cluster = is_utf8 cluster && length (graphemes true cluster) == 1

-- a cluster is shown as it is: one column or two, and no control
abbrev pub is_drawable : List ℕ → Bool
is_drawable cluster =
    (cluster_columns cluster == 1 || cluster_columns cluster == 2) && not (has_control cluster)
    && stands_alone cluster

-- a cluster is a blank
abbrev pub is_blank : List ℕ → Bool
is_blank (byte ∷ []) = byte == 32
is_blank cluster = false

-- what a cluster is drawn as: what can't be shown as it is, is `?`
abbrev pub drawn_glyph : List ℕ → Glyph
drawn_glyph cluster =
    if not (is_drawable cluster) then Cluster (63 ∷ [])
    else if is_blank cluster then Blank
    else Cluster cluster

-- the columns that a glyph takes
abbrev pub glyph_columns : Glyph → ℕ
glyph_columns (Cluster cluster) = cluster_columns cluster
glyph_columns glyph = 1

-- a glyph is put into its one cell or two
abbrev pub put_glyph : List Cell → ℕ → Glyph → Attr → List Cell
put_glyph cells at glyph attr =
    if glyph_columns glyph == 2 then put_wide cells at glyph attr else put_narrow cells at glyph attr

-- a glyph has room in its row
abbrev pub has_room : Glyph → ℕ → Bool
has_room glyph room = nat_lt 0 (glyph_columns glyph) && nat_le (glyph_columns glyph) room

-- glyphs are put from a place on, up to the first that has no room in its row
abbrev pub put_glyphs : List Cell → ℕ → ℕ → List Glyph → Attr → List Cell
put_glyphs cells at room [] attr = cells
put_glyphs cells at room (glyph ∷ glyphs) attr =
    if has_room glyph room
    then put_glyphs (put_glyph cells at glyph attr) (at + glyph_columns glyph)
    (room - glyph_columns glyph) glyphs attr
    else cells

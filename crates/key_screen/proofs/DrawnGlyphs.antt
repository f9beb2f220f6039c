-- what a cluster is drawn as is drawn as it is
use Rattle.std.proofs.lemmas.Bool.Decides.{nat_tests}
use Rattle.std.proofs.Common.{◌≡◌, ◌<◌, arith, ◌==◌, ◌||◌, zero, suc, ℕ, Bool, true, false, not, ◌&&◌, if◌then◌else◌, List, [], ◌∷◌, map, refl, sym, ◌∙◌, ap}
use Rattle.std.specs.Prelude.{⊤}
use Rattle.std.specs.Str.{is_utf8}
use Rattle.unicode_width.proofs.Computing.{unicode_width}
use Rattle.unicode_segmentation.proofs.Computing.{unicode_segmentation}
use Rattle.key_screen.specs.declared.cells.Glyph.{Glyph}
use Rattle.key_screen.specs.declared.cells.Glyph.TheVariants.{Blank, Cluster, RightHalf}
use Rattle.key_screen.specs.DrawnText.{cluster_columns, has_control, stands_alone, is_drawable, is_blank, drawn_glyph, glyph_columns}
use Rattle.key_screen.specs.Layout.{IsDrawn}

-- `?` and a blank are drawn
pub question_mark-drawable : is_drawable (63 ∷ []) ≡ true
unfolding unicode_width unicode_segmentation cluster_columns has_control stands_alone is_utf8
question_mark-drawable = refl

pub blank-drawable : is_drawable (32 ∷ []) ≡ true
unfolding unicode_width unicode_segmentation cluster_columns has_control stands_alone is_utf8
blank-drawable = refl

pub drawn_glyph-drawn : (cluster : List ℕ) → IsDrawn (drawn_glyph cluster)
drawn_glyph-drawn cluster = by_tests (is_drawable cluster) (is_blank cluster) refl refl where
  by_tests : (drawable blank : Bool) → is_drawable cluster ≡ drawable → is_blank cluster ≡ blank
      → IsDrawn (if not drawable then Cluster (63 ∷ []) else if blank then Blank else Cluster cluster)
  by_tests false blank no_cluster is = ap (λ test. if not test then Cluster (63 ∷ []) else Cluster (63 ∷ [])) question_mark-drawable
  by_tests true true drawable is = tt
  by_tests true false drawable is =
      ap (λ test. if not test then Cluster (63 ∷ []) else if is_blank cluster then Blank else Cluster cluster) drawable
      ∙ ap (λ test. if test then Blank else Cluster cluster) is

-- glyphs that are drawn
abbrev pub AreDrawn : List Glyph → Type 0
AreDrawn [] = ⊤
AreDrawn (glyph ∷ glyphs) = IsDrawn glyph × AreDrawn glyphs

pub drawn_glyphs-drawn : (clusters : List (List ℕ)) → AreDrawn (map drawn_glyph clusters)
drawn_glyphs-drawn [] = tt
drawn_glyphs-drawn (cluster ∷ clusters) = (drawn_glyph-drawn cluster, drawn_glyphs-drawn clusters)

-- a blank takes one column
pub blank_columns : cluster_columns (32 ∷ []) ≡ 1
unfolding unicode_width cluster_columns
blank_columns = refl

blank_is : (cluster : List ℕ) → is_blank cluster ≡ true → cluster ≡ 32 ∷ []
blank_is [] is = absurd (cc)
blank_is (byte ∷ []) is = let same : byte ≡ 32 = grind (arith, nat_tests) in ap (λ n. n ∷ []) same
blank_is (first ∷ second ∷ bytes) is = absurd (cc)

-- what is shown as it is takes its columns
pub drawn_columns : (cluster : List ℕ) → is_drawable cluster ≡ true → glyph_columns (drawn_glyph cluster) ≡ cluster_columns cluster
drawn_columns cluster drawable =
    ap (λ test. glyph_columns (if not test then Cluster (63 ∷ []) else if is_blank cluster then Blank else Cluster cluster)) drawable
    ∙ by_test (is_blank cluster) refl where
      by_test : (test : Bool) → is_blank cluster ≡ test → glyph_columns (if test then Blank else Cluster cluster) ≡ cluster_columns cluster
      by_test true is = sym blank_columns ∙ ap cluster_columns (sym (blank_is cluster is))
      by_test false is = refl

-- and those are one or two
pub drawable_columns : (cluster : List ℕ) → is_drawable cluster ≡ true → 0 < cluster_columns cluster
drawable_columns cluster drawable = by_columns (cluster_columns cluster) drawable where
  by_columns : (columns : ℕ) → ((columns == 1 || columns == 2) && not (has_control cluster) && stands_alone cluster) ≡ true → 0 < columns
  by_columns zero is = absurd (cc)
  by_columns (suc columns) is = omega arith

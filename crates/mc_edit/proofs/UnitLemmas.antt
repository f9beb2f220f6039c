-- The units of a line, by its kind.
use Rattle.std.proofs.Common.{◌≡◌, ℕ, ◌≤◌, true, false, List, [], ◌∷◌, length, refl, ap, arith, ⊎_elim}
use Rattle.std.specs.List.{concat}
use Rattle.std.specs.Str.{IsUtf8, is_utf8}
use Rattle.std.proofs.lemmas.Bool.{cases_Bool}
use Rattle.std.proofs.lemmas.Str.{IsUtf8-from_is_utf8, is_utf8-from_IsUtf8}
use Rattle.unicode_segmentation.specs.Grapheme.{graphemes, is_grapheme_break}
use Rattle.unicode_segmentation.proofs.SegmentsLemmas.{concat-segments, length-segments}
use Rattle.std.specs.Str.{chars}
use Rattle.unicode_segmentation.specs.Segments.{segments, cut}
use Rattle.mc_edit.specs.Units.{single_bytes, units}

-- no text has no clusters
pub graphemes-empty : graphemes true [] ≡ []
unfolding segments cut chars
graphemes-empty = refl

pub units-text : (line : List ℕ) → IsUtf8 line → units line ≡ graphemes true line
unfolding units
units-text line utf8 = rw (is_utf8-from_IsUtf8 line utf8) refl

pub units-bytes : (line : List ℕ) → ¬ (IsUtf8 line) → units line ≡ single_bytes line
unfolding units
units-bytes line not_text =
    ⊎_elim (λ (e : is_utf8 line ≡ true). absurd (not_text (IsUtf8-from_is_utf8 line e))) (λ (e : is_utf8 line ≡ false). rw e refl) (cases_Bool (is_utf8 line))

concat-single_bytes : (line : List ℕ) → concat (single_bytes line) ≡ line
concat-single_bytes [] = refl
concat-single_bytes (b ∷ line) = ap (λ rest. b ∷ rest) (concat-single_bytes line)

-- the units of a line are the line
pub concat-units : (line : List ℕ) → concat (units line) ≡ line
unfolding units
concat-units line =
    ⊎_elim
    (λ (e : is_utf8 line ≡ true). rw e (concat-segments (is_grapheme_break true) line (IsUtf8-from_is_utf8 line e)))
    (λ (e : is_utf8 line ≡ false). rw e (concat-single_bytes line))
    (cases_Bool (is_utf8 line))

length-single_bytes : (line : List ℕ) → length (single_bytes line) ≡ length line
length-single_bytes [] = refl
length-single_bytes (b ∷ line) = omega (arith, length-single_bytes line)

-- a line has no more units than bytes
pub length-units : (line : List ℕ) → length (units line) ≤ length line
unfolding units
length-units line =
    ⊎_elim
    (λ (e : is_utf8 line ≡ true). rw e (length-segments (is_grapheme_break true) line (IsUtf8-from_is_utf8 line e)))
    (λ (e : is_utf8 line ≡ false). rw e (omega (arith, length-single_bytes line)))
    (cases_Bool (is_utf8 line))

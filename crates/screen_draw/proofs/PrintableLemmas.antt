-- printable ASCII: each byte is a cluster of its own
use Rattle.std.proofs.Common.{◌≡◌, ℕ, ◌+◌, ◌<◌, ◌≤◌, zero, suc, Bool, true, false, not, ◌&&◌, ◌||◌, ◌==◌, nat_le, if◌then◌else◌, List, [], ◌∷◌, ◌++◌, map, refl, sym, ◌∙◌, ap, arith, Result, Err, eqb-true}
use Rattle.std.specs.Prelude.{⊤, encode_utf8_all}
use Rattle.std.specs.Str.{IsAscii, is_utf8}
use Rattle.std.proofs.lemmas.Str.{IsUtf8-from_ascii, is_utf8-from_IsUtf8, chars-IsAscii, encodes-IsAscii}
use Rattle.std.proofs.lemmas.Bool.Decides.{nat_tests}
use Rattle.ucd_table.proofs.Facts.{Stepped-below}
use Rattle.ucd_breaks.specs.GraphemeClusterBreak.{grapheme_cluster_break, grapheme_cluster_break_number}
use Rattle.ucd_breaks.specs.declared.GraphemeClusterBreak.TheVariants.{Other}
use Rattle.ucd_breaks.proofs.Computing.{ucd_breaks}
use Rattle.ucd_breaks.proofs.GraphemeClusterBreakLemmas.{grapheme_cluster_break_stepped, grapheme_cluster_break_number_injective}
use Rattle.ucd_derived.specs.IndicConjunctBreak.{indic_conjunct_break}
use Rattle.ucd_derived.proofs.Computing.{ucd_derived}
use Rattle.ucd_derived.proofs.IndicConjunctBreakLemmas.{indic_conjunct_break_stepped}
use Rattle.unicode_segmentation.specs.Grapheme.{graphemes, is_grapheme_break, is_consonant}
use Rattle.unicode_segmentation.specs.Segments.{cut, segments, prepend}
use Rattle.key_screen.specs.DrawnText.{cluster_columns, is_drawable}
use Rattle.key_screen.specs.Terminal.{TerminalState, with_cluster, clusters_read, text_read}
use Rattle.screen_draw.proofs.TestLemmas.{and_false}

-- a byte is printable ASCII
abbrev pub is_typed : ℕ → Bool
is_typed byte = nat_le 32 byte && nat_le byte 126

-- and all bytes are
abbrev pub ArePrintable : List ℕ → Type 0
ArePrintable [] = ⊤
ArePrintable (byte ∷ bytes) = (is_typed byte ≡ true) × ArePrintable bytes

typed-below : (byte : ℕ) → is_typed byte ≡ true → byte < 128
typed-below byte is = grind (arith, nat_tests)

printable-ascii : (bytes : List ℕ) → ArePrintable bytes → IsAscii bytes
printable-ascii [] all i = omega arith
printable-ascii (byte ∷ bytes) all zero = typed-below byte all.0
printable-ascii (byte ∷ bytes) all (suc i) = printable-ascii bytes all.1 i

-- of a test that is true for all of a kind
of_kind : (kind test : Bool) → (not kind || test) ≡ true → kind ≡ true → test ≡ true
of_kind true test is known = is
of_kind false test is known = absurd (cc)

typed-other : (c : ℕ) → is_typed c ≡ true → grapheme_cluster_break c ≡ Other
unfolding ucd_breaks
typed-other c is =
    grapheme_cluster_break_number_injective _ _
    (eqb-true _ _ (of_kind (is_typed c) _
    (Stepped-below grapheme_cluster_break grapheme_cluster_break_stepped
    (λ x v. not (is_typed x) || (grapheme_cluster_break_number v == grapheme_cluster_break_number Other)) 128 refl c (typed-below c is)) is))

not_true : (test : Bool) → not test ≡ true → test ≡ false
not_true true is = absurd (cc)
not_true false is = refl

typed-no_consonant : (c : ℕ) → is_typed c ≡ true → is_consonant (indic_conjunct_break c) ≡ false
unfolding ucd_derived
typed-no_consonant c is =
    not_true _ (of_kind (is_typed c) _
    (Stepped-below indic_conjunct_break indic_conjunct_break_stepped (λ x v. not (is_typed x) || not (is_consonant v)) 128 refl c (typed-below c is)) is)

-- between two such bytes is a break, whatever stands around them
typed-break : (last next : ℕ) (before after : List ℕ) → is_typed last ≡ true → is_typed next ≡ true → is_grapheme_break true (last ∷ before) (next ∷ after) ≡ true
unfolding is_grapheme_break
typed-break last next before after first second =
    let one = typed-other last first in
    let two = typed-other next second in
    let three = typed-no_consonant next second in
    simp (one, two, three, and_false)

printable-cut : (before cs : List ℕ) → ArePrintable cs → cut (is_grapheme_break true) before cs [] ≡ map (λ c. c ∷ []) cs
unfolding cut is_grapheme_break
printable-cut before [] all = refl
printable-cut before (c ∷ []) all = refl
printable-cut before (c ∷ d ∷ cs) all = by_break (is_grapheme_break true (c ∷ before) ((d ∷ cs) ++ [])) (typed-break c d before (cs ++ []) all.0 all.1.0) (printable-cut (c ∷ before) (d ∷ cs) all.1) where
  rest : List (List ℕ)
  rest = cut (is_grapheme_break true) (c ∷ before) (d ∷ cs) []

  by_break : (test : Bool) → test ≡ true → rest ≡ map (λ c. c ∷ []) (d ∷ cs) → (if test then (c ∷ []) ∷ rest else prepend (c ∷ []) rest) ≡ map (λ c. c ∷ []) (c ∷ d ∷ cs)
  by_break true yes_break is = ap (λ more. (c ∷ []) ∷ more) is
  by_break false no_break is = absurd (cc)

singles-encoded : (cs : List ℕ) → ArePrintable cs → map encode_utf8_all (map (λ c. c ∷ []) cs) ≡ map (λ c. c ∷ []) cs
singles-encoded [] all = refl
singles-encoded (c ∷ cs) all =
    ap (λ first. first ∷ map encode_utf8_all (map (λ c. c ∷ []) cs)) (encodes-IsAscii (c ∷ []) (printable-ascii (c ∷ []) (all.0, tt)))
    ∙ ap (λ more. (c ∷ []) ∷ more) (singles-encoded cs all.1)

graphemes-printable : (bytes : List ℕ) → ArePrintable bytes → graphemes true bytes ≡ map (λ c. c ∷ []) bytes
unfolding segments
graphemes-printable bytes all =
    ap (λ cs. map encode_utf8_all (cut (is_grapheme_break true) [] cs [])) (chars-IsAscii bytes (printable-ascii bytes all))
    ∙ ap (map encode_utf8_all) (printable-cut [] bytes all) ∙ singles-encoded bytes all

printable-read : (t : TerminalState) (position : ℕ) (bytes : List ℕ) → ArePrintable bytes → text_read t position bytes ≡ clusters_read t position (map (λ c. c ∷ []) bytes)
printable-read t position bytes all =
    by_test (is_utf8 bytes) _ (is_utf8-from_IsUtf8 bytes (IsUtf8-from_ascii bytes (printable-ascii bytes all)))
    ∙ ap (clusters_read t position) (graphemes-printable bytes all) where
      by_test : (test : Bool) (other : Result TerminalState ℕ) → test ≡ true → (if test then clusters_read t position (graphemes true bytes) else other) ≡ clusters_read t position (graphemes true bytes)
      by_test true other is = refl
      by_test false other is = absurd (cc)

-- the first of printable bytes is read by itself
pub first-typed : (t : TerminalState) (position byte : ℕ) (bytes : List ℕ) → ArePrintable (byte ∷ bytes) → is_drawable (byte ∷ []) ≡ true → cluster_columns (byte ∷ []) ≤ t.room
    → text_read t position (byte ∷ bytes) ≡ text_read (with_cluster t (byte ∷ [])) (position + 1) bytes
first-typed t position byte bytes all drawable fits =
    let room : nat_le (cluster_columns (byte ∷ [])) t.room ≡ true = grind (arith, nat_tests) in
    let shown : (is_drawable (byte ∷ []) && nat_le (cluster_columns (byte ∷ [])) t.room) ≡ true = ap (λ test. test && nat_le (cluster_columns (byte ∷ [])) t.room) drawable ∙ room in
    printable-read t position (byte ∷ bytes) all
    ∙ ap (λ test. if test then clusters_read (with_cluster t (byte ∷ [])) (position + 1) (map (λ c. c ∷ []) bytes) else Err position) shown
    ∙ sym (printable-read (with_cluster t (byte ∷ [])) (position + 1) bytes all.1)

-- bytes that are cut at their escapes
use Rattle.std.proofs.Common.{◌≡◌, ℕ, ◌<◌, Bool, true, false, ◌||◌, ◌==◌, if◌then◌else◌, List, [], ◌∷◌, ◌++◌, length, refl, sym, ◌∙◌, ap, subst, arith}
use Rattle.std.specs.Prelude.{⊤}
use Rattle.std.specs.List.{list_any}
use Rattle.std.specs.Str.{chars, is_utf8, encode_utf8_all}
use Rattle.std.specs.Char.{is_control, encode_utf8}
use Rattle.std.proofs.lemmas.Str.{IsUtf8-from_is_utf8, chars-encodes}
use Rattle.std.proofs.lemmas.Bool.Decides.{nat_tests}
use Rattle.key_screen.specs.DrawnText.{has_control}
use Rattle.key_screen.specs.Terminal.{segments, in_front}

-- no byte is an escape
abbrev pub HasNoEscape : List ℕ → Type 0
HasNoEscape [] = ⊤
HasNoEscape (byte ∷ bytes) = ((byte == 27) ≡ false) × HasNoEscape bytes

pub HasNoEscape-append : (xs ys : List ℕ) → HasNoEscape xs → HasNoEscape ys → HasNoEscape (xs ++ ys)
HasNoEscape-append [] ys none more = more
HasNoEscape-append (x ∷ xs) ys none more = (none.0, HasNoEscape-append xs ys none.1 more)

-- bytes with no escape stand in front of what follows
pub segments-plain : (bytes rest : List ℕ) (segment : List ℕ) (more : List (List ℕ)) → HasNoEscape bytes → segments rest ≡ segment ∷ more → segments (bytes ++ rest) ≡ (bytes ++ segment) ∷ more
segments-plain [] rest segment more none is = is
segments-plain (byte ∷ bytes) rest segment more none is =
    ap (λ test. if test then [] ∷ segments (bytes ++ rest) else in_front byte (segments (bytes ++ rest))) none.0
    ∙ ap (in_front byte) (segments-plain bytes rest segment more none.1 is)

-- bytes have a first segment
pub segments-some : (bytes : List ℕ) → 0 < length (segments bytes)
segments-some [] = omega arith
segments-some (byte ∷ bytes) = by_test (byte == 27) where
  by_segments : (s : List (List ℕ)) → 0 < length (in_front byte s)
  by_segments [] = omega arith
  by_segments (segment ∷ more) = omega arith

  by_test : (test : Bool) → 0 < length (if test then [] ∷ segments bytes else in_front byte (segments bytes))
  by_test true = omega arith
  by_test false = by_segments (segments bytes)

pub first_segment : (bytes : List ℕ) → (segment : List ℕ) × (more : List (List ℕ)) × (segments bytes ≡ segment ∷ more)
first_segment bytes = by_segments (segments bytes) refl (segments-some bytes) where
  by_segments : (s : List (List ℕ)) → segments bytes ≡ s → 0 < length s → (segment : List ℕ) × (more : List (List ℕ)) × (segments bytes ≡ segment ∷ more)
  by_segments [] is some = absurd (omega arith)
  by_segments (segment ∷ more) is some = (segment, more, is)

in_front-append : (byte : ℕ) (xs ys : List (List ℕ)) → 0 < length xs → in_front byte (xs ++ ys) ≡ in_front byte xs ++ ys
in_front-append byte [] ys some = absurd (omega arith)
in_front-append byte (x ∷ xs) ys some = refl

-- bytes that begin with an escape, behind any others
pub segments-behind : (bytes rest : List ℕ) → segments (bytes ++ 27 ∷ rest) ≡ segments bytes ++ segments rest
segments-behind [] rest = refl
segments-behind (byte ∷ bytes) rest = go_on (segments-behind bytes rest) where
  by_test : (test : Bool) → (if test then [] ∷ (segments bytes ++ segments rest) else in_front byte (segments bytes ++ segments rest))
      ≡ (if test then [] ∷ segments bytes else in_front byte (segments bytes)) ++ segments rest
  by_test true = refl
  by_test false = in_front-append byte (segments bytes) (segments rest) (segments-some bytes)

  go_on : segments (bytes ++ 27 ∷ rest) ≡ segments bytes ++ segments rest → segments ((byte ∷ bytes) ++ 27 ∷ rest) ≡ segments (byte ∷ bytes) ++ segments rest
  go_on is = ap (λ s. if byte == 27 then [] ∷ s else in_front byte s) is ∙ by_test (byte == 27)

-- a character that is no control has no escape among its bytes
char-no_escape : (c : ℕ) → is_control c ≡ false → HasNoEscape (encode_utf8 c)
unfolding encode_utf8
char-no_escape c plain = grind (arith, nat_tests)

no_escapes : (cs : List ℕ) → list_any is_control cs ≡ false → HasNoEscape (encode_utf8_all cs)
no_escapes [] none = tt
no_escapes (c ∷ cs) none = HasNoEscape-append (encode_utf8 c) (encode_utf8_all cs) (char-no_escape c (first (is_control c) none)) (no_escapes cs (rest (is_control c) none)) where
  first : (test : Bool) → (test || list_any is_control cs) ≡ false → test ≡ false
  first true is = absurd (cc)
  first false is = refl

  rest : (test : Bool) → (test || list_any is_control cs) ≡ false → list_any is_control cs ≡ false
  rest true is = absurd (cc)
  rest false is = is

-- nor has a text with no control
pub text-no_escape : (text : List ℕ) → is_utf8 text ≡ true → has_control text ≡ false → HasNoEscape text
unfolding has_control
text-no_escape text utf8 none =
    let is = IsUtf8-from_is_utf8 text utf8 in
    let same : chars text ≡ is.0 = ap chars (sym is.1.1) ∙ chars-encodes is.0 is.1.0 in
    subst HasNoEscape is.1.1 (no_escapes is.0 (ap (list_any is_control) (sym same) ∙ none))

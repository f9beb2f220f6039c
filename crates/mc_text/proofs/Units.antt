-- A size always fits four bytes in one of its units.
use Rattle.std.proofs.Common.{◌≡◌, ℕ, ◌+◌, ◌/◌, ◌^◌, ◌<◌, ◌≤◌, List, [], ◌∷◌, ◌++◌, length, map, drop, get_or, All, add-one, lit<, ap, refl, arith, ⊎_elim}
use Rattle.std.proofs.lemmas.Bool.{cases_lt}
use Rattle.std.proofs.lemmas.Bool.Decides.{nat_tests}
use Rattle.std.proofs.lemmas.List.{length-append}
use Rattle.std.proofs.lemmas.Fmt.{length-decimal-le}
use Rattle.std.specs.Fmt.{decimal}
use Rattle.std.proofs.Math.Seq.{drop-cons}
use Rattle.std.proofs.lemmas.List.Elements.{All-from_recursion, All-get_or}
use Rattle.std.proofs.lemmas.Str.{encode_ascii}
use Rattle.std.proofs.Math.Utf8.{encode}
use Rattle.mc_text.specs.declared.sizes.Unit.{Unit}
use Rattle.mc_text.specs.declared.sizes.TheConstants.{UNITS}
use Rattle.mc_text.specs.Sizes.{in_units, unit_texts, first_within}

pub first_within-fits : (room : ℕ) (text : List ℕ) (texts : List (List ℕ)) → length text ≤ room → first_within room (text ∷ texts) ≡ text
first_within-fits room text texts h = grind (arith, nat_tests)

pub first_within-passes : (room : ℕ) (text : List ℕ) (texts : List (List ℕ)) → room < length text
    → first_within room (text ∷ texts) ≡ first_within room texts
first_within-passes room text texts h = grind (arith, nat_tests)

units-some : (size bytes letter : ℕ) → 0 < length (in_units size bytes letter)
units-some size bytes letter = omega (arith, length-append (decimal (size / bytes)) (letter ∷ []))

-- a unit's text has a letter, so it is not empty; one is found if the last one fits
some_within : (room size bytes letter : ℕ) (units : List (ℕ × ℕ)) → length (in_units size bytes letter) ≤ room
    → 0 < length (first_within room (map (λ unit. in_units size unit.0 unit.1) units ++ in_units size bytes letter ∷ []))
some_within room size bytes letter [] h =
    rw (first_within-fits room (in_units size bytes letter) [] h) (units-some size bytes letter)
some_within room size bytes letter (unit ∷ units) h =
    let text = in_units size unit.0 unit.1 in
    let texts = map (λ unit. in_units size unit.0 unit.1) units ++ in_units size bytes letter ∷ [] in
    ⊎_elim
    (λ (k : room < length text). rw (first_within-passes room text texts k) (some_within room size bytes letter units h))
    (λ (k : length text ≤ room). rw (first_within-fits room text texts k) (units-some size unit.0 unit.1))
    (cases_lt room (length text))

-- no size has more than 15 of the largest unit
pub some_fits : (room size : ℕ) → size < 2 ^ 64 → 4 ≤ room → 0 < length (first_within room (unit_texts size))
unfolding unit_texts
some_fits room size small h =
    let most : size / 1024 ^ 6 < 10 ^ 2 = omega arith in
    let short = length-decimal-le 2 (size / 1024 ^ 6) (omega arith) most (omega arith) in
    let last : length (in_units size (1024 ^ 6) 69) ≤ room = omega (arith, length-append (decimal (size / 1024 ^ 6)) (69 ∷ []), short) in
    some_within room size (1024 ^ 6) 69
    ((1024 ^ 1, 75) ∷ (1024 ^ 2, 77) ∷ (1024 ^ 3, 71) ∷ (1024 ^ 4, 84) ∷ (1024 ^ 5, 80) ∷ []) last

-- the text in a unit of the table
abbrev pub text_in : ℕ → Unit → List ℕ
text_in size unit = in_units size unit.bytes unit.letter

pub texts-all : (size : ℕ) → map (text_in size) UNITS ≡ unit_texts size
unfolding unit_texts
texts-all size = refl

-- the unit at an index is the next one
pub first_within-next : (room size i : ℕ) (d : Unit) → i < length UNITS
    → first_within room (map (text_in size) (drop i UNITS))
    ≡ first_within room (text_in size (get_or UNITS i d) ∷ map (text_in size) (drop (i + 1) UNITS))
first_within-next room size i d h =
    let next : drop i UNITS ≡ get_or UNITS i d ∷ drop (i + 1) UNITS = rw add-one (drop-cons UNITS i d h) in
    ap (λ units. first_within room (map (text_in size) units)) next

letters-ascii : All (λ (unit : Unit). unit.letter < 128) UNITS
letters-ascii =
    All-from_recursion (λ (unit : Unit). unit.letter < 128) UNITS (lit< tt, (lit< tt, (lit< tt, (lit< tt, (lit< tt, (lit< tt, tt))))))

-- the text of the unit at an index, as it is written
pub text_in-written : (size i : ℕ) (d : Unit) → i < length UNITS
    → decimal (size / (get_or UNITS i d).bytes) ++ encode (get_or UNITS i d).letter ≡ text_in size (get_or UNITS i d)
text_in-written size i d h =
    let unit = get_or UNITS i d in
    let ascii : unit.letter < 128 = All-get_or (λ (u : Unit). u.letter < 128) UNITS i d h letters-ascii in
    ap (λ letter. decimal (size / unit.bytes) ++ letter) (encode_ascii unit.letter ascii)

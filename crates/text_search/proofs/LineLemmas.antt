-- The first line of a rest of a file, as a part of it shows it.
use Rattle.std.proofs.Common.{◌≡◌, ℕ, zero, suc, ◌+◌, ◌-◌, ◌<◌, ◌≤◌, ◌⊎◌, inl, inr, Bool, true, false, List, [], ◌∷◌, length, take, drop, Some, None, refl, sym, ap, ◌∙◌, arith, ⊎_elim, length-take, length-drop, drop-drop, get_or}
use Rattle.std.specs.Option.{option_map_or}
use Rattle.std.proofs.lemmas.Bool.{cases_lt, cond-true, cond-false, eq-eqb, ne_eqb}
use Rattle.std.proofs.lemmas.Bool.Decides.{nat_tests}
use Rattle.std.specs.Prelude.{nat_lt}
use Rattle.std.proofs.lemmas.List.{drop-take, take_all}
use Rattle.std.proofs.lemmas.Bool.{cases_Bool}
use Rattle.memchr.specs.Find.{is_byte}
use Rattle.text_search.specs.Lines.{first_line, line_place, with_line, in_lines}
use Rattle.text_search.specs.declared.sought.Sought.{Sought}
use Rattle.text_search.specs.declared.sought.Sought.TheVariants.{At, Nowhere, TooLong}

is_ten : (byte : ℕ) → (byte ≡ 10) ⊎ (byte ≡ 10 → ⊥)
is_ten byte =
    ⊎_elim (λ (low : byte < 10). inr (λ (is : byte ≡ 10). omega arith))
    (λ (high : 10 ≤ byte). ⊎_elim (λ (more : 10 < byte). inr (λ (is : byte ≡ 10). omega arith)) (λ (same : byte ≤ 10). inl (omega arith)) (cases_lt 10 byte))
    (cases_lt byte 10)

first_line-newline : (byte : ℕ) (rest : List ℕ) → byte ≡ 10 → first_line (byte ∷ rest) ≡ []
unfolding first_line
first_line-newline byte rest is = cond-true _ _ _ (eq-eqb _ _ is)

first_line-other : (byte : ℕ) (rest : List ℕ) → (byte ≡ 10 → ⊥) → first_line (byte ∷ rest) ≡ byte ∷ first_line rest
unfolding first_line
first_line-other byte rest differs = cond-false _ _ _ (ne_eqb _ _ differs)

first_line-empty : first_line [] ≡ []
unfolding first_line
first_line-empty = refl

-- a newline that no other stands before ends the line
pub first_line-at : (bytes : List ℕ) (at : ℕ) → at < length bytes → ((k : ℕ) → k < at → is_byte 10 (get_or bytes k 0) ≡ true → ⊥)
    → is_byte 10 (get_or bytes at 0) ≡ true → first_line bytes ≡ take at bytes
unfolding first_line
first_line-at [] at inside before here = absurd (omega arith)
first_line-at (byte ∷ rest) zero inside before here = cond-true _ _ _ here
first_line-at (byte ∷ rest) (suc at) inside before here =
    ⊎_elim (λ (is : byte ≡ 10). absurd (before 0 (omega arith) (eq-eqb _ _ is)))
    (λ (differs : byte ≡ 10 → ⊥). first_line-other byte rest differs ∙ ap (λ l. byte ∷ l) (first_line-at rest at (omega arith) (λ k low. before (suc k) (omega arith)) here))
    (is_ten byte)

pub first_line-none : (bytes : List ℕ) → ((k : ℕ) → k < length bytes → is_byte 10 (get_or bytes k 0) ≡ true → ⊥) → first_line bytes ≡ bytes
first_line-none [] nowhere = first_line-empty
first_line-none (byte ∷ rest) nowhere =
    first_line-other byte rest (λ (is : byte ≡ 10). nowhere 0 (omega arith) (eq-eqb _ _ is))
    ∙ ap (λ l. byte ∷ l) (first_line-none rest (λ k low. nowhere (suc k) (omega arith)))

-- a line that ends within a part is the line of the whole
first_line-front : (count : ℕ) (rest : List ℕ) → length (first_line (take count rest)) < length (take count rest) → first_line rest ≡ first_line (take count rest)
first_line-front zero rest ends = absurd (omega arith)
first_line-front (suc count) [] ends = absurd (omega arith)
first_line-front (suc count) (byte ∷ rest) ends =
    ⊎_elim (λ (is : byte ≡ 10). first_line-newline byte rest is ∙ sym (first_line-newline byte (take count rest) is))
    (λ (differs : byte ≡ 10 → ⊥).
    let other = first_line-other byte (take count rest) differs in
    let further = first_line-front count rest (let e = ap length other in omega arith) in
    first_line-other byte rest differs ∙ ap (λ l. byte ∷ l) further ∙ sym other)
    (is_ten byte)

-- a part without a newline is the front of the line
first_line-over : (count : ℕ) (rest : List ℕ) → first_line (take count rest) ≡ take count rest → length (take count rest) ≤ length (first_line rest)
first_line-over zero rest whole = omega arith
first_line-over (suc count) [] whole = omega arith
first_line-over (suc count) (byte ∷ rest) whole =
    ⊎_elim (λ (is : byte ≡ 10). absurd (let e = ap length (sym (first_line-newline byte (take count rest) is) ∙ whole) in omega arith))
    (λ (differs : byte ≡ 10 → ⊥).
    let other = first_line-other byte (take count rest) differs in
    let tail : first_line (take count rest) ≡ take count rest = ap (drop 1) (sym other ∙ whole) in
    let further = first_line-over count rest tail in
    let e = ap length (first_line-other byte rest differs) in omega arith)
    (is_ten byte)

-- what belongs to a line before is passed over
in_lines-skip : (text : List ℕ) (at skip : ℕ) (rest : List ℕ) → in_lines text at skip rest ≡ in_lines text (at + skip) 0 (drop skip rest)
unfolding in_lines
in_lines-skip text at zero [] = refl
in_lines-skip text at (suc skip) [] = refl
in_lines-skip text at zero (byte ∷ rest) = let e : at ≡ at + 0 = omega arith in ap (λ k. in_lines text k 0 (byte ∷ rest)) e
in_lines-skip text at (suc skip) (byte ∷ rest) =
    let e : at + 1 + skip ≡ at + suc skip = omega arith in
    in_lines-skip text (at + 1) skip rest ∙ ap (λ k. in_lines text k 0 (drop skip rest)) e

-- the first line, and those behind it
in_lines-first : (text : List ℕ) (at : ℕ) (rest : List ℕ) → 1 ≤ length rest
    → in_lines text at 0 rest ≡ with_line text at (first_line rest) (in_lines text (at + (length (first_line rest) + 1)) 0 (drop (length (first_line rest) + 1) rest))
unfolding in_lines
in_lines-first text at [] some = absurd (omega arith)
in_lines-first text at (byte ∷ rest) some =
    let count = length (first_line (byte ∷ rest)) in
    let e : at + 1 + count ≡ at + (count + 1) = omega arith in
    let d : drop count rest ≡ drop (count + 1) (byte ∷ rest) = let n : suc count ≡ count + 1 = omega arith in ap (λ k. drop k (byte ∷ rest)) n in
    ap (with_line text at (first_line (byte ∷ rest)))
    (in_lines-skip text (at + 1) count rest ∙ ap (λ k. in_lines text k 0 (drop count rest)) e ∙ ap (in_lines text (at + (count + 1)) 0) d)

-- behind the end nothing is found
pub in_lines-past : (text : List ℕ) (at : ℕ) (bytes : List ℕ) → bytes ≡ [] → in_lines text at 0 bytes ≡ Nowhere
unfolding in_lines
in_lines-past text at bytes none = ap (in_lines text at 0) none

short_enough : (n : ℕ) → n ≤ 1048576 → nat_lt 1048576 n ≡ false
short_enough n h = grind (arith, nat_tests)

too_long : (n : ℕ) → 1048577 ≤ n → nat_lt 1048576 n ≡ true
too_long n h = grind (arith, nat_tests)

with_line-some : (text : List ℕ) (at place : ℕ) (line : List ℕ) (behind : Sought) → length line ≤ 1048576 → line_place text line ≡ Some place
    → with_line text at line behind ≡ At (at + place)
with_line-some text at place line behind short is =
    cond-false _ _ _ (short_enough (length line) short) ∙ ap (λ o. option_map_or (λ k. At (at + k)) o behind) is

with_line-none : (text : List ℕ) (at : ℕ) (line : List ℕ) (behind : Sought) → length line ≤ 1048576 → line_place text line ≡ None
    → with_line text at line behind ≡ behind
with_line-none text at line behind short is =
    cond-false _ _ _ (short_enough (length line) short) ∙ ap (λ o. option_map_or (λ k. At (at + k)) o behind) is

pub full_part : (n most : ℕ) → nat_lt n most ≡ false → most ≤ n
full_part n most h = grind (arith, nat_tests)

pub last_part : (n most : ℕ) → nat_lt n most ≡ true → n < most
last_part n most h = grind (arith, nat_tests)

-- a part of at most so many bytes, and a line that begins in it
module _ (text : List ℕ) (at start most : ℕ) (part rest : List ℕ) (most_is : most ≡ 1048577) (is : part ≡ take most rest) (inside : start < length part)
    (left : in_lines text at 0 rest ≡ in_lines text (at + start) 0 (drop start rest)) where
  within_most : length part ≤ most
  within_most = omega (arith, ap length is, length-take most rest)

  here : drop start part ≡ take (most - start) (drop start rest)
  here =
      let low = within_most in
      let e : most ≡ start + (most - start) = omega (arith, inside) in
      ap (drop start) is ∙ ap (λ n. drop start (take n rest)) e ∙ drop-take start (most - start) rest

  some_left : 1 ≤ length (drop start rest)
  some_left = omega (arith, inside, ap length is, length-take most rest, length-drop start rest)

  -- a part with fewer bytes ends with the file
  whole : length part < most → drop start part ≡ drop start rest
  whole short = ap (drop start) (is ∙ take_all most rest (omega (arith, short, ap length is, length-take most rest)))

  -- the line goes on behind the part
  pub line-too_long : start ≡ 0 → most ≤ length part → first_line (drop start part) ≡ drop start part → in_lines text at 0 rest ≡ TooLong at
  line-too_long first full goes_on =
      let part_is : take most rest ≡ part = sym is in
      let drop_is : drop start part ≡ take most rest = ap (λ n. drop n part) first ∙ is in
      let over = first_line-over most rest (ap first_line (sym drop_is) ∙ goes_on ∙ drop_is) in
      in_lines-first text at rest (omega (arith, some_left, length-drop start rest))
      ∙ cond-true _ _ _ (too_long (length (first_line rest)) (omega (arith, over, full, most_is, ap length is)))

  module _ (count : ℕ) (is_last : Bool) (ends : is_last ≡ true → length part < most) (line : first_line (drop start part) ≡ take count (drop start part))
      (within : count ≤ length (drop start part)) (ended : is_last ≡ false → count < length (drop start part)) where
    line_is : first_line (drop start rest) ≡ take count (drop start part)
    line_is =
        ⊎_elim (λ (last : is_last ≡ true). ap first_line (sym (whole (ends last))) ∙ line)
        (λ (more : is_last ≡ false).
        let e = ap length line in
        let lines : first_line (take (most - start) (drop start rest)) ≡ take count (drop start part) = ap first_line (sym here) ∙ line in
        first_line-front (most - start) (drop start rest)
        (omega (arith, ap length lines, ended more, length-take count (drop start part), ap length here)) ∙ lines)
        (cases_Bool is_last)

    line_length : length (first_line (drop start rest)) ≡ count
    line_length = omega (arith, ap length line_is, length-take count (drop start part), within)

    line_short : length (first_line (drop start rest)) ≤ 1048576
    line_short =
        ⊎_elim (λ (last : is_last ≡ true). omega (arith, line_length, ends last, within, length-drop start part, most_is))
        (λ (more : is_last ≡ false). omega (arith, line_length, ended more, length-drop start part, within_most, most_is))
        (cases_Bool is_last)

    first : in_lines text (at + start) 0 (drop start rest) ≡ with_line text (at + start) (first_line (drop start rest)) (in_lines text (at + start + (length (first_line (drop start rest)) + 1)) 0 (drop (length (first_line (drop start rest)) + 1) (drop start rest)))
    first = in_lines-first text (at + start) (drop start rest) some_left

    pub line-found : (place : ℕ) → Some place ≡ line_place text (take count (drop start part)) → in_lines text at 0 rest ≡ At (at + (start + place))
    line-found place found =
        let e : at + start + place ≡ at + (start + place) = omega arith in
        left ∙ first
        ∙ with_line-some text (at + start) place (first_line (drop start rest)) _ line_short (ap (line_place text) line_is ∙ sym found)
        ∙ ap At e

    pub line-passed : None ≡ line_place text (take count (drop start part))
        → in_lines text at 0 rest ≡ in_lines text (at + (start + (count + 1))) 0 (drop (start + (count + 1)) rest)
    line-passed nowhere =
        let e : at + start + (count + 1) ≡ at + (start + (count + 1)) = omega arith in
        left ∙ first
        ∙ with_line-none text (at + start) (first_line (drop start rest)) _ line_short (ap (line_place text) line_is ∙ sym nowhere)
        ∙ ap (λ n. in_lines text (at + start + (n + 1)) 0 (drop (n + 1) (drop start rest))) line_length
        ∙ ap (λ n. in_lines text n 0 (drop (count + 1) (drop start rest))) e
        ∙ ap (in_lines text (at + (start + (count + 1))) 0) (drop-drop (count + 1) start rest)

-- a placement, read by its digits
use Rattle.std.proofs.Common.{◌≡◌, ℕ, ◌+◌, ◌*◌, ◌/◌, ◌%◌, ◌<◌, Bool, true, false, ◌==◌, nat_lt, if◌then◌else◌, List, [], ◌∷◌, ◌++◌, length, drop, Some, refl, ◌∙◌, ap, arith, length-append, append_assoc}
use Rattle.std.specs.Prelude.{⊤}
use Rattle.std.proofs.lemmas.Bool.Decides.{nat_tests}
use Rattle.key_screen.specs.declared.control.Control.TheVariants.{Place}
use Rattle.key_screen.specs.declared.control.Number.{Number}
use Rattle.key_screen.specs.Controls.{is_digit, with_digit, number_from, placement_sequence, placed_in_row, placement_of, bracket_sequence, control_of}
use Rattle.screen_draw.specs.DrawnBytes.{digit, digit_at, number}
use Rattle.screen_draw.proofs.EscapeLemmas.{HasNoEscape, HasNoEscape-append}
use Rattle.screen_draw.proofs.TestLemmas.{and_false}

is_digit-digit : (n : ℕ) → is_digit (digit n) ≡ true
is_digit-digit n = let low : n % 10 < 10 = omega arith in grind (arith, nat_tests)

-- one more digit
number-next : (n digits m value : ℕ) (rest : List ℕ) → n * 10 + m % 10 ≡ value → value < 65536 → number_from n digits (digit m ∷ rest) ≡ number_from value (digits + 1) rest
number-next n digits m value rest is small =
    let worth : with_digit n (digit m) ≡ value = omega arith in
    ap (λ test. if test then number_from (with_digit n (digit m)) (digits + 1) rest else record { value = n; digits = digits }) (is_digit-digit m)
    ∙ ap (λ v. number_from v (digits + 1) rest) worth

-- a digit that may be left out
number-may : (n unit before value digits : ℕ) (rest : List ℕ) → before * 10 + (n / unit) % 10 ≡ value → value < 65536 → (n < unit → before ≡ value)
    → number_from before digits (digit_at n unit ++ rest) ≡ number_from value (digits + length (digit_at n unit)) rest
number-may n unit before value digits rest is small none = by_test (nat_lt n unit) refl where
  by_test : (test : Bool) → nat_lt n unit ≡ test
      → number_from before digits ((if test then [] else digit (n / unit) ∷ []) ++ rest)
      ≡ number_from value (digits + length (if test then [] else digit (n / unit) ∷ [])) rest
  by_test true less =
      let same : before ≡ value = none (grind (arith, nat_tests)) in
      ap (λ v. number_from v digits rest) same ∙ ap (λ d. number_from value d rest) (let sum : digits ≡ digits + 0 = omega arith in sum)
  by_test false more = number-next before digits (n / unit) value rest is small

-- a number is read up to a byte that is no digit
pub number-read : (n byte : ℕ) (rest : List ℕ) → n < 65536 → is_digit byte ≡ false → number_from 0 0 (number n ++ byte ∷ rest) ≡ record { value = n; digits = length (number n) }
unfolding number
number-read n byte rest small ends =
    let a = digit_at n 10000 in
    let b = digit_at n 1000 in
    let c = digit_at n 100 in
    let d = digit_at n 10 in
    let e : List ℕ = digit n ∷ [] in
    let tail : List ℕ = byte ∷ rest in
    let parts : (a ++ (b ++ (c ++ (d ++ e)))) ++ tail ≡ a ++ (b ++ (c ++ (d ++ (e ++ tail)))) =
    append_assoc a (b ++ (c ++ (d ++ e))) tail ∙ ap (λ x. a ++ x) (append_assoc b (c ++ (d ++ e)) tail ∙ ap (λ x. b ++ x) (append_assoc c (d ++ e) tail ∙ ap (λ x. c ++ x) (append_assoc d e tail))) in
    let size : length (a ++ (b ++ (c ++ (d ++ e)))) ≡ length a + (length b + (length c + (length d + 1))) =
    length-append a (b ++ (c ++ (d ++ e))) ∙ ap (λ k. length a + k) (length-append b (c ++ (d ++ e)) ∙ ap (λ k. length b + k) (length-append c (d ++ e) ∙ ap (λ k. length c + k) (length-append d e))) in
    let count : 0 + length a + length b + length c + length d + 1 ≡ length (a ++ (b ++ (c ++ (d ++ e)))) = omega arith in
    ap (number_from 0 0) parts
    ∙ number-may n 10000 0 (n / 10000) 0 (b ++ (c ++ (d ++ (e ++ tail)))) (omega arith) (omega arith) (λ less. omega arith)
    ∙ number-may n 1000 (n / 10000) (n / 1000) (0 + length a) (c ++ (d ++ (e ++ tail))) (omega arith) (omega arith) (λ less. omega arith)
    ∙ number-may n 100 (n / 1000) (n / 100) (0 + length a + length b) (d ++ (e ++ tail)) (omega arith) (omega arith) (λ less. omega arith)
    ∙ number-may n 10 (n / 100) (n / 10) (0 + length a + length b + length c) (e ++ tail) (omega arith) (omega arith) (λ less. omega arith)
    ∙ number-next (n / 10) (0 + length a + length b + length c + length d) n n tail (omega arith) small
    ∙ ap (λ test. if test then number_from (with_digit n byte) (0 + length a + length b + length c + length d + 1 + 1) rest else record { value = n; digits = 0 + length a + length b + length c + length d + 1 }) ends
    ∙ ap (λ k. record { value = n; digits = k }) count

-- bytes are digits
abbrev pub AreDigits : List ℕ → Type 0
AreDigits [] = ⊤
AreDigits (byte ∷ bytes) = (is_digit byte ≡ true) × AreDigits bytes

AreDigits-append : (xs ys : List ℕ) → AreDigits xs → AreDigits ys → AreDigits (xs ++ ys)
AreDigits-append [] ys first more = more
AreDigits-append (x ∷ xs) ys first more = (first.0, AreDigits-append xs ys first.1 more)

digit_at-digits : (n unit : ℕ) → AreDigits (digit_at n unit)
digit_at-digits n unit = by_test (nat_lt n unit) where
  by_test : (test : Bool) → AreDigits (if test then [] else digit (n / unit) ∷ [])
  by_test true = tt
  by_test false = (is_digit-digit (n / unit), tt)

number-digits : (n : ℕ) → AreDigits (number n)
unfolding number
number-digits n =
    AreDigits-append (digit_at n 10000) (digit_at n 1000 ++ (digit_at n 100 ++ (digit_at n 10 ++ digit n ∷ []))) (digit_at-digits n 10000)
    (AreDigits-append (digit_at n 1000) (digit_at n 100 ++ (digit_at n 10 ++ digit n ∷ [])) (digit_at-digits n 1000)
    (AreDigits-append (digit_at n 100) (digit_at n 10 ++ digit n ∷ []) (digit_at-digits n 100)
    (AreDigits-append (digit_at n 10) (digit n ∷ []) (digit_at-digits n 10) (is_digit-digit n, tt))))

number-some : (n : ℕ) → 0 < length (number n)
unfolding number
number-some n =
    let a = digit_at n 10000 in
    let b = digit_at n 1000 in
    let c = digit_at n 100 in
    let d = digit_at n 10 in
    let e : List ℕ = digit n ∷ [] in
    let size : length (a ++ (b ++ (c ++ (d ++ e)))) ≡ length a + (length b + (length c + (length d + 1))) =
    length-append a (b ++ (c ++ (d ++ e))) ∙ ap (λ k. length a + k) (length-append b (c ++ (d ++ e)) ∙ ap (λ k. length b + k) (length-append c (d ++ e) ∙ ap (λ k. length c + k) (length-append d e))) in
    omega arith

-- which are no escapes
digits-no_escape : (bytes : List ℕ) → AreDigits bytes → HasNoEscape bytes
digits-no_escape [] all = tt
digits-no_escape (byte ∷ bytes) all = (grind (arith, nat_tests, all.0), digits-no_escape bytes all.1)

-- a placement's bytes behind its escape
abbrev pub placement : ℕ → ℕ → List ℕ
placement row column = 91 ∷ (number row ++ 59 ∷ (number column ++ 72 ∷ []))

pub placement-no_escape : (row column : ℕ) → HasNoEscape (placement row column)
placement-no_escape row column = (
  refl,
  HasNoEscape-append (number row) (59 ∷ (number column ++ 72 ∷ [])) (digits-no_escape (number row) (number-digits row))
      (refl, HasNoEscape-append (number column) (72 ∷ []) (digits-no_escape (number column) (number-digits column)) (refl, tt)),
)

bracketed-other : (first second : ℕ) (bytes : List ℕ) → (second == 109) ≡ false → (second == 74) ≡ false → bracket_sequence (first ∷ second ∷ bytes) ≡ placement_of (first ∷ second ∷ bytes)
bracketed-other first second bytes no_look no_clear = simp (no_look, no_clear, and_false)

bracketed-digits : (digits rest : List ℕ) → AreDigits digits → 0 < length digits → bracket_sequence (digits ++ 59 ∷ rest) ≡ placement_of (digits ++ 59 ∷ rest)
bracketed-digits [] rest all some = absurd (omega arith)
bracketed-digits (d ∷ []) rest all some = bracketed-other d 59 rest refl refl
bracketed-digits (d ∷ e ∷ digits) rest all some =
    bracketed-other d e (digits ++ 59 ∷ rest) (grind (arith, nat_tests, all.1.0)) (grind (arith, nat_tests, all.1.0))

drop_front : (xs ys : List ℕ) → drop (length xs) (xs ++ ys) ≡ ys
drop_front [] ys = refl
drop_front (x ∷ xs) ys = drop_front xs ys

pub drop_placement : (row column : ℕ) (segment : List ℕ) → drop (length (placement row column)) (placement row column ++ segment) ≡ segment
drop_placement row column segment = drop_front (placement row column) segment

-- a placement is read as one
pub control_of-placement : (row column : ℕ) (segment : List ℕ) → row < 65536 → column < 65536
    → control_of (placement row column ++ segment) ≡ Some (record { control = Place row column; bytes = length (placement row column) })
control_of-placement row column segment small narrow =
    let r = number row in
    let c = number column in
    let tail : List ℕ = 72 ∷ segment in
    let more : List ℕ = c ++ tail in
    let parts : (r ++ 59 ∷ (c ++ 72 ∷ [])) ++ segment ≡ r ++ 59 ∷ more =
    append_assoc r (59 ∷ (c ++ 72 ∷ [])) segment ∙ ap (λ x. r ++ 59 ∷ x) (append_assoc c (72 ∷ []) segment) in
    let outer : length (r ++ 59 ∷ (c ++ 72 ∷ [])) ≡ length r + length {A = ℕ} (59 ∷ (c ++ 72 ∷ [])) = length-append r (59 ∷ (c ++ 72 ∷ [])) in
    let inner : length (c ++ 72 ∷ []) ≡ length c + 1 = length-append c (72 ∷ []) in
    let bytes : length r + length c + 3 ≡ length (placement row column) = omega arith in
    ap bracket_sequence parts ∙ bracketed-digits r more (number-digits row) (number-some row)
    ∙ ap (λ (n : Number). placed_in_row n (drop n.digits (r ++ 59 ∷ more))) (number-read row 59 more small refl)
    ∙ ap (placed_in_row (record { value = row; digits = length r })) (drop_front r (59 ∷ more))
    ∙ ap (λ (n : Number). placement_sequence (record { value = row; digits = length r }) n (drop n.digits more)) (number-read column 72 segment narrow refl)
    ∙ ap (placement_sequence (record { value = row; digits = length r }) (record { value = column; digits = length c })) (drop_front c tail)
    ∙ ap (λ k. Some (record { control = Place row column; bytes = k })) bytes

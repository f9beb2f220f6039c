-- What std reads of digits alone is the number that they spell.
use Rattle.std.proofs.Common.{◌≡◌, ◌<◌, ℕ, ◌^◌, ◌&&◌, nat_lt, not, Bool, true, false, List, [], ◌∷◌, length, Some, Result, Ok, Err, refl, ap, rules, arith}
use Rattle.std.proofs.lemmas.Bool.Decides.{nat_tests}
use Rattle.std.proofs.lemmas.Str.Parse.{IsNumeralModel, numerals_by_fold, parse_digits, tells_all_ascii_digits}
use Rattle.std.specs.Result.{result_ok}
use Rattle.std.specs.Str.{all_ascii_digits}
use Rattle.std.specs.Str.Parse.{ParsesUnsigned}
use Rattle.mc_text.specs.Routes.{is_empty}
use Rattle.ui_viewer.specs.Numbers.{are_digits, decimal_from, number_in}

own : IsNumeralModel (λ ds. all_ascii_digits ds ≡ true) (decimal_from 0)
own = numerals_by_fold _ tells_all_ascii_digits decimal_from (search rules)

-- both tests of a conjunction hold
both : (a b : Bool) → (a && b) ≡ true → (a ≡ true) × (b ≡ true)
both true b h = (refl, h)
both false b h = cc

some_bytes : (text : List ℕ) → not (is_empty text) ≡ true → 0 < length text
some_bytes [] h = cc
some_bytes (byte ∷ text) h = omega arith

tested : (a b : ℕ) → (a < b → ⊥) → nat_lt a b ≡ false
tested a b h = grind (arith, nat_tests)

pub number_read : {E : Type 0} (text : List ℕ) (r : Result ℕ E) → are_digits text ≡ true → ParsesUnsigned 64 10 text r
    → result_ok r ≡ number_in text
number_read {E = E} text (Ok n) digits read =
    let parts = both (all_ascii_digits text) _ digits in
    let is = parse_digits own {E = E} 64 text (Ok n) read parts.0 in
    let small : nat_lt (decimal_from 0 text) (2 ^ 64) ≡ true = let below = is.0.1 in grind (arith, nat_tests) in
    rw (digits, small) (ap Some is.1)
number_read {E = E} text (Err e) digits read =
    let parts = both (all_ascii_digits text) _ digits in
    let is = parse_digits own {E = E} 64 text (Err e) read parts.0 in
    let some = some_bytes text parts.1 in
    let large : nat_lt (decimal_from 0 text) (2 ^ 64) ≡ false = tested (decimal_from 0 text) (2 ^ 64) (λ below. is (some, below)) in
    rw (digits, large) refl

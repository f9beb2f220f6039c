-- Numbers in words and in the surroundings: decimal digits alone. 0 is 48.
use Rattle.std.specs.Prelude.{ℕ, ◌+◌, ◌-◌, ◌*◌, ◌^◌, Bool, not, ◌&&◌, nat_lt}
use Rattle.std.specs.Prelude.{if◌then◌else◌, List, [], ◌∷◌, length, Option, Some, None}
use Rattle.std.specs.Str.{all_ascii_digits}
use Rattle.mc_text.specs.Routes.{is_empty}

-- the number that digits spell, behind digits that spell `n`
abbrev pub decimal_from : ℕ → List ℕ → ℕ
decimal_from n [] = n
decimal_from n (digit ∷ digits) = decimal_from (n * 10 + (digit - 48)) digits

-- a text of 1 to so many decimal digits
abbrev pub are_digits : ℕ → List ℕ → Bool
are_digits most text = all_ascii_digits text && (not (is_empty text) && not (nat_lt most (length text)))

-- the number of 32 bits that a text of 1 to so many decimal digits spells
abbrev pub number_of : ℕ → List ℕ → Option ℕ
number_of most text =
    if are_digits most text && nat_lt (decimal_from 0 text) (2 ^ 32) then Some (decimal_from 0 text) else None

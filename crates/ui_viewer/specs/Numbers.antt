-- Numbers that are typed: decimal digits alone, the most significant first. 0 is 48.
use Rattle.std.specs.Prelude.{ℕ, ◌+◌, ◌-◌, ◌*◌, ◌^◌, Bool, not, ◌&&◌, nat_lt}
use Rattle.std.specs.Prelude.{if◌then◌else◌, List, [], ◌∷◌, Option, Some, None}
use Rattle.std.specs.Str.{all_ascii_digits}
use Rattle.mc_text.specs.Routes.{is_empty}

-- the number that digits spell, behind digits that spell `n`
abbrev pub decimal_from : ℕ → List ℕ → ℕ
decimal_from n [] = n
decimal_from n (digit ∷ digits) = decimal_from (n * 10 + (digit - 48)) digits

-- a text of one decimal digit or more
abbrev pub are_digits : List ℕ → Bool
are_digits text = all_ascii_digits text && not (is_empty text)

-- the number of 64 bits that a text spells, if it spells one
abbrev pub number_in : List ℕ → Option ℕ
number_in text =
    if are_digits text && nat_lt (decimal_from 0 text) (2 ^ 64) then Some (decimal_from 0 text) else None

-- Where bytes stand in a text: the places that a search finds. Own; mcedit(1) says only
-- that a search goes forward.
use Rattle.std.specs.Prelude.{ℕ, ◌+◌, ◌<◌, ◌≤◌, ◌==◌, nat_eq, Bool, IsTrue, if◌then◌else◌}
use Rattle.std.specs.Prelude.{List, [], ◌∷◌, length, drop, Option, Some, None, MatchOption}
use Rattle.std.specs.List.{starts_with}

-- whether the bytes stand in the text from this place on
abbrev pub stands_at : List ℕ → List ℕ → ℕ → Bool
stands_at text bytes at = starts_with nat_eq (drop at text) bytes

-- the first place in a rest of the text where the bytes stand; the rest begins at place `at`
unfoldable pub place_in : List ℕ → List ℕ → ℕ → Option ℕ
place_in [] bytes at = None
place_in (x ∷ rest) bytes at =
    if starts_with nat_eq (x ∷ rest) bytes then Some at else place_in rest bytes (at + 1)

-- the first place at or after `from` where the bytes stand; an empty text stands nowhere
abbrev pub first_place : List ℕ → List ℕ → ℕ → Option ℕ
first_place text bytes from = if length bytes == 0 then None else place_in (drop from text) bytes from

-- the bytes stand at no place from `low` up to `high`
abbrev pub StandNowhere : List ℕ → List ℕ → ℕ → ℕ → Type 0
StandNowhere text bytes low high = (at : ℕ) → low ≤ at → at < high → ¬ IsTrue (stands_at text bytes at)

-- this is the least place from `low` up to `high` where the bytes stand, or there is none
abbrev pub IsLeastBetween : List ℕ → List ℕ → ℕ → ℕ → Option ℕ → Type 0
IsLeastBetween text bytes low high place =
    MatchOption place (StandNowhere text bytes low high)
    (λ at. (low ≤ at) × (at < high) × IsTrue (stands_at text bytes at) × StandNowhere text bytes low at)

-- this is the least place at or after `from` where the bytes stand, or there is none
abbrev pub IsLeastPlace : List ℕ → List ℕ → ℕ → Option ℕ → Type 0
IsLeastPlace text bytes from place = IsLeastBetween text bytes from (length text) place

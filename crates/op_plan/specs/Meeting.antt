-- Paths that meet: one is the other, or lies below it.
use Rattle.std.specs.Prelude.{Bool, false, ◌||◌, List, [], ◌∷◌, ◌++◌, Option, Some, None}
use Rattle.std.specs.List.{list_any, find}
use Rattle.mc_text.specs.Routes.{Route, is_prefix}

abbrev pub meet : Route → Route → Bool
meet a b = is_prefix a b || is_prefix b a

-- two of these pass the test
abbrev pub has_two : {X : Type 0} → (X → X → Bool) → List X → Bool
has_two test [] = false
has_two test (x ∷ xs) = list_any (test x) xs || has_two test xs

-- what two of a list come to
abbrev pub or_two : {X : Type 0} → Option X → X → Option (X × X) → Option (X × X)
or_two None second later = later
or_two (Some first) second later = Some (first, second)

-- The shortest front of a list of which two pass the test: the first that its last one passes with, and
-- that last one. What stands before the list counts as passed.
abbrev pub first_two : {X : Type 0} → (X → X → Bool) → (before : List X) → List X → Option (X × X)
first_two test before [] = None
first_two test before (x ∷ xs) = or_two (find (λ y. test y x) before) x (first_two test (before ++ x ∷ []) xs)

-- an item with what it passes with, or else what comes later
abbrev pub with_first : {X Y : Type 0} → X → Option Y → Option (X × Y) → Option (X × Y)
with_first x None later = later
with_first x (Some y) later = Some (x, y)

-- the first of these that passes with one of those, and the first of those that it passes with
abbrev pub first_across : {X Y : Type 0} → (X → Y → Bool) → List X → List Y → Option (X × Y)
first_across test [] ys = None
first_across test (x ∷ xs) ys = with_first x (find (test x) ys) (first_across test xs ys)

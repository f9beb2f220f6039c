-- Paths in an order in which each comes directly before all that lies below it: by their names from the
-- root on, which are compared byte by byte.
use Rattle.std.specs.Prelude.{◌≡◌, ℕ, ◌<◌, Bool, false, not, ◌&&◌, ◌||◌, List}
use Rattle.std.specs.Prelude.{[], ◌∷◌, length, take, reverse, Option, Some, None}
use Rattle.std.specs.List.{position, slice_get}
use Rattle.std.specs.Cmp.Lexicographic.{slice_cmp}
use Rattle.std.specs.Ordering.{is_lt}
use Rattle.std.specs.declared.cmp.Ordering.{Ordering}
use Rattle.mc_text.specs.Routes.{Route, is_prefix}
use Rattle.tree_trait.specs.Answers.{name_cmp}
use Rattle.op_plan.specs.Meeting.{meet, has_two}

abbrev pub route_cmp : Route → Route → Ordering
route_cmp a b = slice_cmp name_cmp (reverse a) (reverse b)

-- a path comes before another in this order, and doesn't hold it
abbrev pub comes_apart : Route → Route → Bool
comes_apart a b = is_lt (route_cmp a b) && not (is_prefix a b)

-- two neighbours pass the test
abbrev pub has_neighbours : {X : Type 0} → (X → X → Bool) → List X → Bool
has_neighbours test [] = false
has_neighbours test (a ∷ []) = false
has_neighbours test (a ∷ b ∷ xs) = test a b || has_neighbours test (b ∷ xs)

-- a path begins with the one before it
abbrev pub neighbours_meet : List Route → Bool
neighbours_meet = has_neighbours is_prefix

-- the last one of the shortest front in which two meet, and the first one that meets it, by their positions
pub record AreFirst (paths : List Route) (first last : ℕ) : Type 0 where
  pub order : first < last
  pub within : last < length paths
  pub before : has_two meet (take last paths) ≡ false
  pub first_is : (path : Route) → slice_get paths last ≡ Some path
      → position (λ other. meet other path) (take last paths) ≡ Some first

abbrev pub IsFirstMeeting : List Route → Option (ℕ × ℕ) → Type 0
IsFirstMeeting paths None = has_two meet paths ≡ false
IsFirstMeeting paths (Some (first, last)) = AreFirst paths first last

-- The items of a job, in the order in which they are worked.
use Rattle.std.specs.Prelude.{◌≡◌, ◌↔◌, ◌++◌, IsTrue, List, [], ◌∷◌, ℕ, IsSome}
use Rattle.std.specs.Prelude.{Bool, true, false, Option, Some, None, is_some, ⊤}
use Rattle.std.specs.Option.{option_map_or}
use Rattle.mc_text.specs.Routes.{Route}
use Rattle.tree_trait.specs.FileSystem.{View}
use Rattle.tree_trait.specs.Answers.{AllAfter}
use Rattle.job_reports.specs.declared.job.Pair.{Pair}
use Rattle.laws_claims.specs.Recursion.{Shape, End, Child}

abbrev pub item : Route → Route → Pair
item source target = record { source = source; target = target }

-- The items below a source and a target, by what lies below the source: each child, then what lies below
-- it, and then the next child.
abbrev pub items_below : Route → Route → Shape → List Pair
items_below source target End = []
items_below source target (Child name below next) =
    item (name ∷ source) (name ∷ target)
    ∷ (items_below (name ∷ source) (name ∷ target) below ++ items_below source target next)

-- the items of a pair: the pair itself, and then those below it
abbrev pub items_of : Pair → Shape → List Pair
items_of pair shape = pair ∷ items_below pair.source pair.target shape

-- the items of pairs, in the order of their sources
abbrev pub all_items : List Pair → List Shape → List Pair
all_items [] shapes = []
all_items (pair ∷ pairs) [] = []
all_items (pair ∷ pairs) (shape ∷ shapes) = items_of pair shape ++ all_items pairs shapes

-- the names of the children
abbrev pub children : Shape → List (List ℕ)
children End = []
children (Child name below next) = name ∷ children next

-- a shape tells what stands below a path: the children in byte order of their names, each of which stands
abbrev pub Shows : View → Route → Shape → Type 0
Shows v top End = ⊤
Shows v top (Child name below next) =
    IsSome (v (name ∷ top)).value × AllAfter name (children next) × Shows v (name ∷ top) below
    × Shows v top next

-- Which paths a part may take. In a folder that is dirty one name serves part after part. A thing that has
-- just this name, and comes later, would be placed at a path of which the part's changes still wait.
use Rattle.std.specs.Prelude.{◌≡◌, ◌&&◌, ⊤, not, Bool, true, false, List, ℕ, [], ◌∷◌, Option, Some, None}
use Rattle.mc_text.specs.Routes.{Route}
use Rattle.tree_walk.specs.Places.{is_one_of}
use Rattle.copy_folders.specs.Levels.{coming}
use Rattle.copy_tree.specs.Standing.{Seen}
use Rattle.copy_tree.specs.Taking.{IsShort}

-- the names that are yet to be met in the folder that is worked, as they are at their targets
abbrev pub ahead : Seen → List (List ℕ)
ahead c = coming c.name c.levels.inner.names c.levels.around

-- the path has one of these names
abbrev pub is_named_in : List (List ℕ) → Route → Bool
is_named_in names [] = false
is_named_in names (name ∷ folder) = is_one_of name names

-- a part may take it: no job claims it, and no thing has its name that is yet to be met
abbrev pub may_hold_part : (Route → Bool) → Seen → Route → Bool
may_hold_part free c path = free path && not (is_named_in (ahead c) path)

abbrev pub IsPartPlace : (Route → Bool) → Seen → Route → Type 0
IsPartPlace free c path = may_hold_part free c path ≡ true

-- the path of a part that stands can be told
abbrev pub IsShortPart : Option Route → Type 0
IsShortPart None = ⊤
IsShortPart (Some part) = IsShort part

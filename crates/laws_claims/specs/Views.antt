-- What a tree shows at each path, and what one change makes of it.
use Rattle.std.specs.Prelude.{Bool, false, if◌then◌else◌, List, [], ◌∷◌, ◌++◌, Option, None}
use Rattle.std.specs.Option.{option_map_or}
use Rattle.mc_text.specs.Routes.{Route, same_path, is_prefix}
use Rattle.tree_trait.specs.Refusals.{holder}
use Rattle.laws_claims.specs.Ways.{below}
use Rattle.tree_trait.specs.FileSystem.{Value, Spot, View, view_with}

-- nothing stands there
abbrev pub nothing : Spot
nothing = record { value = None; is_mount = false }

-- one change of what a tree shows
pub data Change : Type 0 where
  Nothing : Change
  -- the path has this value
  Puts : (path : Route) (new : Option Value) → Change
  -- a thing goes to another path with all below it, in place of what was there
  Carries : (from to : Route) → Change

-- the spot with another value: where mounts begin stays
abbrev pub holding : Option Value → Spot → Spot
holding new spot = record spot { value = new }

-- a thing at another path, with all that lies below it; nothing is left where it was
abbrev pub carry : View → Route → Route → View
carry v from to p =
    option_map_or (λ rest. v (rest ++ from)) (below to p) (if is_prefix from p then nothing else v p)

-- the view after a change
abbrev pub apply : Change → View → View
apply Nothing v = v
apply (Puts path new) v = view_with v path new
apply (Carries from to) v = carry v from to

-- the folder of the mount on which a path lies
abbrev pub mount_of : View → Route → Route
mount_of v [] = []
mount_of v (name ∷ folder) = if (v (name ∷ folder)).is_mount then name ∷ folder else mount_of v folder

-- the folders that hold these two lie on one mount
abbrev pub one_mount : View → Route → Route → Bool
one_mount v a b = same_path (mount_of v (holder a)) (mount_of v (holder b))

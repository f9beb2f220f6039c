-- Names told apart by numbers that are made of their bytes, and paths that lie side by side in one folder.
use Rattle.std.specs.Prelude.{◌≡◌, ℕ, false, List, [], ◌∷◌, None}
use Rattle.std.specs.List.{All}
use Rattle.std.specs.Hash.FoldHasher as folding
use Rattle.mc_text.specs.Names.{name_fault}
use Rattle.mc_text.specs.Routes.{Route}
use Rattle.op_plan.specs.Meeting.{meet, has_two}

-- the number of a text, as std's hash maps make it
abbrev pub digest : List ℕ → ℕ
digest text = folding.finish (folding.write folding.initial text)

-- the last name of a path
abbrev pub name_of : Route → List ℕ
name_of [] = []
name_of (name ∷ folder) = name

-- a path lies in the folder, and its name is one
pub record IsChild (folder path : Route) : Type 0 where
  pub path_is : path ≡ name_of path ∷ folder
  pub named : name_fault (name_of path) ≡ None

-- the paths lie in the folder, and none is or holds another
pub record LieApart (folder : Route) (paths : List Route) : Type 0 where
  pub children : All (IsChild folder) paths
  pub apart : has_two meet paths ≡ false

-- the paths lie in one folder, which neither is nor holds another one, nor lies in it
pub record LieBeside (other : Route) (paths : List Route) : Type 0 where
  pub folder : Route
  pub lie : LieApart folder paths
  pub beside : meet folder other ≡ false

-- The rows of a hotlist. Own, after the hotlist of mc(1).
use Rattle.std.specs.Prelude.{ℕ, List, [], ◌∷◌}
use Rattle.hotlist.specs.HotLists.{HotList, NoMore, AnEntry, AGroup}

-- the label of each item, of a group too
abbrev pub labels : HotList → List (List ℕ)
labels NoMore = []
labels (AnEntry label path others) = label ∷ labels others
labels (AGroup label items others) = label ∷ labels others

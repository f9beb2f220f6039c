-- How many steps a walk has left at most. What lies below a folder is not known before it is listed; but it
-- lies at most so many levels deep, and a folder has at most as many names as a number of 64 bits counts.
use Rattle.std.specs.Prelude.{ℕ, zero, suc, ◌+◌, ◌*◌, ◌^◌, List, [], ◌∷◌, length}
use Rattle.tree_walk.specs.Places.{OpenFolder, Place}

-- the steps that a thing takes at most with all below it, where so many levels are left
abbrev pub weight : ℕ → ℕ
weight zero = 1
weight (suc left) = 2 + 2 ^ 64 * weight left

abbrev pub rank_around : ℕ → List OpenFolder → ℕ
rank_around left [] = 0
rank_around left (folder ∷ around) = (1 + length folder.names * weight left) + rank_around (suc left) around

abbrev pub rank : Place → ℕ
rank w = (1 + length w.inner.names * weight w.left) + rank_around (suc w.left) w.around

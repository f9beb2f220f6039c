-- Files that are kept open, by their paths, the oldest first (own).
use Rattle.std.specs.Prelude.{◌≡◌, ◌-◌, ◌<◌, true, not, List, [], ◌∷◌, ◌++◌, length}
use Rattle.std.specs.Prelude.{drop, filter, Contains, vec_len, vec_capacity}
use Rattle.std.specs.Prelude.{Vec}
use Rattle.mc_text.specs.Routes.{Route, same_path, is_prefix}
use Rattle.host_tree.specs.declared.kept.KeptFile.{KeptFile}

-- it is one of the files, and it was opened by this path
abbrev pub IsOpenAt : {F : Type 0} → List (KeptFile F) → Route → KeptFile F → Type 0
IsOpenAt files path kept = Contains files kept × (same_path kept.path path ≡ true)

-- one more can be put behind them without memory
abbrev pub HasRoom : {F A : Type 0} → Vec (KeptFile F) A → Type 0
HasRoom files = vec_len files < vec_capacity files

-- the files but for that of a path
abbrev pub forgetting : {F : Type 0} → List (KeptFile F) → Route → List (KeptFile F)
forgetting files path = filter (λ kept. not (same_path kept.path path)) files

-- the files but for those of a path and of all below it
abbrev pub forgetting_below : {F : Type 0} → List (KeptFile F) → Route → List (KeptFile F)
forgetting_below files folder = filter (λ kept. not (is_prefix folder kept.path)) files

-- the newest 127 of these files
abbrev pub newest : {F : Type 0} → List (KeptFile F) → List (KeptFile F)
newest files = drop (length files - 127) files

-- one more, in place of what was kept of its path; of the others the newest 127
abbrev pub with_newest : {F : Type 0} → List (KeptFile F) → KeptFile F → List (KeptFile F)
with_newest files kept = newest (forgetting files kept.path) ++ kept ∷ []

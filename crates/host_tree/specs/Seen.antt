-- Folders that were seen, by the texts of their paths, the oldest first (own).
use Rattle.std.specs.Prelude.{◌≡◌, ◌-◌, ◌<◌, ℕ, true, not, List, [], ◌∷◌, ◌++◌, length}
use Rattle.std.specs.Prelude.{drop, filter, Contains, vec_len, vec_capacity, string_bytes}
use Rattle.std.specs.Prelude.{Vec}
use Rattle.std.specs.Str.{bytes_eq}
use Rattle.host_tree.specs.declared.seen.SeenThing.{SeenThing}
use Rattle.host_tree.specs.declared.seen.Identity.{Identity}

-- one of them was seen at this path, and it was this one
abbrev pub WasSeen : List SeenThing → List ℕ → Identity → Type 0
WasSeen folders text identity = (seen : SeenThing) × Contains folders seen
    × (bytes_eq (string_bytes seen.text) text ≡ true) × (seen.identity ≡ identity)

-- one more can be put behind them without memory
abbrev pub HasRoom : {A : Type 0} → Vec SeenThing A → Type 0
HasRoom folders = vec_len folders < vec_capacity folders

-- the folders but for that of a path
abbrev pub forgetting : List SeenThing → List ℕ → List SeenThing
forgetting folders text = filter (λ seen. not (bytes_eq (string_bytes seen.text) text)) folders

-- the newest 63 of these folders
abbrev pub newest : List SeenThing → List SeenThing
newest folders = drop (length folders - 63) folders

-- one more, in place of what was seen at its path; of the others the newest 63
abbrev pub with_newest : List SeenThing → SeenThing → List SeenThing
with_newest folders seen = newest (forgetting folders (string_bytes seen.text)) ++ seen ∷ []

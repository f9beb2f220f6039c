-- What comes of all of a list, item by item.
use Rattle.std.proofs.Common.{List, ◌++◌, Option}
use Rattle.std.specs.Prelude.{option_map}

-- what came of the first items before what comes of the others
abbrev pub joined : {Y : Type 0} → List Y → Option (List Y) → Option (List Y)
joined prefix = option_map (λ ys. prefix ++ ys)

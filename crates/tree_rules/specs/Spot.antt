-- Where a walk ends, as the code says it and as the refusals do.
use Rattle.tree_trait.specs.Refusals.{Place}
use Rattle.tree_rules.specs.declared.walking.Spot.{Spot}

-- the place that a spot stands for
abbrev pub place_of : Spot → Place
place_of spot = record { holder = spot.holder; there = spot.there }

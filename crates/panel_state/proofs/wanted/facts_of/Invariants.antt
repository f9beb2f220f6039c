-- What the items so far are compared by.
use Rattle.std.proofs.Common.{◌≡◌, map, take}
use Rattle.panel_state.specs.Wanted.{fact_of}
use Rattle.panel_state.proofs.wanted.facts_of.Given as goal

abbrev pub invariant-loop-item : goal.invariant-loop-item
invariant-loop-item l = l.facts.items ≡ map fact_of (map (λ item. item.now) (take l.item-index l.items))

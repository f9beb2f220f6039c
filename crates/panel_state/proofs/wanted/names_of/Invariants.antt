-- The names so far.
use Rattle.std.proofs.Common.{◌≡◌, map, take}
use Rattle.panel_state.specs.Wanted.{names_of}
use Rattle.panel_state.proofs.wanted.names_of.Given as goal

abbrev pub invariant-loop-item : goal.invariant-loop-item
invariant-loop-item l = l.names ≡ names_of (map (λ item. item.now) (take l.item-index l.items))

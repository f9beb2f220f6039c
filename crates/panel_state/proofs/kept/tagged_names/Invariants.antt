-- The tagged names so far.
use Rattle.std.proofs.Common.{◌≡◌, filter, take}
use Rattle.std.specs.FinSet.{contains}
use Rattle.panel_state.specs.Wanted.{names_of}
use Rattle.panel_state.proofs.kept.tagged_names.Given as goal

abbrev pub invariant-loop-item : goal.invariant-loop-item
invariant-loop-item l = l.names ≡ filter (contains l.tags) (names_of (take l.item-index l.items))

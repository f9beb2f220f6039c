-- What is left decides.
use Rattle.std.proofs.Common.{◌≡◌, drop}
use Rattle.hotlist.specs.HotLists.{list_of, is_within}
use Rattle.hotlist.proofs.items.+nesting.Given as goal

abbrev pub invariant-is_within-loop-item : goal.invariant-is_within-loop-item
invariant-is_within-loop-item l = is_within l.room (list_of (drop l.item-index l.items)) ≡ is_within l.room (list_of l.items)

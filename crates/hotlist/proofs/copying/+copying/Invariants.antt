-- Those so far are the same.
use Rattle.std.proofs.Common.{◌≡◌, take}
use Rattle.hotlist.specs.HotLists.{list_of}
use Rattle.hotlist.proofs.copying.+copying.Given as goal

abbrev pub invariant-copy_items-loop-item : goal.invariant-copy_items-loop-item
invariant-copy_items-loop-item l = list_of l.copies.items ≡ list_of (take l.item-index l.items)

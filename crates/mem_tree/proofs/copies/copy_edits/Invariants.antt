use Rattle.std.proofs.Common.{◌≡◌, take}
use Rattle.mem_tree.proofs.copies.copy_edits.Given as goal

abbrev pub invariant-loop-edit : goal.invariant-loop-edit
invariant-loop-edit l = l.copy ≡ take l.edit-index l.edits

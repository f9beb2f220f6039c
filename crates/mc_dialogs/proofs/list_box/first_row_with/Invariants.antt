-- none of the rows so far begins so
use Rattle.std.proofs.Common.{◌≡◌, drop}
use Rattle.mc_dialogs.specs.ListKeys.{chosen_by}
use Rattle.mc_dialogs.proofs.list_box.first_row_with.Given as goal

abbrev pub invariant-loop-position : goal.invariant-loop-position
invariant-loop-position l = chosen_by l.code l.position (drop l.position l.rows) ≡ chosen_by l.code 0 l.rows

-- What the rows that are left will have of the block.
use Rattle.std.proofs.Common.{◌≡◌, ◌+◌, ◌<◌, ◌^◌, length}
use Rattle.ui_editor.specs.EditorFrames.{with_block}
use Rattle.ui_editor.proofs.marking.write_block.Given as goal

abbrev pub invariant-loop-text : goal.invariant-loop-text
invariant-loop-text l =
    (l.row + length l.rows < 2 ^ 63) ×
    (with_block l.row l.rows l.marked l.grid ≡ with_block 0 l.fn.rows l.fn.marked l.fn.grid)

abbrev pub decreases-loop-text : goal.decreases-loop-text
decreases-loop-text l = length l.rows

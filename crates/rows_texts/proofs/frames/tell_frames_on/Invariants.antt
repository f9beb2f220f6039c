use Rattle.std.proofs.Common.{◌≡◌}
use Rattle.rows_texts.proofs.frames.tell_frames_on.Given as goal

abbrev pub invariant-loop-written : goal.invariant-loop-written
invariant-loop-written l = (l.screen.grid.lines ≡ 10) × (l.screen.grid.columns ≡ 40)

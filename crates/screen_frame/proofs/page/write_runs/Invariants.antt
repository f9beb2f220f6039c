-- what is left, written from here on, gives the whole
use Rattle.std.proofs.Common.{◌≡◌, drop}
use Rattle.screen_frame.specs.Pieces.{painted_grid}
use Rattle.screen_frame.specs.Pages.{run_pieces}
use Rattle.screen_frame.proofs.page.write_runs.Given as goal

abbrev pub invariant-loop-run : goal.invariant-loop-run
invariant-loop-run l =
    painted_grid l.grid (run_pieces l.row (drop l.run-index l.runs)) ≡ painted_grid l.fn.grid (run_pieces l.row l.runs)

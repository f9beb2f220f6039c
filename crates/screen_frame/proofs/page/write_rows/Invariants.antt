-- what is left, written from here on, gives the whole
use Rattle.std.proofs.Common.{◌≡◌, ◌+◌, drop}
use Rattle.screen_frame.specs.Pieces.{painted_grid}
use Rattle.screen_frame.specs.Pages.{row_pieces}
use Rattle.screen_frame.proofs.page.write_rows.Given as goal

abbrev pub invariant-loop-runs : goal.invariant-loop-runs
invariant-loop-runs l =
    record {
      row : l.row ≡ 2 + l.runs-index;
      whole : painted_grid l.grid (row_pieces l.row (drop l.runs-index l.rows)) ≡ painted_grid l.fn.grid (row_pieces 2 l.rows);
    }

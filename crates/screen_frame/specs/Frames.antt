-- The frame of the panels: a blank screen with their rows, the line of jobs and the key bar. Own.
use Rattle.std.specs.Prelude.{ℕ, ◌-◌, List, [], ◌∷◌, ◌++◌}
use Rattle.key_screen.specs.declared.cells.Attr.TheVariants.{Plain}
use Rattle.key_screen.specs.Grids.{CellGrid, blank_grid}
use Rattle.screen_frame.specs.declared.panes.Panes.{Panes}
use Rattle.screen_frame.specs.declared.jobs_line.JobCounts.{JobCounts}
use Rattle.screen_frame.specs.declared.key_bar.KeyBar.TheVariants.{Panels}
use Rattle.screen_frame.specs.Pieces.{Piece, fitted_at, painted_grid}
use Rattle.screen_frame.specs.Panes.{pane_pieces}
use Rattle.screen_frame.specs.JobsLine.{jobs_text}
use Rattle.screen_frame.specs.KeyBars.{bar_text}

-- the last row but one has the jobs, and the last row the keys
abbrev pub rows_below : ℕ → ℕ → JobCounts → List Piece
rows_below lines columns jobs =
    fitted_at (lines - 1) 1 columns (jobs_text jobs) Plain
    ∷ fitted_at lines 1 columns (bar_text Panels) Plain
    ∷ []

-- a screen of so many lines and columns that shows the panels and the jobs
unfoldable pub panels_frame : ℕ → ℕ → Panes → JobCounts → CellGrid
panels_frame lines columns panes jobs =
    painted_grid (blank_grid lines columns) (pane_pieces lines columns panes ++ rows_below lines columns jobs)

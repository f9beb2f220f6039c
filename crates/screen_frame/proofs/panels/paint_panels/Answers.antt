use Rattle.std.proofs.Common.{◌++◌, ap, sym, ◌∙◌}
use Rattle.screen_frame.specs.Pieces.{painted_grid}
use Rattle.screen_frame.specs.Panes.{pane_pieces}
use Rattle.screen_frame.specs.Frames.{panels_frame, rows_below}
use Rattle.screen_frame.proofs.Painted.{painted_append, frame_size}
use Rattle.screen_frame.proofs.panels.paint_panels.Goals as goal

pub returns-clause-frame : goal.returns-clause-frame
unfolding panels_frame
returns-clause-frame c =
    let panes = pane_pieces c.args.lines c.args.columns c.args.panes.now in
    let below = rows_below c.args.lines c.args.columns c.args.jobs.now in
    c.in_ok-write_below.ensures ∙ ap (λ g. painted_grid g below) c.in_ok-write_panes.ensures
    ∙ sym (painted_append c.in_ok-grid.grid panes below) ∙ ap (λ g. painted_grid g (panes ++ below)) c.in_ok-grid.ensures

pub returns-clause-size : goal.returns-clause-size
returns-clause-size c =
    let panes = pane_pieces c.args.lines c.args.columns c.args.panes.now in
    let below = rows_below c.args.lines c.args.columns c.args.jobs.now in
    frame_size c.args.lines c.args.columns c.in_ok-grid.grid c.write_below.new.grid (panes ++ below) c.in_ok-grid.ensures
    (c.in_ok-write_below.ensures ∙ ap (λ g. painted_grid g below) c.in_ok-write_panes.ensures
    ∙ sym (painted_append c.in_ok-grid.grid panes below))

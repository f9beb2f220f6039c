use Rattle.screen_frame.specs.Pages.{page_pieces}
use Rattle.screen_frame.proofs.Painted.{frame_size}
use Rattle.screen_frame.proofs.page.paint_page.Goals as goal

pub returns-clause-size : goal.returns-clause-size
returns-clause-size c =
    frame_size c.args.lines c.args.columns c.in_ok-grid.grid c.write_page.new.grid
    (page_pieces c.args.lines c.args.columns c.args.page.now) c.in_ok-grid.ensures c.in_ok-write_page.ensures

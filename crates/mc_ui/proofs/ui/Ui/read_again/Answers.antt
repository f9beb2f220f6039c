-- What both panels were refused is what is told.
use Rattle.std.proofs.Common.{Ok}
use Rattle.panel_pair.specs.Readings.{refused_looks}
use Rattle.mc_ui.proofs.Readings.{panels_read}
use Rattle.mc_ui.proofs.ui.Ui.read_again.Goals as goal

pub returns-clause-reads : goal.returns-clause-reads
returns-clause-reads g c =
    panels_read (refused_looks (Ok c.in_ok-reread.reread)) (g.T.ReadTree.contents c.args.tree.now) (g.T.ReadTree.contents c.read_both.new.tree)
    (g.T.ReadTree.fault_count c.args.tree.now) (g.T.ReadTree.fault_count c.read_both.new.tree) c.in_ok-refusals.refusals
    c.in_ok-reread.ensures.reads c.in_ok-refusals.ensures

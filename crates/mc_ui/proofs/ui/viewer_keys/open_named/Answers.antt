-- What opening a thing was refused is what is told of it.
use Rattle.mc_ui.proofs.Readings.{opened_reads}
use Rattle.mc_ui.proofs.ui.viewer_keys.open_named.Goals as goal

pub returns-clause-reads : goal.returns-clause-reads
returns-clause-reads g c =
    opened_reads (g.T.ReadTree.contents c.args.tree.now) (g.T.ReadTree.contents c.open_thing.new.tree) c.args.folder.now c.args.name.now c.args.lines c.args.columns
    (g.T.ReadTree.fault_count c.args.tree.now) (g.T.ReadTree.fault_count c.open_thing.new.tree) c.open_thing.result c.open_thing.ensures.opens c.open_thing.ensures.reads

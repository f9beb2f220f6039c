-- What opening the file came to is how the session opens, or why it doesn't.
use Rattle.mc_desk.proofs.Openings.{viewer_fault, viewer_opens, viewer_starts}
use Rattle.mc_desk.proofs.opening.open_viewer.Goals as goal

pub returns-in-Ok-open_file-clause-opened : goal.returns-in-Ok-open_file-clause-opened
returns-in-Ok-open_file-clause-opened g c =
    viewer_opens (g.T.ReadTree.contents c.args.tree.now) c.args.path.now c.args.home c.args.lines c.args.columns c.args.now c.in-Ok-open_file.opening c.view_alone.result c.in-Ok-open_file.ensures.opens c.view_alone.ensures

pub returns-in-Ok-open_file-clause-cause : goal.returns-in-Ok-open_file-clause-cause
returns-in-Ok-open_file-clause-cause g c =
    viewer_starts (g.T.ReadTree.contents c.args.tree.now) c.args.path.now c.args.home c.args.lines c.args.columns c.args.now c.in-Ok-open_file.opening c.view_alone.result c.in-Ok-open_file.ensures.opens c.view_alone.ensures

pub returns-in-Ok-open_file-clause-fault : goal.returns-in-Ok-open_file-clause-fault
returns-in-Ok-open_file-clause-fault g c =
    viewer_fault (g.T.ReadTree.contents c.args.tree.now) (g.T.ReadTree.contents c.open_file.new.tree) (g.T.ReadTree.fault_count c.args.tree.now) (g.T.ReadTree.fault_count c.open_file.new.tree) c.args.home c.args.lines c.args.columns c.args.now
    c.open_file.result c.in-Ok-open_file.opening c.view_alone.result c.in-Ok-open_file.is c.open_file.ensures.reads c.view_alone.ensures

-- What a key of the viewer was refused is what is told of it.
use Rattle.std.proofs.Common.{◌∙◌, ap}
use Rattle.mc_ui.specs.declared.ui.viewer_keys.ViewerDeed.{ViewerDeed}
use Rattle.mc_ui.specs.Viewings.{told_by, viewed_path}
use Rattle.mc_ui.proofs.Readings.{told_reads}
use Rattle.mc_ui.proofs.ui.viewer_keys.work_viewer.Goals as goal

pub returns-clause-reads : goal.returns-clause-reads
returns-clause-reads g c =
    let deed : ViewerDeed = record { act = c.in_ok-act.act; refusals = c.told_by.result } in
    told_reads (λ (deed : ViewerDeed). deed.refusals) (g.T.ReadTree.contents c.args.tree.now) (g.T.ReadTree.contents c.key.new.tree) c.args.key c.args.mode.now c.key.new.self c.in_ok-act.act
    (g.T.ReadTree.fault_count c.args.tree.now) (g.T.ReadTree.fault_count c.key.new.tree) deed
    (c.told_by.ensures ∙ ap (told_by c.in_ok-act.act) (c.in_ok-room.ensures.path ∙ ap viewed_path c.subject.ensures))
    c.in_ok-act.ensures.leads c.in_ok-act.ensures.reads

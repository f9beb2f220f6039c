-- What the key was refused is told, whether the viewer is left or stays.
use Rattle.mc_ui.specs.declared.asks.KeyAct.{KeyAct}
use Rattle.mc_ui.specs.declared.ui.viewer_keys.ViewerDeed.{ViewerDeed}
use Rattle.mc_ui.proofs.Readings.{reads_on}
use Rattle.mc_ui.proofs.ui.Ui.key_in_viewer.Goals as goal

pub returns-clause-reads : goal.returns-clause-reads
returns-clause-reads g c =
    reads_on (λ (deed : ViewerDeed). deed.refusals) (λ (act : KeyAct). act.refusals) c.in_ok-deed.field-0 c.leave_or_stay.result
    (g.T.ReadTree.contents c.args.tree.now) (g.T.ReadTree.contents c.work_viewer-deed.new.tree)
    (g.T.ReadTree.fault_count c.args.tree.now) (g.T.ReadTree.fault_count c.work_viewer-deed.new.tree)
    c.leave_or_stay.ensures.refusals c.in_ok-deed.ensures.reads

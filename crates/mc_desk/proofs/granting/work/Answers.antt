-- A key as the screen works it, and what is decided about it.
use Rattle.std.proofs.Common.{ap, ◌∙◌}
use Rattle.mc_ui.specs.Screens.{settled_screen}
use Rattle.mc_desk.specs.Granting.{told_of}
use Rattle.mc_desk.proofs.Asking.{keeps_size, worked}
use Rattle.mc_desk.proofs.granting.work.Goals as goal

pub returns-in-Ok-clause-worked : goal.returns-in-Ok-clause-worked
returns-in-Ok-clause-worked g c =
    let act = c.in_ok-act.act in
    let key = c.in_ok-act.ensures in
    let done = c.in-Ok.granted in
    worked (g.T.ReadTree.contents c.args.tree.now) c.args.rows.now c.args.next c.args.now c.args.key act.refusals act.ask c.args.ui.now c.key.new.self done.refusals c.settle.new.self done.deed key.leads key.asks.asked key.asks.stays key.asks.alone
    c.key.ensures.settled c.in-Ok.ensures.granted (c.settle.ensures.settled ∙ ap (λ t. settled_screen t c.key.new.self) c.told.ensures) (keeps_size (told_of done.deed) c.args.ui.now c.key.new.self c.settle.new.self c.key.ensures.size (c.settle.ensures.settled ∙ ap (λ t. settled_screen t c.key.new.self) c.told.ensures))

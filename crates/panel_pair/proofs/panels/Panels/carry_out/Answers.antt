-- Enter leads where it leads in the current panel.
use Rattle.panel_pair.proofs.CommandLemmas.{entered}
use Rattle.panel_pair.proofs.panels.Panels.carry_out.Goals as goal

pub returns-in_ok-enter-in-Enter-clause-done : goal.returns-in_ok-enter-in-Enter-clause-done
returns-in_ok-enter-in-Enter-clause-done g c =
    entered c.args.command c.args.page c.args.self.now c.self-in-Enter.inside.current c.self-in-Enter.inside.other c.enter.new.self
    c.self-in-Enter.inside.side c.self-in-Enter.inside.patterns c.in_ok-enter-in-Enter.field-0 c.in-Enter.is c.self-in-Enter.view_is c.in_ok-enter-in-Enter.ensures.done

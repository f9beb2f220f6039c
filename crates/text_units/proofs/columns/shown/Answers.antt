-- What is no text doesn't show as itself, and a text does if it can be drawn.
use Rattle.text_units.proofs.UnitLemmas.{not_shown, shown-text}
use Rattle.text_units.proofs.columns.shown.Goals as goal

pub returns-in-Ok-clause-text : goal.returns-in-Ok-clause-text
returns-in-Ok-clause-text c =
    rw (shown-text c.args.unit.now c.in-Ok.ensures.cases.1, ← c.in-Ok.ensures.cases.0) c.drawable.ensures.same

pub returns-in-Err-clause-text : goal.returns-in-Err-clause-text
returns-in-Err-clause-text c = not_shown c.args.unit.now c.in-Err.ensures.cases.0

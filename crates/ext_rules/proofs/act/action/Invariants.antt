-- What is left decides.
use Rattle.std.proofs.Common.{◌≡◌, drop}
use Rattle.ext_rules.specs.Actions.{first_met}
use Rattle.ext_rules.proofs.act.action.Given as goal

abbrev pub invariant-loop-rule : goal.invariant-loop-rule
invariant-loop-rule l =
    first_met l.all l.key l.kind l.name (drop l.rule-index l.all) ≡ first_met l.all l.key l.kind l.name l.all

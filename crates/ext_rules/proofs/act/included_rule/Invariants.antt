-- What is left decides.
use Rattle.std.proofs.Common.{◌≡◌, drop}
use Rattle.ext_rules.specs.Actions.{included_rule}
use Rattle.ext_rules.proofs.act.included_rule.Given as goal

abbrev pub invariant-loop-rule : goal.invariant-loop-rule
invariant-loop-rule l = included_rule l.name (drop l.rule-index l.rules) ≡ included_rule l.name l.rules

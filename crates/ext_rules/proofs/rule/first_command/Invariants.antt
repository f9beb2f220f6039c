-- What is left decides.
use Rattle.std.proofs.Common.{◌≡◌, drop}
use Rattle.ext_rules.specs.Actions.{first_command}
use Rattle.ext_rules.proofs.rule.first_command.Given as goal

abbrev pub invariant-loop-action : goal.invariant-loop-action
invariant-loop-action l = first_command l.key (drop l.action-index l.actions) ≡ first_command l.key l.actions

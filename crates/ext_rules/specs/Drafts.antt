-- Rules as far as a file is read: the last of them may have more actions yet.
use Rattle.std.specs.Prelude.{Bool, true, false, List, [], ◌∷◌, ◌++◌}
use Rattle.ext_rules.specs.declared.actions.Action.{Action}
use Rattle.ext_rules.specs.declared.line.LineRead.{LineRead}
use Rattle.ext_rules.specs.FileRules.{FileRule}
use Rattle.ext_rules.specs.ExtFiles.{leading_actions, rules_said}

-- there is a rule already
abbrev pub has_rule : List FileRule → Bool
has_rule [] = false
has_rule (rule ∷ rules) = true

-- more actions at the last of some rules
abbrev pub extended_rules : List FileRule → List Action → List FileRule
extended_rules [] more = []
extended_rules (rule ∷ []) more = record { condition = rule.condition; actions = rule.actions ++ more } ∷ []
extended_rules (rule ∷ next ∷ rules) more = rule ∷ extended_rules (next ∷ rules) more

-- the rules so far, with what other lines say behind them
abbrev pub continued_rules : List FileRule → List LineRead → List FileRule
continued_rules rules lines = extended_rules rules (leading_actions lines) ++ rules_said lines

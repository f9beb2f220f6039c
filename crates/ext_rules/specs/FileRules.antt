-- A rule of an extension file (mc(1), "Extension File Edit").
use Rattle.std.specs.Prelude.{List}
use Rattle.ext_rules.specs.declared.actions.Action.{Action}
use Rattle.ext_rules.specs.declared.condition.Condition.{Condition}

-- what a rule asks, and its actions in the order of their lines
pub record FileRule : Type 0 where
  pub condition : Condition
  pub actions : List Action

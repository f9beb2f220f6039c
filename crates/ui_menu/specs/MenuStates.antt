-- The menu on the screen. Own.
use Rattle.std.specs.Prelude.{ℕ, List}
use Rattle.mc_dialogs.specs.ListKeys.{ListState}
use Rattle.ui_menu.specs.declared.stage.Stage.{Stage}

-- the box of titles, the command of each, and what the menu is at
pub record MenuScreen : Type 0 where
  pub list : ListState
  pub commands : List (List ℕ)
  pub stage : Stage

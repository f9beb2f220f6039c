-- A command of which a prompt is asked. Own.
use Rattle.std.specs.Prelude.{ℕ, List}
use Rattle.mc_text.specs.Routes.{Route}
use Rattle.mc_dialogs.specs.InputKeys.{InputState}
use Rattle.percent_macros.specs.declared.pieces.Expanded.{Expanded}

-- the command, the folder in which it is to be run, the answers so far, and the line that asks for the
-- next one
pub record PromptsState : Type 0 where
  pub expanded : Expanded
  pub folder : Route
  pub answers : List (List ℕ)
  pub line : InputState

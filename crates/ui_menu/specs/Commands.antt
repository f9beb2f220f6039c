-- What is run of a command that was asked for (mc(1), "Macro Substitution").
use Rattle.std.specs.Prelude.{ℕ, List}
use Rattle.mc_text.specs.Routes.{Route}
use Rattle.percent_macros.specs.declared.pieces.Expanded.{Expanded}
use Rattle.percent_macros.specs.Commands.{filled_command}
use Rattle.ui_menu.specs.declared.command.Command.{Command}

-- the command with the answers in their prompts' places, in this folder
abbrev pub command_of : Expanded → List (List ℕ) → Route → Command
command_of expanded answers folder = record {
  text = filled_command expanded.pieces answers;
  folder = folder;
  untag_here = expanded.untag_here;
  untag_other = expanded.untag_other;
}

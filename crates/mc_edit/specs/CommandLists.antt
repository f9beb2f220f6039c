-- What a list of commands leaves.
use Rattle.std.specs.Prelude.{List, [], ◌∷◌, Result, Ok, Err}
use Rattle.mc_edit.specs.declared.command.EditCmd.{EditCmd}
use Rattle.mc_edit.specs.declared.error.EditError.{EditError}
use Rattle.mc_edit.specs.Edits.{EditedText}
use Rattle.mc_edit.specs.Commands.{after_command}

-- the text that is given, or else the one from before
abbrev pub or_same : Result EditedText EditError → EditedText → EditedText
or_same (Ok after) before = after
or_same (Err error) before = before

-- each command acts on what the one before it left; a refused one leaves what was there
abbrev pub after_commands : List EditCmd → EditedText → EditedText
after_commands [] edited = edited
after_commands (cmd ∷ later) edited = after_commands later (or_same (after_command cmd edited) edited)

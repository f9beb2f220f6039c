-- The keys of the editor, while nothing asks over it (mcedit(1); the function keys are those of its bottom
-- line, control and meta with a letter are own).
use Rattle.std.specs.Prelude.{ℕ, ◌-◌, ◌==◌, if◌then◌else◌}
use Rattle.key_screen.specs.declared.keys.Key.{Key}
use Rattle.key_screen.specs.declared.keys.Base.{Base}
use Rattle.key_screen.specs.declared.keys.Base.TheVariants as key
use Rattle.mc_edit.specs.declared.command.EditCmd.TheVariants as cmd
use Rattle.ui_editor.specs.declared.asking.Question.TheVariants.{Line, Replace, Search}
use Rattle.ui_editor.specs.declared.command.EditorCommand.{EditorCommand}
use Rattle.ui_editor.specs.declared.command.EditorCommand.TheVariants.{Edit, Ask, Save, Leave, Nothing}

-- how many rows a page has, on a screen of so many lines: one has the title, and one the keys
abbrev pub page_of : ℕ → ℕ
page_of lines = lines - 2

-- what a function key does
abbrev pub function_command : ℕ → EditorCommand
function_command number =
    if number == 2 then Save
    else if number == 3 then Edit cmd.Mark
    else if number == 4 then Ask Replace
    else if number == 5 then Edit cmd.CopyBlock
    else if number == 6 then Edit cmd.MoveBlock
    else if number == 7 then Ask Search
    else if number == 8 then Edit cmd.DeleteBlock
    else if number == 10 then Leave
    else Nothing

-- what control with a letter does: `k` deletes to the line's end, `u` undoes, `y` deletes the line
abbrev pub control_command : ℕ → EditorCommand
control_command letter =
    if letter == 107 then Edit cmd.DeleteToEnd
    else if letter == 117 then Edit cmd.Undo
    else if letter == 121 then Edit cmd.DeleteLine
    else Nothing

-- what a character with meta does: `<` and `>` go to the text's ends, `b` to the other bracket, `l` to a
-- line, `r` makes a change again
abbrev pub meta_character : ℕ → EditorCommand
meta_character character =
    if character == 60 then Edit cmd.TextStart
    else if character == 62 then Edit cmd.TextEnd
    else if character == 98 then Edit cmd.Bracket
    else if character == 108 then Ask Line
    else if character == 114 then Edit cmd.Redo
    else Nothing

-- what a key with meta does
abbrev pub meta_command : Base → EditorCommand
meta_command (key.Char character) = meta_character character
meta_command other = Nothing

-- what a key without meta does, where a page has so many rows
abbrev pub plain_command : ℕ → Base → EditorCommand
plain_command page (key.Char character) = Edit (cmd.Insert character)
plain_command page (key.Ctrl letter) = control_command letter
plain_command page (key.F number) = function_command number
plain_command page key.Up = Edit cmd.Up
plain_command page key.Down = Edit cmd.Down
plain_command page key.Left = Edit cmd.Left
plain_command page key.Right = Edit cmd.Right
plain_command page key.Home = Edit cmd.LineStart
plain_command page key.End = Edit cmd.LineEnd
plain_command page key.Delete = Edit cmd.DeleteUnder
plain_command page key.PgUp = Edit (cmd.PageUp page)
plain_command page key.PgDn = Edit (cmd.PageDown page)
plain_command page key.Enter = Edit cmd.NewLine
plain_command page key.Tab = Edit (cmd.Insert 9)
plain_command page key.Backspace = Edit cmd.Backspace
plain_command page key.Escape = Leave
plain_command page other = Nothing

-- what a key does
abbrev pub editor_command : ℕ → Key → EditorCommand
editor_command page key = if key.meta then meta_command key.base else plain_command page key.base

-- A menu's entries and its first fault (mc(1), "Menu File Edit"; the refusals are own).
use Rattle.std.specs.Prelude.{◌≡◌, ℕ, ◌+◌, Bool, true, false, if◌then◌else◌}
use Rattle.std.specs.Prelude.{List, [], ◌∷◌, Option, Some, None}
use Rattle.std.specs.List.{join_with_byte}
use Rattle.std.specs.Str.{is_utf8}
use Rattle.std.specs.Str.Lossy.{utf8_valid_len}
use Rattle.tagging.specs.declared.pattern.PatternKind.{PatternKind}
use Rattle.tagging.specs.declared.pattern.PatternKind.TheVariants.{Shell, Regex}
use Rattle.text_scan.specs.Lines.{lines_of}
use Rattle.user_menu.specs.Menus.{MenuEntry}
use Rattle.user_menu.specs.MenuLines.{reading_of}
use Rattle.user_menu.specs.declared.error.MenuError.{MenuError}
use Rattle.user_menu.specs.declared.error.MenuError.TheVariants as fault
use Rattle.user_menu.specs.declared.line.Asked as one
use Rattle.user_menu.specs.declared.line.LineRead.{LineRead}
use Rattle.user_menu.specs.declared.line.LineRead.TheVariants.{Passed, Command, Asked}
use Rattle.user_menu.specs.declared.line.LineRead.TheVariants.{Patterns, Title, BadCondition}

-- the kind of the patterns at the begin
abbrev pub kind_first : Bool → PatternKind
kind_first true = Shell
kind_first false = Regex

-- the kind of the patterns behind a line
abbrev pub kind_after : PatternKind → LineRead → PatternKind
kind_after kind Passed = kind
kind_after kind (Command line) = kind
kind_after kind (Asked asked) = kind
kind_after kind (Patterns next) = next
kind_after kind (Title title) = kind
kind_after kind BadCondition = kind

-- what lines say, each where patterns are of the kind that was set last
abbrev pub said_by : PatternKind → List (List ℕ) → List LineRead
said_by kind [] = []
said_by kind (line ∷ lines) = reading_of kind line ∷ said_by (kind_after kind (reading_of kind line)) lines

-- what the lines of a text say
abbrev pub readings : PatternKind → List ℕ → List LineRead
readings kind text = said_by kind (lines_of text)

-- the conditions that stand before the next title
abbrev pub conditions_ahead : List LineRead → List one.Asked
conditions_ahead [] = []
conditions_ahead (Passed ∷ lines) = conditions_ahead lines
conditions_ahead (Command line ∷ lines) = conditions_ahead lines
conditions_ahead (Asked asked ∷ lines) = asked ∷ conditions_ahead lines
conditions_ahead (Patterns kind ∷ lines) = conditions_ahead lines
conditions_ahead (Title title ∷ lines) = []
conditions_ahead (BadCondition ∷ lines) = conditions_ahead lines

-- the command lines that stand before the next title
abbrev pub commands_ahead : List LineRead → List (List ℕ)
commands_ahead [] = []
commands_ahead (Passed ∷ lines) = commands_ahead lines
commands_ahead (Command line ∷ lines) = line ∷ commands_ahead lines
commands_ahead (Asked asked ∷ lines) = commands_ahead lines
commands_ahead (Patterns kind ∷ lines) = commands_ahead lines
commands_ahead (Title title ∷ lines) = []
commands_ahead (BadCondition ∷ lines) = commands_ahead lines

-- command lines, joined by newlines
abbrev pub joined_lines : List (List ℕ) → Option (List ℕ)
joined_lines [] = None
joined_lines (line ∷ lines) = Some (join_with_byte 10 (line ∷ lines))

-- each title with the conditions that stand between the title before and it, and the commands up to the
-- next one; `conditions` are those of the next title
abbrev pub entries_behind : (conditions : List one.Asked) → List LineRead → List MenuEntry
entries_behind conditions [] = []
entries_behind conditions (Passed ∷ lines) = entries_behind conditions lines
entries_behind conditions (Command line ∷ lines) = entries_behind conditions lines
entries_behind conditions (Asked asked ∷ lines) = entries_behind conditions lines
entries_behind conditions (Patterns kind ∷ lines) = entries_behind conditions lines
entries_behind conditions (Title title ∷ lines) =
    record { conditions = conditions; title = title; commands = joined_lines (commands_ahead lines) }
    ∷ entries_behind (conditions_ahead lines) lines
entries_behind conditions (BadCondition ∷ lines) = entries_behind conditions lines

abbrev pub entries_of : List LineRead → List MenuEntry
entries_of lines = entries_behind (conditions_ahead lines) lines

-- the first fault of lines that are counted from `at`; a command stands behind some title
abbrev pub fault_from : ℕ → (after_title : Bool) → List LineRead → Option MenuError
fault_from at after_title [] = None
fault_from at after_title (Passed ∷ lines) = fault_from (at + 1) after_title lines
fault_from at after_title (Command line ∷ lines) =
    if after_title then fault_from (at + 1) true lines else Some (fault.CommandBeforeTitle at)
fault_from at after_title (Asked asked ∷ lines) = fault_from (at + 1) after_title lines
fault_from at after_title (Patterns kind ∷ lines) = fault_from (at + 1) after_title lines
fault_from at after_title (Title title ∷ lines) = fault_from (at + 1) true lines
fault_from at after_title (BadCondition ∷ lines) = Some (fault.BadCondition at)

-- the first fault of a file: bytes that are no text, or else a line
abbrev pub menu_fault : Bool → List ℕ → Option MenuError
menu_fault shell_patterns bytes =
    if is_utf8 bytes then fault_from 1 false (readings (kind_first shell_patterns) bytes)
    else Some (fault.NotText (utf8_valid_len bytes))

-- the bytes are a file of these entries
pub record IsMenuFile (shell_patterns : Bool) (bytes : List ℕ) (entries : List MenuEntry) : Type 0 where
  pub faultless : menu_fault shell_patterns bytes ≡ None
  pub entries_are : entries ≡ entries_of (readings (kind_first shell_patterns) bytes)

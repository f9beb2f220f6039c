-- The grammar of a hotlist's file: which bytes mean which list (own). It is apart from
-- reading and from printing.
use Rattle.std.specs.Prelude.{◌≡◌, ℕ, zero, suc, ◌+◌, Bool, true, false, not, ◌&&◌}
use Rattle.std.specs.Prelude.{if◌then◌else◌, List, [], ◌∷◌, ◌++◌, Option, Some, None, option_map}
use Rattle.std.specs.Str.{IsUtf8, is_utf8}
use Rattle.std.specs.Str.Lossy.{utf8_valid_len}
use Rattle.text_scan.specs.Lines.{lines_of}
use Rattle.hotlist.specs.HotLists.{HotList, NoMore, AnEntry, AGroup, is_within}
use Rattle.hotlist.specs.HotLines.{ParsedLine, EntryLine, GroupLine, EndLine}
use Rattle.hotlist.specs.HotLines.{LineReading, Passed, Parsed, Bad, reading_of}
use Rattle.hotlist.specs.declared.error.HotError.{HotError}
use Rattle.hotlist.specs.declared.error.HotError.TheVariants.{NotText, BadLine, TooDeep, UnclosedGroup}

-- the lines that say a list: a group's items stand between its line and its end
abbrev pub lines_that_say : HotList → List ParsedLine
lines_that_say NoMore = []
lines_that_say (AnEntry label path others) = EntryLine label path ∷ lines_that_say others
lines_that_say (AGroup label items others) =
    GroupLine label ∷ (lines_that_say items ++ EndLine ∷ lines_that_say others)

-- what one line says, before what the others say
abbrev pub said_before : LineReading → Option (List ParsedLine) → Option (List ParsedLine)
said_before Passed said = said
said_before (Parsed line) said = option_map (λ lines. line ∷ lines) said
said_before Bad said = None

-- what the lines of a text say; nothing where one is bad
abbrev pub said_by : List (List ℕ) → Option (List ParsedLine)
said_by [] = Some []
said_by (line ∷ lines) = said_before (reading_of line) (said_by lines)

-- the bytes are a text whose lines say the list, nested to at most 32
pub record IsHotlist (bytes : List ℕ) (list : HotList) : Type 0 where
  pub text : IsUtf8 bytes
  pub said : said_by (lines_of bytes) ≡ Some (lines_that_say list)
  pub nested : is_within 32 list ≡ true

-- the outermost of the groups that are unclosed, given by their lines, the innermost first
abbrev pub outermost : List ℕ → ℕ
outermost [] = 0
outermost (line ∷ []) = line
outermost (line ∷ next ∷ lines) = outermost (next ∷ lines)

-- the fault of a line at `at`, or that of the lines behind it, where `room` groups may be opened yet, and
-- those of the lines `unclosed` are open
abbrev pub fault_at : LineReading → ℕ → ℕ → List ℕ → (ℕ → List ℕ → Option HotError) → Option HotError
fault_at Passed at room unclosed behind = behind room unclosed
fault_at Bad at room unclosed behind = Some (BadLine at)
fault_at (Parsed (EntryLine label path)) at room unclosed behind = behind room unclosed
fault_at (Parsed (GroupLine label)) at zero unclosed behind = Some (TooDeep at)
fault_at (Parsed (GroupLine label)) at (suc room) unclosed behind = behind room (at ∷ unclosed)
fault_at (Parsed EndLine) at room [] behind = Some (BadLine at)
fault_at (Parsed EndLine) at room (line ∷ unclosed) behind = behind (suc room) unclosed

-- the first fault of lines that are counted from `at`
abbrev pub fault_from : ℕ → List (List ℕ) → ℕ → List ℕ → Option HotError
fault_from at [] room [] = None
fault_from at [] room (line ∷ unclosed) = Some (UnclosedGroup (outermost (line ∷ unclosed)))
fault_from at (line ∷ lines) room unclosed =
    fault_at (reading_of line) at room unclosed (fault_from (at + 1) lines)

-- the first fault of a file: bytes that are no text, or else a line
abbrev pub hotlist_fault : List ℕ → Option HotError
hotlist_fault bytes =
    if is_utf8 bytes then fault_from 1 (lines_of bytes) 32 [] else Some (NotText (utf8_valid_len bytes))

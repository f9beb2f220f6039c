-- What the code reads of a line, as the grammar says it.
use Rattle.std.specs.Prelude.{ℕ, List, ◌++◌, Option, Some, None, option_and_then, codes}
use denote.Ref.{Bor}
use Rattle.hotlist.specs.declared.lines.HotLine.{HotLine}
use Rattle.hotlist.specs.declared.lines.HotLine.TheVariants.{Entry, Group, End}
use Rattle.hotlist.specs.declared.lines.LineRead.{LineRead}
use Rattle.hotlist.specs.declared.lines.LineRead.TheVariants as read
use Rattle.hotlist.specs.HotLines as said

abbrev pub parsed_line : HotLine → said.ParsedLine
parsed_line (Entry label path) = said.EntryLine label path
parsed_line (Group label) = said.GroupLine label
parsed_line End = said.EndLine

abbrev pub reading_view : LineRead → said.LineReading
reading_view read.Passed = said.Passed
reading_view (read.Said line) = said.Parsed (parsed_line line)
reading_view read.Bad = said.Bad

-- a text that was read, and the text behind it
abbrev pub read_view : Option (List ℕ × Bor (List ℕ)) → Option said.ReadText
read_view None = None
read_view (Some (text, rest)) = Some (record { text = text; rest = rest.now })

-- bytes in front of a text that was read
abbrev pub with_bytes : List ℕ → Option said.ReadText → Option said.ReadText
with_bytes bytes None = None
with_bytes bytes (Some read) = Some (record { text = bytes ++ read.text; rest = read.rest })

-- an entry's path behind its label
abbrev pub path_behind : List ℕ → Option said.ReadText
path_behind text = option_and_then said.spaced_text
    (option_and_then (said.behind_word (codes "URL")) (said.behind_blanks text))

-- a line by its first word
abbrev pub reading_of_text : List ℕ → said.LineReading
reading_of_text text =
    said.behind_first_word (said.behind_word (codes "ENTRY") text) (said.behind_word (codes "GROUP") text)
    (said.behind_word (codes "ENDGROUP") text)

-- What is asked for before a search, and the lines that ask it. Own.
use Rattle.std.specs.Prelude.{◌≡◌, ⊤, [], codes}
use Rattle.mc_dialogs.specs.InputKeys.{InputState}
use Rattle.ui_words.specs.declared.replies.LineReply.{LineReply}
use Rattle.ui_words.specs.declared.replies.LineReply.TheVariants as line
use Rattle.ui_find.specs.declared.asking.Asked.{Asked}
use Rattle.ui_find.specs.declared.asking.Asked.TheVariants.{Start, Names, Content}
use Rattle.ui_find.specs.declared.asking.Asking.{Asking}

-- the lines as they open: their titles, and their texts at first
abbrev pub start_line : InputState
start_line = record { title = codes "Find from"; before = codes "."; behind = [] }

abbrev pub names_line : InputState
names_line = record { title = codes "Name pattern"; before = codes "*"; behind = [] }

abbrev pub content_line : InputState
content_line = record { title = codes "Content"; before = []; behind = [] }

abbrev pub line_of : Asked → InputState
line_of Start = start_line
line_of (Names start) = names_line
line_of (Content start name) = content_line

-- this is asked for, with its line as it opens
abbrev pub asks : Asked → Asking
asks asked = record { asked = asked; line = line_of asked }

-- a line is as it was where its text was taken
abbrev pub StaysWhereTaken : LineReply → InputState → InputState → Type 0
StaysWhereTaken line.Stays before after = ⊤
StaysWhereTaken line.Shuts before after = ⊤
StaysWhereTaken (line.Takes text) before after = after ≡ before

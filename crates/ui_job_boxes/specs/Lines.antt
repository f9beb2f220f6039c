-- What typing in a line, or in a mode box, comes to besides what it makes of it.
use Rattle.std.specs.Prelude.{◌≡◌, ◌<◌, ⊤}
use Rattle.mc_dialogs.specs.InputKeys.{InputState}
use Rattle.ui_words.specs.declared.replies.LineReply.{LineReply}
use Rattle.ui_words.specs.declared.replies.LineReply.TheVariants as line
use Rattle.ui_words.specs.declared.replies.ModeReply.{ModeReply}
use Rattle.ui_words.specs.declared.replies.ModeReply.TheVariants as asked
use Rattle.mc_dialogs.specs.ModeKeys.{ModeState}

-- a line is as it was where it was shut, or its text taken
abbrev pub StaysWhereTaken : LineReply → InputState → InputState → Type 0
StaysWhereTaken line.Stays before after = ⊤
StaysWhereTaken line.Shuts before after = after ≡ before
StaysWhereTaken (line.Takes text) before after = after ≡ before

-- a mode that is taken has twelve bits, and its box is as it was; so it is where it was shut
abbrev pub StaysWhereGiven : ModeReply → ModeState → ModeState → Type 0
StaysWhereGiven asked.Stays before after = ⊤
StaysWhereGiven asked.Shuts before after = after ≡ before
StaysWhereGiven (asked.Takes mode) before after = (mode < 4096) × (after ≡ before)

-- How a run begins, by its words and by the folder in which it was started: with a session, or with a text
-- that is printed in place of one.
use Rattle.std.specs.Prelude.{◌≡◌, ℕ, List, [], ◌∷◌, ◌++◌, Option, Some, None, codes}
use Rattle.main_words.specs.declared.words.Words.{Words}
use Rattle.main_words.specs.declared.words.Words.TheVariants.{Panels, View, NotBuilt}
use Rattle.main_words.specs.declared.words.Words.TheVariants as asked
use Rattle.main_words.specs.Folders.{home_in, started_in}
use Rattle.main_words.specs.Asked.{asked_by}
use Rattle.main_words.specs.Sizes.{size_said}
use Rattle.mc_desk.specs.declared.starts.Start.{Start}
use Rattle.mc_desk.specs.declared.starts.StartMode.{StartMode}
use Rattle.mc_desk.specs.declared.starts.StartMode.TheVariants as opens
use Rattle.mc_desk.specs.declared.starts.StartPlace.{StartPlace}
use Rattle.mc_desk.specs.declared.starts.StartPlace.TheVariants.{Left, Right, File}
use Rattle.mc_main.specs.declared.run.Env.{Env}
use Rattle.mc_main.specs.declared.words.Surroundings.{Surroundings}
use Rattle.mc_main.specs.declared.words.Printed.{Printed}
use Rattle.mc_main.specs.declared.words.Printed.TheVariants.{Usage, Help, Version}
use Rattle.mc_main.specs.declared.words.Typed.{Typed}
use Rattle.mc_main.specs.declared.words.Typed.TheVariants as said
use Rattle.mc_main.specs.declared.words.Beginning.{Beginning}
use Rattle.mc_main.specs.declared.words.Beginning.TheVariants.{Session, Print}

-- what the words ask for, in a program that was started in the folder of this text
unfoldable pub asked_in : List ℕ → List (List ℕ) → Option Words
asked_in folder words = asked_by (started_in folder) words

-- What is printed in place of a session: the help or the version where they are asked for, and how the
-- program is called where the words are out of the profile, or for what isn't built yet.
abbrev pub printed_for : Option Words → Option Printed
printed_for None = Some Usage
printed_for (Some asked.Help) = Some Help
printed_for (Some asked.Version) = Some Version
printed_for (Some (Panels left right)) = None
printed_for (Some (View file)) = None
printed_for (Some NotBuilt) = Some Usage

-- how the program is called
abbrev pub usage_line : List ℕ
usage_line =
    codes "usage: mc [-b] [-V] [-h] [-P FILE] [-v FILE | -e FILE | --drill N | DIR1 [DIR2]]" ++ 10 ∷ []

-- what the keys do
abbrev pub keys_line : List ℕ
keys_line =
    codes "F1 help  F2 menu  F3 view  F4 edit  F5 copy  F6 move  F7 mkdir  F8 delete  F9 options  F10 quit"
    ++ 10 ∷ []

abbrev pub text_of : Printed → List ℕ
text_of Usage = usage_line
text_of Help = usage_line ++ keys_line
text_of Version = codes "mc profile 1" ++ 10 ∷ []

-- the status of a run that printed it
abbrev pub status_with : Printed → ℕ
status_with Usage = 1
status_with Help = 0
status_with Version = 0

-- the size of the screen, and HOME, as the surroundings say them
unfoldable pub surroundings_in : Env → Surroundings
surroundings_in env = let size = size_said env.lines env.columns in
    record { home = home_in env.home; lines = size.lines; columns = size.columns }

-- the words ask for a session of these paths, which were typed so
abbrev pub AskFor : Option Words → StartMode → Typed → Type 0
AskFor words (opens.Panels left right) (said.Panels on_left on_right) =
    words
    ≡ Some (Panels (record { typed = on_left; path = left }) (record { typed = on_right; path = right }))
AskFor words (opens.Panels left right) (said.File word) = ⊥
AskFor words (opens.View path) (said.Panels on_left on_right) = ⊥
AskFor words (opens.View path) (said.File word) = words ≡ Some (View (record { typed = word; path = path }))

-- a run begins as its words ask for it, in these surroundings
abbrev pub IsBeginning : Surroundings → Option Words → Beginning → Type 0
IsBeginning around words (Print printed) = printed_for words ≡ Some printed
IsBeginning around words (Session start typed) =
    AskFor words start.mode typed × (start.home ≡ around.home) × (start.lines ≡ around.lines)
    × (start.columns ≡ around.columns)

-- what a session starts with in these surroundings
abbrev pub start_with : Surroundings → StartMode → Start
start_with around mode =
    record { mode = mode; home = around.home; lines = around.lines; columns = around.columns }

-- what the session starts with that is asked for
abbrev pub session_start : Surroundings → Option Words → Option Start
session_start around None = None
session_start around (Some asked.Help) = None
session_start around (Some asked.Version) = None
session_start around (Some (Panels left right)) = Some (start_with around (opens.Panels left.path right.path))
session_start around (Some (View file)) = Some (start_with around (opens.View file.path))
session_start around (Some NotBuilt) = None

-- what the session starts with that words and surroundings ask for
abbrev pub start_in : Env → List (List ℕ) → Option Start
start_in env words = session_start (surroundings_in env) (asked_in env.folder words)

-- What was typed for a path of the session. One that views a file has one word, and one of panels, which
-- views none, has the left panel's in its place.
abbrev pub word_for : StartPlace → Typed → List ℕ
word_for place (said.File word) = word
word_for Left (said.Panels left right) = left
word_for Right (said.Panels left right) = right
word_for File (said.Panels left right) = left

-- the word that names a path of the session, or without a word the folder in which the program was started
abbrev pub start_word : StartPlace → Option Words → List ℕ
start_word place None = []
start_word place (Some asked.Help) = []
start_word place (Some asked.Version) = []
start_word place (Some (Panels left right)) = word_for place (said.Panels left.typed right.typed)
start_word place (Some (View file)) = word_for place (said.File file.typed)
start_word place (Some NotBuilt) = []

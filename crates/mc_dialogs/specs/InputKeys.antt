-- The line that asks for a text, and what it makes of a key (mc(1), "Input Line Keys"). Clusters
-- are the extended grapheme clusters of UAX #29; the text before the cursor and that behind it are
-- cut into clusters apart.
use Rattle.std.specs.Prelude.{ℕ, ◌+◌, ◌-◌, Bool, true, false, ◌==◌, ◌||◌, nat_le}
use Rattle.std.specs.Prelude.{if◌then◌else◌, List, [], ◌++◌, length, take, drop}
use Rattle.std.specs.List.{concat}
use Rattle.std.specs.Prelude.{encode_utf8}
use Rattle.unicode_segmentation.specs.Grapheme.{graphemes}
use Rattle.key_screen.specs.declared.keys.Base.{Base}
use Rattle.key_screen.specs.declared.keys.Base.TheVariants.{Char, Ctrl, Left, Right, Home}
use Rattle.key_screen.specs.declared.keys.Base.TheVariants.{End, Delete, Backspace, Enter}
use Rattle.key_screen.specs.declared.keys.Key.{Key}
use Rattle.mc_dialogs.specs.declared.shut.Shut.{Shut}
use Rattle.mc_dialogs.specs.declared.shut.Shut.TheVariants.{Stay, Closed}
use Rattle.mc_dialogs.specs.declared.shut.Reply.TheVariants.{Cancel, Line}
use Rattle.mc_dialogs.specs.CommonKeys.{cancels}

-- an input line: its title, and the text before the cursor and behind it
pub record InputState : Type 0 where
  pub title : List ℕ
  pub before : List ℕ
  pub behind : List ℕ

-- the first clusters of a text, so many, and those behind them
abbrev pub first_clusters : ℕ → List ℕ → List ℕ
first_clusters count text = concat (take count (graphemes true text))

abbrev pub later_clusters : ℕ → List ℕ → List ℕ
later_clusters count text = concat (drop count (graphemes true text))

-- how many clusters stand before the last one
abbrev pub before_last : List ℕ → ℕ
before_last text = length (graphemes true text) - 1

-- the text without its last cluster, and that cluster
abbrev pub all_but_last : List ℕ → List ℕ
all_but_last text = first_clusters (before_last text) text

abbrev pub last_cluster : List ℕ → List ℕ
last_cluster text = later_clusters (before_last text) text

-- a character is put before the cursor, unless the text would pass 4,096 bytes
abbrev pub with_char : InputState → ℕ → InputState
with_char s code =
    if nat_le (length s.before + length s.behind + length (encode_utf8 code)) 4096
    then record s { before = s.before ++ encode_utf8 code } else s

-- the cursor at the start and at the end
abbrev pub at_start : InputState → InputState
at_start s = record s { before = []; behind = s.before ++ s.behind }

abbrev pub at_end : InputState → InputState
at_end s = record s { before = s.before ++ s.behind; behind = [] }

-- control with a letter: `a` and `e` go to the ends, `k` cuts to the end, `u` empties
abbrev pub controlled_input : InputState → ℕ → InputState
controlled_input s letter =
    if letter == 97 then at_start s
    else if letter == 101 then at_end s
    else if letter == 107 then record s { behind = [] }
    else if letter == 117 then record s { before = []; behind = [] }
    else s

-- an input line after a key without meta
abbrev pub input_typed : InputState → Base → InputState
input_typed s (Char code) = with_char s code
input_typed s (Ctrl letter) = controlled_input s letter
input_typed s Backspace = record s { before = all_but_last s.before }
input_typed s Delete = record s { behind = later_clusters 1 s.behind }
input_typed s Left = record s { before = all_but_last s.before; behind = last_cluster s.before ++ s.behind }
input_typed s Right =
    record s { before = s.before ++ first_clusters 1 s.behind; behind = later_clusters 1 s.behind }
input_typed s Home = at_start s
input_typed s End = at_end s
input_typed s base = s

-- an input line after a key
abbrev pub input_after : InputState → Key → InputState
input_after s key = if key.meta then s else input_typed s key.base

-- it closes with its text
abbrev pub closed_with : InputState → Bool → Shut
closed_with s background = Closed (Line (s.before ++ s.behind) background)

-- meta with `b` closes it as Enter does, and what is asked for runs in the background
abbrev pub input_meta : InputState → Base → Shut
input_meta s (Char code) = if code == 98 then closed_with s true else Stay
input_meta s base = Stay

abbrev pub input_closed : InputState → Base → Shut
input_closed s Enter = closed_with s false
input_closed s base = if cancels base then Closed Cancel else Stay

-- what it answers
abbrev pub input_shut : InputState → Key → Shut
input_shut s key = if key.meta then input_meta s key.base else input_closed s key.base

-- Which keys take memory: those that put a character, move the cursor or delete by clusters, and those
-- that close with the text.
abbrev pub letter_takes_memory : ℕ → Bool
letter_takes_memory letter = letter == 97 || letter == 101

abbrev pub plain_takes_memory : Base → Bool
plain_takes_memory (Char code) = true
plain_takes_memory (Ctrl letter) = letter_takes_memory letter
plain_takes_memory Backspace = true
plain_takes_memory Delete = true
plain_takes_memory Left = true
plain_takes_memory Right = true
plain_takes_memory Home = true
plain_takes_memory End = true
plain_takes_memory Enter = true
plain_takes_memory base = false

abbrev pub meta_takes_memory : Base → Bool
meta_takes_memory (Char code) = code == 98
meta_takes_memory base = false

abbrev pub takes_memory : Key → Bool
takes_memory key = if key.meta then meta_takes_memory key.base else plain_takes_memory key.base

-- The words of the command line as one simple command of `clap` reads them.
use Rattle.std.specs.Prelude.{◌≡◌, ℕ, Bool, true, false, List, codes, Option, Some, None, option_map}
use Rattle.std.specs.Borrow.{Bor}
use Rattle.std.specs.Str.{bytes_eq}
use Rattle.clap.specs.Words.{App, Row, Rule, Text, fault_of, first_of}
use Rattle.clap.specs.Words.{matches_of, new_app, new_rule, with_rule}
use Rattle.clap.specs.Walk.{is_empty}
use Rattle.clap.specs.Simple.{on_top}
use Rattle.clap.specs.declared.builder.action.ArgAction.TheVariants.{Set, SetTrue}

-- an option of one letter with a value
abbrev pub option_rule : Text → ℕ → Rule
option_rule id short = record (new_rule id) { short = Some short; action = Some Set }

-- a flag of one letter
abbrev pub flag_rule : Text → ℕ → Rule
flag_rule id short = record (new_rule id) { short = Some short; action = Some SetTrue }

-- a word that is told by its place
abbrev pub place_rule : Text → Rule
place_rule id = record (new_rule id) { action = Some Set }

-- `--drill` with a value
abbrev pub drill_rule : Rule
drill_rule = record (new_rule (codes "drill")) { long = Some (codes "drill"); action = Some Set }

-- a command over the words after the program's name, without flags of clap's own
abbrev pub bare_app : App
bare_app =
    on_top (λ s. record s { no_binary_name = true; disable_help_flag = true; disable_version_flag = true })
    (new_app (codes "mc"))

-- `-v FILE`, `-e FILE`, `-P FILE`, `--drill N`
abbrev pub with_options : App → App
with_options a =
    with_rule
    (with_rule (with_rule (with_rule a (option_rule (codes "view") 118)) (option_rule (codes "edit") 101))
    (option_rule (codes "place") 80)) drill_rule

-- `-b`, `-V`, `-h`
abbrev pub with_flags : App → App
with_flags a =
    with_rule (with_rule (with_rule a (flag_rule (codes "black") 98)) (flag_rule (codes "version") 86))
    (flag_rule (codes "help") 104)

-- `DIR1` and `DIR2`
abbrev pub with_folders : App → App
with_folders a = with_rule (with_rule a (place_rule (codes "left"))) (place_rule (codes "right"))

-- the command of the program: each of these once at most
unfoldable pub mc_app : App
mc_app = with_folders (with_flags (with_options bare_app))

-- the command takes the words
unfoldable pub are_read : List Text → Bool
are_read words = is_empty (fault_of mc_app words)

-- what it makes of them
unfoldable pub rows_of_words : List Text → List Row
rows_of_words words = matches_of mc_app words

-- the value that the words give an option or a place
unfoldable pub value_in : List Text → Text → Option Text
value_in words id = first_of id (rows_of_words words)

abbrev pub is_true_text : Option Text → Bool
is_true_text None = false
is_true_text (Some text) = bytes_eq text (codes "true")

-- the words have the flag
abbrev pub has_flag : List Text → Text → Bool
has_flag words id = is_true_text (value_in words id)

-- the text is what the words give the id
abbrev pub IsValueOf : List Text → Text → Option (Bor Text) → Type 0
IsValueOf words id given = option_map (λ s. s.now) given ≡ value_in words id

-- The lines of a menu (mc(1), "Menu File Edit"; what is refused is own).
use Rattle.std.specs.Prelude.{ℕ, ◌==◌, if◌then◌else◌, List, [], ◌∷◌, length, Option, Some, None, codes}
use Rattle.std.specs.Option.{option_map_or}
use Rattle.std.specs.Str.{bytes_eq}
use Rattle.tagging.specs.declared.pattern.PatternKind.{PatternKind}
use Rattle.tagging.specs.declared.pattern.PatternKind.TheVariants as kind_of
use Rattle.text_scan.specs.Words.{behind_word, behind_indent, unindented_text}
use Rattle.user_menu.specs.Conditions.{condition_of}
use Rattle.user_menu.specs.declared.condition.Joined.{Joined}
use Rattle.user_menu.specs.declared.line.Purpose.{Purpose}
use Rattle.user_menu.specs.declared.line.Purpose.TheVariants as is_for
use Rattle.user_menu.specs.declared.line.LineRead.{LineRead}
use Rattle.user_menu.specs.declared.line.LineRead.TheVariants.{Passed, Command, Asked}
use Rattle.user_menu.specs.declared.line.LineRead.TheVariants.{Patterns, Title, BadCondition}

-- a condition, if there is one
abbrev pub asked_if : Purpose → Option (List Joined) → LineRead
asked_if purpose None = BadCondition
asked_if purpose (Some condition) = Asked (record { purpose = purpose; condition = condition })

-- the condition behind all marks
abbrev pub condition_line : PatternKind → Purpose → List ℕ → LineRead
condition_line kind purpose text = asked_if purpose (condition_of kind text)

-- the condition behind the marks that say what it is for; a question mark there is skipped
abbrev pub asked_line : PatternKind → Purpose → List ℕ → LineRead
asked_line kind purpose text =
    option_map_or (condition_line kind purpose) (behind_word (codes "?") text)
    (condition_line kind purpose text)

-- a line that sets the kind of the patterns, or else a title
abbrev pub title_line : List ℕ → LineRead
title_line line =
    if bytes_eq line (codes "shell_patterns=0") then Patterns kind_of.Regex else
    if bytes_eq line (codes "shell_patterns=1") then Patterns kind_of.Shell else Title line

-- the marks of a condition, and what it is for
abbrev pub marks : List (List ℕ × Purpose)
marks = (codes "+=", is_for.Both) ∷ (codes "=+", is_for.Both) ∷ (codes "+", is_for.Shown)
    ∷ (codes "=", is_for.Default) ∷ []

-- a line by the first of some marks with which it begins, or else another line
abbrev pub by_mark : PatternKind → List (List ℕ × Purpose) → List ℕ → LineRead
by_mark kind [] line = title_line line
by_mark kind ((mark, purpose) ∷ others) line =
    option_map_or (asked_line kind purpose) (behind_word mark line) (by_mark kind others line)

-- a line that is neither passed over nor a command
abbrev pub word_line : PatternKind → List ℕ → LineRead
word_line kind line = by_mark kind marks line

-- what a line says where patterns are of this kind: an empty one and a comment nothing, one that begins
-- with a blank or tab a command
abbrev pub reading_of : PatternKind → List ℕ → LineRead
reading_of kind line =
    if length line == 0 then Passed else
    option_map_or (λ comment. Passed) (behind_word (codes "#") line)
    (option_map_or (λ words. Command (unindented_text words)) (behind_indent line) (word_line kind line))

-- The lines of an extension file in its older form (mc(1), "Extension File Edit"; what is refused is own).
use Rattle.std.specs.Prelude.{ℕ, ◌==◌, if◌then◌else◌, List, [], ◌∷◌, ◌++◌}
use Rattle.std.specs.Prelude.{length, Option, Some, None, is_some, codes}
use Rattle.std.specs.Option.{option_map_or}
use Rattle.tagging.specs.Patterns.{PatternText}
use Rattle.tagging.specs.declared.pattern.PatternKind.TheVariants.{Regex}
use Rattle.text_scan.specs.Words.{behind_word, behind_indent, unindented_text}
use Rattle.tagging.specs.TypedPatterns.{pattern_in}
use Rattle.ext_rules.specs.declared.actions.Key.{Key}
use Rattle.ext_rules.specs.declared.actions.Key.TheVariants.{Open, View, Edit, Include}
use Rattle.ext_rules.specs.declared.condition.Case.{Case}
use Rattle.ext_rules.specs.declared.condition.Case.TheVariants.{Sensitive, Insensitive}
use Rattle.ext_rules.specs.declared.condition.Condition.{Condition}
use Rattle.ext_rules.specs.declared.condition.Condition.TheVariants.{EndsWith, IsName, FoundInName}
use Rattle.ext_rules.specs.declared.condition.Condition.TheVariants.{FoundInFolder, Nothing}
use Rattle.ext_rules.specs.declared.condition.Condition.TheVariants.{Included, Everything}
use Rattle.ext_rules.specs.declared.line.LineRead.{LineRead}
use Rattle.ext_rules.specs.declared.line.LineRead.TheVariants.{Passed, Rule, Action}
use Rattle.ext_rules.specs.declared.line.LineRead.TheVariants.{Ignored, Unknown, BadPattern}

-- what a text says by the first of some words with which it begins; each gives what is said behind it
abbrev pub by_first_word : List (List ℕ × (List ℕ → LineRead)) → LineRead → List ℕ → LineRead
by_first_word [] other text = other
by_first_word ((word, said) ∷ words) other text =
    option_map_or said (behind_word word text) (by_first_word words other text)

abbrev pub action : Key → List ℕ → LineRead
action key command = Action (record { key = key; command = command })

-- an action without its leading blanks and tabs
abbrev pub action_line : List ℕ → LineRead
action_line =
    by_first_word (
    (codes "Open=", action Open)
    ∷ (codes "View=", action View)
    ∷ (codes "Edit=", action Edit)
    ∷ (codes "Include=", action Include)
    ∷ []
    ) Ignored

-- names that end with a text that begins with a dot, or that very name
abbrev pub shell_condition : Case → List ℕ → Condition
shell_condition case text =
    if is_some (behind_word (codes ".") text) then EndsWith case text else IsName case text

abbrev pub shell_line : List ℕ → LineRead
shell_line text =
    option_map_or (λ behind. Rule (shell_condition Insensitive behind)) (behind_word (codes "i/") text)
    (Rule (shell_condition Sensitive text))

abbrev pub pattern_rule : (PatternText → Condition) → Option PatternText → LineRead
pattern_rule condition None = BadPattern
pattern_rule condition (Some pattern) = Rule (condition pattern)

-- the text with the flag of any case before it
abbrev pub of_any_case : List ℕ → List ℕ
of_any_case text = codes "(?i)" ++ text

abbrev pub regex_line : List ℕ → LineRead
regex_line text =
    option_map_or (λ behind. pattern_rule FoundInName (pattern_in Regex (of_any_case behind)))
    (behind_word (codes "i/") text)
    (pattern_rule FoundInName (pattern_in Regex text))

abbrev pub folder_line : List ℕ → LineRead
folder_line text = pattern_rule FoundInFolder (pattern_in Regex text)

-- nothing stands behind the last word
abbrev pub default_line : List ℕ → LineRead
default_line [] = Rule Everything
default_line (byte ∷ text) = Unknown

-- a line that is neither passed over nor an action
abbrev pub rule_line : List ℕ → LineRead
rule_line =
    by_first_word (
    (codes "shell/", shell_line)
    ∷ (codes "regex/", regex_line)
    ∷ (codes "directory/", folder_line)
    ∷ (codes "type/", λ text. Rule Nothing)
    ∷ (codes "include/", λ name. Rule (Included name))
    ∷ (codes "default/*", default_line)
    ∷ []
    ) Unknown

-- what a line says: an empty one and a comment nothing, one that begins with a blank or tab an action
abbrev pub reading_of : List ℕ → LineRead
reading_of line =
    if length line == 0 then Passed else
    option_map_or (λ comment. Passed) (behind_word (codes "#") line)
    (option_map_or (λ words. action_line (unindented_text words)) (behind_indent line) (rule_line line))

-- Which pattern a typed text is (mc(1), "Select group": a shell pattern, or a regular expression).
use Rattle.std.specs.Prelude.{ℕ, if◌then◌else◌, List, Option, Some, None}
use Rattle.tagging.specs.declared.pattern.PatternKind.{PatternKind}
use Rattle.tagging.specs.Patterns.{PatternText, is_pattern_of}

-- the pattern of a text, if it is one of this kind
abbrev pub pattern_in : PatternKind → List ℕ → Option PatternText
pattern_in kind text = if is_pattern_of kind text then Some (record { kind = kind; text = text }) else None

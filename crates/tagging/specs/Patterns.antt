-- Which names a pattern finds (mc(1), "Select group": a shell pattern, or a regular expression).
use Rattle.std.specs.Prelude.{ℕ, Bool, false, List, Result, Ok, Err, is_ok, is_some, chars}
use Rattle.tagging.specs.Globs.{is_match}
use Rattle.tagging.specs.GlobText.{pattern_of}
use Rattle.tagging.specs.Regexes.{meaning_of, found_in}
use Rattle.tagging.specs.declared.error.PatternError.{PatternError}
use Rattle.tagging.specs.declared.glob.GlobPart.{GlobPart}
use Rattle.tagging.specs.declared.pattern.PatternKind.{PatternKind}
use Rattle.tagging.specs.declared.pattern.PatternKind.TheVariants.{Shell, Regex}

-- a pattern as it was typed
pub record PatternText : Type 0 where
  pub kind : PatternKind
  pub text : List ℕ

-- the text is a pattern of this kind
abbrev pub is_pattern_of : PatternKind → List ℕ → Bool
is_pattern_of Shell text = is_ok (pattern_of text)
is_pattern_of Regex text = is_some (meaning_of text)

abbrev pub is_pattern : PatternText → Bool
is_pattern pattern = is_pattern_of pattern.kind pattern.text

-- the parts that were read match the whole name
abbrev pub matches_read : Result (List GlobPart) PatternError → List ℕ → Bool
matches_read (Ok parts) name = is_match parts (chars name)
matches_read (Err fault) name = false

-- a pattern of this kind finds the name: a shell pattern matches the whole of it, a
-- regular expression a part of it
abbrev pub is_found_by : PatternKind → List ℕ → List ℕ → Bool
is_found_by Shell text name = matches_read (pattern_of text) name
is_found_by Regex text name = found_in text name

abbrev pub is_found : PatternText → List ℕ → Bool
is_found pattern name = is_found_by pattern.kind pattern.text name

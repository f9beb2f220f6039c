-- What a bracket of a shell pattern stands for (POSIX.1-2017, XCU 2.13.1, with ranges by
-- code point and no classes).
use Rattle.std.specs.Prelude.{ℕ, Bool, ◌&&◌, not, nat_le, if◌then◌else◌, List}
use Rattle.std.specs.List.{list_any}
use Rattle.tagging.specs.declared.bracket.Span.{Span}

-- the ranges of a list, and whether the bracket means the characters that they leave out
pub record Bracket : Type 0 where
  pub negated : Bool
  pub spans : List Span

-- a character lies in a range
abbrev pub spans_over : ℕ → Span → Bool
spans_over character span = nat_le span.from character && nat_le character span.to

-- the bracket stands for the character
abbrev pub holds : Bracket → ℕ → Bool
holds bracket character = let listed = list_any (spans_over character) bracket.spans in
    if bracket.negated then not listed else listed

-- How a shell pattern is written (POSIX.1-2017, XCU 2.13.1; that an open bracket and a backslash at the end
-- are refused is our own). Characters are given by their codes: * 42, ? 63, [ 91, ! 33, ] 93, - 45, \ 92.
use Rattle.std.specs.Prelude.{ℕ, zero, suc, ◌-◌, Bool, true, false, not, ◌&&◌, ◌==◌}
use Rattle.std.specs.Prelude.{if◌then◌else◌, List, [], ◌∷◌, ◌++◌, length, Option, Some}
use Rattle.std.specs.Prelude.{None, option_map, Result, Ok, Err, chars, encode_utf8_all}
use Rattle.tagging.specs.Brackets.{Bracket}
use Rattle.tagging.specs.declared.bracket.Span.{Span}
use Rattle.tagging.specs.declared.error.PatternError.{PatternError}
use Rattle.tagging.specs.declared.error.PatternError.TheVariants.{OpenBracket, TrailingBackslash}
use Rattle.tagging.specs.declared.glob.GlobPart.{GlobPart}
use Rattle.tagging.specs.declared.glob.GlobPart.TheVariants.{Plain, AnyOne, AnyText, OneOf}
use Rattle.tagging.specs.declared.parse.Mark.{Mark}

-- a `-` that makes a range
abbrev pub is_dash : Mark → Bool
is_dash mark = mark.character == 45 && not mark.quoted

-- marks begin with such a `-` and a character more, and that character
abbrev pub range_end : List Mark → Option ℕ
range_end [] = None
range_end (dash ∷ []) = None
range_end (dash ∷ mark ∷ marks) = if is_dash dash then Some mark.character else None

-- one range before others
abbrev pub span_to : Option ℕ → ℕ → (ℕ → List Span) → List Span
span_to None from others = record { from = from; to = from } ∷ others 0
span_to (Some to) from others = record { from = from; to = to } ∷ others 2

-- the ranges of a list, after `passed` marks that belong to a range before: `a-z` is one, and
-- a character alone is one
abbrev pub spans_after : ℕ → List Mark → List Span
spans_after passed [] = []
spans_after (suc passed) (mark ∷ marks) = spans_after passed marks
spans_after zero (mark ∷ marks) =
    span_to (range_end marks) mark.character (λ passed. spans_after passed marks)

-- more marks in front
abbrev pub after_marks : List Mark → Option (List Mark × List ℕ) → Option (List Mark × List ℕ)
after_marks prefix None = None
after_marks prefix (Some (marks, rest)) = Some (prefix ++ marks, rest)

-- the marks up to the `]` that closes the list, and the text behind it; `quoted` says that
-- a backslash stands before
abbrev pub marks_up_to_close : Bool → List ℕ → Option (List Mark × List ℕ)
marks_up_to_close quoted [] = None
marks_up_to_close true (c ∷ text) =
    after_marks (record { character = c; quoted = true } ∷ []) (marks_up_to_close false text)
marks_up_to_close false (c ∷ text) =
    if c == 93 then Some ([], text) else
    if c == 92 then marks_up_to_close true text else
    after_marks (record { character = c; quoted = false } ∷ []) (marks_up_to_close false text)

-- the marks of a list, whose first character may be a `]`
abbrev pub marks_of : List ℕ → Option (List Mark × List ℕ)
marks_of [] = None
marks_of (c ∷ text) =
    if c == 93 then after_marks (record { character = c; quoted = false } ∷ []) (marks_up_to_close false text)
    else marks_up_to_close false (c ∷ text)

-- the bracket of a list, and the text behind it
abbrev pub listed_bracket : Bool → List ℕ → Option (Bracket × List ℕ)
listed_bracket negated text = option_map
    (λ (marks, rest). (record { negated = negated; spans = spans_after 0 marks }, rest)) (marks_of text)

-- the bracket whose `[` stands before the text, and the text behind it; nothing where it isn't closed
abbrev pub bracket_of : List ℕ → Option (Bracket × List ℕ)
bracket_of [] = None
bracket_of (c ∷ text) = if c == 33 then listed_bracket true text else listed_bracket false (c ∷ text)

-- what stands quoted, at byte `at`
abbrev pub quoted_part : ℕ → List ℕ → Result (GlobPart × List ℕ) PatternError
quoted_part at [] = Err (TrailingBackslash at)
quoted_part at (c ∷ text) = Ok (Plain c, text)

-- what stands in brackets, at byte `at`
abbrev pub bracket_part : ℕ → Option (Bracket × List ℕ) → Result (GlobPart × List ℕ) PatternError
bracket_part at None = Err (OpenBracket at)
bracket_part at (Some (bracket, text)) = Ok (OneOf bracket, text)

-- the part that begins with the character `c` at byte `at`, and the text behind it
abbrev pub first_part : ℕ → ℕ → List ℕ → Result (GlobPart × List ℕ) PatternError
first_part at c text =
    if c == 42 then Ok (AnyText, text) else
    if c == 63 then Ok (AnyOne, text) else
    if c == 92 then quoted_part at text else
    if c == 91 then bracket_part at (bracket_of text) else Ok (Plain c, text)

-- more parts in front
abbrev pub after_parts : List GlobPart → Result (List GlobPart) PatternError
    → Result (List GlobPart) PatternError
after_parts prefix (Err fault) = Err fault
after_parts prefix (Ok parts) = Ok (prefix ++ parts)

-- a part, and then those of the text behind it
abbrev pub and_then_parts : Result (GlobPart × List ℕ) PatternError
    → (List ℕ → Result (List GlobPart) PatternError) → Result (List GlobPart) PatternError
and_then_parts (Err fault) parts_of = Err fault
and_then_parts (Ok (part, text)) parts_of = after_parts (part ∷ []) (parts_of text)

-- the first `count` parts of the end of a pattern that has `size` bytes, or its fault
abbrev pub parts_within : ℕ → ℕ → List ℕ → Result (List GlobPart) PatternError
parts_within zero size text = Ok []
parts_within (suc count) size [] = Ok []
parts_within (suc count) size (c ∷ text) =
    and_then_parts (first_part (size - length (encode_utf8_all (c ∷ text))) c text) (parts_within count size)

-- the parts of a pattern, or its fault; it has no more parts than characters
unfoldable pub pattern_of : List ℕ → Result (List GlobPart) PatternError
pattern_of text = parts_within (length (chars text)) (length text) (chars text)

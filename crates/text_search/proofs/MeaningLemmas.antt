-- From what `regex` says of a compiled pattern to what its text means.
use Rattle.std.proofs.Common.{◌≡◌, ℕ, ◌<◌, ◌≤◌, inl, inr, true, false, List, length, Option, Some, None, IsSomeAnd, IfSome, is_some, option_map, refl, sym, ap, ◌∙◌, arith, get_or, ◌≢◌}
use Rattle.std.specs.Str.{chars}
use Rattle.std.specs.Option.{option_map_or}
use Rattle.std.proofs.lemmas.Bool.Decides.{nat_tests}
use Rattle.regex.specs.Patterns.{Re, Match, SameCaptures, Reads, Refuses, find, span}
use Rattle.regex.proofs.ForCallers.{span_alike}
use Rattle.regex_hir.specs.Meaning.{meaning}
use Rattle.regex_hir.specs.declared.hir.Hir.{Hir}
use Rattle.regex_syntax.specs.Brackets.{Nested}
use Rattle.regex_syntax.specs.Grammar.{read, Names, group_count}
use Rattle.regex_syntax.specs.declared.error.ErrorKind.{ErrorKind}
use Rattle.regex_syntax.specs.declared.error.ErrorKind.TheVariants as kind
use Rattle.regex.specs.Names.{names_of}
use Rattle.regex.specs.Sources.{IsRefusal}
use Rattle.regex.specs.Failures.{IsRightKind}
use Rattle.regex.specs.declared.error.Error as regex_error
use Rattle.regex.specs.declared.error.Error.TheVariants.{Syntax, CompiledTooBig, Internal, OutOfMemory}
use Rattle.regex_syntax.specs.declared.error.Error as syntax_error
use Rattle.regex.specs.Bytes as raw
use Rattle.regex.specs.declared.bytes.regex.Regex as raw_regex
use Rattle.regex.specs.declared.bytes.matcher.Match as raw_match
use Rattle.text_search.specs.declared.error.RegexError.TheVariants.{BadPattern, TooBig}
use Rattle.text_search.specs.Lines.{bytes_config, within, meaning_of, is_pattern, line_place, IsMeantBy}
use Rattle.text_search.specs.Refusals.{error_of}

within-some : (limit : ℕ) (re : Nested Re) (names : Names) → re.depth ≤ limit → within limit (Some (re, names)) ≡ Some re.value
within-some limit re names h = grind (arith, nat_tests)

within-deep : (limit : ℕ) (re : Nested Re) (names : Names) → limit < re.depth → within limit (Some (re, names)) ≡ None
within-deep limit re names h = grind (arith, nat_tests)

-- a tree that stands for the text means what the text does
means : (text : List ℕ) (hir : Hir) (names : Names) → Reads bytes_config text hir names → IsMeantBy text (meaning hir)
unfolding Reads meaning_of
means text hir names h = go (read bytes_config (chars text)) refl h
  where
    go : (o : Option (Nested Re × Names)) → read bytes_config (chars text) ≡ o
        → IsSomeAnd o (λ (re, found). (re.depth ≤ bytes_config.nest_limit) × SameCaptures (meaning hir) re.value × (names ≡ found) × (group_count (meaning hir) ≤ length names))
        → IsMeantBy text (meaning hir)
    go None e p = absurd p
    go (Some (re, found)) e p = record { re = re.value; is = unfold meaning_of in ap (within bytes_config.nest_limit) e ∙ within-some bytes_config.nest_limit re found p.0; same = p.1 }

-- a text that is refused, and not for memory, means nothing
means_nothing : (text : List ℕ) (k : ErrorKind) → Refuses bytes_config text k → k ≢ kind.OutOfMemory → meaning_of text ≡ None
unfolding Refuses meaning_of
means_nothing text k (inl memory) ne = absurd (ne memory)
means_nothing text k (inr (inl none)) ne = ap (within bytes_config.nest_limit) none
means_nothing text k (inr (inr (_, deep))) ne = go (read bytes_config (chars text)) deep
  where
    go : (o : Option (Nested Re × Names)) → IfSome o (λ (re, _). bytes_config.nest_limit < re.depth) → within bytes_config.nest_limit o ≡ None
    go None p = refl
    go (Some (re, names)) p = within-deep bytes_config.nest_limit re names p

-- a regex that was read from its source means what its text does
pub regex_means : (r : raw_regex.Regex) (text : List ℕ) → raw.IsReadFromSource r → raw.regex_source r ≡ text → raw.regex_config r ≡ bytes_config
    → IsMeantBy text (raw.regex_pattern r)
regex_means r t h source options = means t r.pattern.program.hir (names_of r.pattern.names.items) (rw (source, options) at h)

-- a text that means something is a pattern
pub pattern_is : (text : List ℕ) (a : Re) → IsMeantBy text a → is_pattern text ≡ true
unfolding is_pattern
pattern_is text a m = ap is_some m.is

-- where a search of a line by it begins
pub place_as_meant : (text : List ℕ) (a : Re) (line : List ℕ) → IsMeantBy text a → ((k : ℕ) → get_or line k 0 < 256)
    → option_map (λ m. m.start) (find a line 0) ≡ line_place text line
unfolding line_place
place_as_meant text a line m bytes =
    through (find a line 0)
    ∙ ap (option_map (λ (s : ℕ × ℕ). s.0)) (span_alike m.same line bytes false 0)
    ∙ sym (through (find m.re line 0))
    ∙ sym (ap (λ o. option_map_or (λ re. option_map (λ x. x.start) (find re line 0)) o None) m.is)
  where
    through : (o : Option Match) → option_map (λ x. x.start) o ≡ option_map (λ (s : ℕ × ℕ). s.0) (option_map span o)
    through None = refl
    through (Some x) = refl

-- what a matcher answers
pub found_place : (text : List ℕ) (a : Re) (line : List ℕ) → IsMeantBy text a → ((k : ℕ) → get_or line k 0 < 256) → (o : Option raw_match.Match)
    → option_map raw.match_span o ≡ option_map span (find a line 0) → option_map (λ (m : raw_match.Match). m.start) o ≡ line_place text line
found_place text a line m bytes o is =
    begins o ∙ ap (option_map (λ (s : ℕ × ℕ). s.0)) is ∙ sym (begins_in (find a line 0)) ∙ place_as_meant text a line m bytes
  where
    begins : (o : Option raw_match.Match) → option_map (λ (m : raw_match.Match). m.start) o ≡ option_map (λ (s : ℕ × ℕ). s.0) (option_map raw.match_span o)
    begins None = refl
    begins (Some x) = refl

    begins_in : (o : Option Match) → option_map (λ x. x.start) o ≡ option_map (λ (s : ℕ × ℕ). s.0) (option_map span o)
    begins_in None = refl
    begins_in (Some x) = refl

-- an error of syntax says that the text is no pattern
refused_is_none : (text : List ℕ) (error : regex_error.Error) (e : syntax_error.Error) → error ≡ Syntax e
    → IsRefusal bytes_config text error → IsRightKind bytes_config text error → is_pattern text ≡ false
unfolding is_pattern
refused_is_none text error e is refusal right = ap is_some (means_nothing text e.kind (refusal e is) (rw is at right))

pub bad_is_none : (text : List ℕ) (error : regex_error.Error) → error_of error ≡ BadPattern
    → IsRefusal bytes_config text error → IsRightKind bytes_config text error → is_pattern text ≡ false
bad_is_none text (Syntax e) is refusal right = refused_is_none text (Syntax e) e refl refusal right
bad_is_none text CompiledTooBig is refusal right = cc
bad_is_none text Internal is refusal right = cc
bad_is_none text OutOfMemory is refusal right = cc

-- only a pattern is too big
pub too_big_is_one : (text : List ℕ) (error : regex_error.Error) → error_of error ≡ TooBig
    → IsRightKind bytes_config text error → is_pattern text ≡ true
too_big_is_one text (Syntax e) is right = cc
too_big_is_one text CompiledTooBig is right = let (hir, names, reads) = right in pattern_is text (meaning hir) (means text hir names reads)
too_big_is_one text Internal is right = cc
too_big_is_one text OutOfMemory is right = cc

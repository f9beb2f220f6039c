-- From what `regex` says of a compiled pattern to what its text means.
use Rattle.std.proofs.Common.{◌≡◌, ℕ, ◌<◌, ◌≤◌, inl, inr, true, List, length, Option, Some, None, IsSomeAnd, IfSome, is_some, refl, ap, ◌∙◌, arith, get_or, ◌≢◌}
use Rattle.std.specs.Str.{chars}
use Rattle.std.proofs.lemmas.Bool.Decides.{nat_tests}
use Rattle.regex.specs.Patterns.{Re, default_config, SameCaptures, Reads, Refuses, find_str}
use Rattle.regex.proofs.ForCallers.{is_match_alike}
use Rattle.regex_hir.specs.Meaning.{meaning}
use Rattle.regex_hir.specs.declared.hir.Hir.{Hir}
use Rattle.regex_syntax.specs.Brackets.{Nested}
use Rattle.regex_syntax.specs.Grammar.{read, Names, group_count}
use Rattle.regex_syntax.specs.declared.error.ErrorKind.{ErrorKind}
use Rattle.regex_syntax.specs.declared.error.ErrorKind.TheVariants as kind
use Rattle.regex.specs.Names.{names_of}
use Rattle.regex.specs.Sources.{IsRefusal}
use Rattle.regex.specs.Failures.{IsRightKind}
use Rattle.regex.specs.declared.error.Error as regex_error
use Rattle.regex.specs.declared.error.Error.TheVariants.{Syntax}
use Rattle.regex_syntax.specs.declared.error.Error as syntax_error
use Rattle.regex.specs.Strings as strings
use Rattle.regex.specs.declared.string.regex.Regex as text_regex
use Rattle.tagging.specs.Regexes.{within, meaning_of, found_in, IsMeantBy}

within-some : (limit : ℕ) (re : Nested Re) (names : Names) → re.depth ≤ limit → within limit (Some (re, names)) ≡ Some re.value
within-some limit re names h = grind (arith, nat_tests)

within-deep : (limit : ℕ) (re : Nested Re) (names : Names) → limit < re.depth → within limit (Some (re, names)) ≡ None
within-deep limit re names h = grind (arith, nat_tests)

-- a tree that stands for the text means what the text does
means : (text : List ℕ) (hir : Hir) (names : Names) → Reads default_config text hir names → IsMeantBy text (meaning hir)
unfolding Reads meaning_of
means text hir names h = go (read default_config (chars text)) refl h
  where
    go : (o : Option (Nested Re × Names)) → read default_config (chars text) ≡ o
        → IsSomeAnd o (λ (re, found). (re.depth ≤ default_config.nest_limit) × SameCaptures (meaning hir) re.value × (names ≡ found) × (group_count (meaning hir) ≤ length names))
        → IsMeantBy text (meaning hir)
    go None e p = absurd p
    go (Some (re, found)) e p = record { re = re.value; is = unfold meaning_of in ap (within default_config.nest_limit) e ∙ within-some default_config.nest_limit re found p.0; same = p.1 }

-- a text that is refused, and not for memory, means nothing
means_nothing : (text : List ℕ) (k : ErrorKind) → Refuses default_config text k → k ≢ kind.OutOfMemory → meaning_of text ≡ None
unfolding Refuses meaning_of
means_nothing text k (inl memory) ne = absurd (ne memory)
means_nothing text k (inr (inl none)) ne = ap (within default_config.nest_limit) none
means_nothing text k (inr (inr (_, deep))) ne = go (read default_config (chars text)) deep
  where
    go : (o : Option (Nested Re × Names)) → IfSome o (λ (re, _). default_config.nest_limit < re.depth) → within default_config.nest_limit o ≡ None
    go None p = refl
    go (Some (re, names)) p = within-deep default_config.nest_limit re names p

-- a regex that was read from its source means what its text does
pub regex_means : (r : text_regex.Regex) (text : List ℕ) → strings.IsReadFromSource r → strings.regex_source r ≡ text → strings.regex_config r ≡ default_config
    → IsMeantBy text (strings.regex_pattern r)
regex_means r t h source options = means t r.pattern.program.hir (names_of r.pattern.names.items) (rw (source, options) at h)

-- a search by it
pub found_as_meant : (text : List ℕ) (a : Re) (name : List ℕ) → IsMeantBy text a → ((k : ℕ) → get_or name k 0 < 256)
    → is_some (find_str a name 0) ≡ found_in text name
unfolding found_in
found_as_meant text a name m bytes = rw m.is (is_match_alike m.same name bytes true 0)

-- an error of syntax says that the text means nothing
pub refused_means_nothing : (text : List ℕ) (error : regex_error.Error) (e : syntax_error.Error) → error ≡ Syntax e
    → IsRefusal default_config text error → IsRightKind default_config text error → meaning_of text ≡ None
refused_means_nothing text error e is refusal right = means_nothing text e.kind (refusal e is) (rw is at right)

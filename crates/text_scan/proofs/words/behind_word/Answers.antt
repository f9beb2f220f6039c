use Rattle.std.proofs.Common.{◌≡◌, ℕ, List, Option, Some, None, option_map, MatchOption, length, drop, ap, ◌∙◌, sym, ◌+◌}
use denote.Ref.{Bor}
use Rattle.std.specs.Str.Pattern.{FindsTextPrefix}
use Rattle.text_scan.specs.Words.{behind_word}
use Rattle.text_scan.proofs.WordLemmas.{behind_word-is, behind_word-none}
use Rattle.text_scan.proofs.words.behind_word.Goals as goal

by_bytes : (word text : List ℕ) (r : Option (Bor (List ℕ)))
    → MatchOption r (FindsTextPrefix word text None)
    (λ x. (n : ℕ) × FindsTextPrefix word text (Some n) × (x.now ≡ drop n text) × (length x.now + n ≡ length text))
    → option_map (λ (rest : Bor (List ℕ)). rest.now) r ≡ behind_word word text
by_bytes word text None found = sym (behind_word-none word text found)
by_bytes word text (Some x) found = ap Some found.2 ∙ sym (behind_word-is word text (drop found.0 text) found.1.1)

pub returns-clause-found : goal.returns-clause-found
returns-clause-found c = by_bytes c.args.word.now c.args.text.now c.strip_prefix.result c.strip_prefix.ensures.cases

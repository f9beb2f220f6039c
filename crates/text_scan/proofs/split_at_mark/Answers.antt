use Rattle.std.proofs.Common.{◌≡◌, ◌≢◌, ℕ, ◌<◌, ◌∷◌, ◌++◌, List, Option, Some, None, length, get_or, MatchOption}
use denote.Ref.{Bor}
use Rattle.std.proofs.lemmas.Str.Pattern.{split_parts}
use Rattle.text_scan.specs.Lines.{IsWithout}
use Rattle.text_scan.proofs.LineLemmas.{IsWithout-from_places}
use Rattle.text_scan.proofs.split_at_mark.Goals as goal

by_bytes : (mark : ℕ) (text : List ℕ) (r : Option (Bor (List ℕ) × Bor (List ℕ)))
    → MatchOption r ((i : ℕ) → i < length text → get_or text i 0 ≢ mark)
    (λ x. (text ≡ x.0.now ++ (mark ∷ x.1.now)) × ((i : ℕ) → i < length x.0.now → get_or x.0.now i 0 ≢ mark))
    → MatchOption r (IsWithout mark text) (λ x. IsWithout mark x.0.now × (text ≡ x.0.now ++ mark ∷ x.1.now))
by_bytes mark text None places = IsWithout-from_places mark text places
by_bytes mark text (Some x) places = (IsWithout-from_places mark x.0.now places.1, places.0)

pub returns-clause-found : goal.returns-clause-found
returns-clause-found c = by_bytes c.args.mark c.args.text.now c.split_once.result (split_parts c.args.mark c.args.text.now c.split_once.result c.split_once.ensures.cases c.requires)

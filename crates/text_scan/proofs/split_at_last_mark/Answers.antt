use Rattle.std.proofs.Common.{◌≡◌, ℕ, ◌+◌, ◌≤◌, ◌<◌, ◌∷◌, ◌++◌, List, Option, Some, None, length, take, drop, MatchOption, sym, ap, ◌∙◌, subst}
use denote.Ref.{Bor}
use Rattle.std.specs.Str.Pattern.{RFindsChar}
use Rattle.std.proofs.lemmas.List.{take-append-drop}
use Rattle.std.proofs.lemmas.Str.Pattern.{NoCharPasses-char, drop_at_char}
use Rattle.text_scan.specs.Lines.{IsWithout}
use Rattle.text_scan.proofs.LineLemmas.{IsWithout-from_places}
use Rattle.text_scan.proofs.split_at_last_mark.Goals as goal

by_bytes : (mark : ℕ) (text : List ℕ) (r : Option (Bor (List ℕ) × Bor (List ℕ))) → mark < 128
    → MatchOption r (RFindsChar mark text None)
    (λ x. (i : ℕ) × (j : ℕ) × RFindsChar mark text (Some (i, j)) × (x.0.now ≡ take i text) × (x.1.now ≡ drop j text) × (i ≤ j) × (length x.0.now ≡ i) × (length x.1.now + j ≡ length text))
    → MatchOption r (IsWithout mark text) (λ x. IsWithout mark x.1.now × (text ≡ x.0.now ++ mark ∷ x.1.now))
by_bytes mark text None ascii found = IsWithout-from_places mark text (λ i below. NoCharPasses-char mark text i found ascii below)
by_bytes mark text (Some x) ascii found =
    let behind : IsWithout mark (drop found.1 text) =
    IsWithout-from_places mark (drop found.1 text) (λ i below. NoCharPasses-char mark (drop found.1 text) i found.2.0 ascii below) in (
      subst (IsWithout mark) (sym found.4) behind,
      sym (take-append-drop found.0 text) ∙ ap (λ rest. take found.0 text ++ rest) (drop_at_char mark text found.0 found.1 found.2.1 ascii)
          ∙ ap (λ before. before ++ mark ∷ drop found.1 text) (sym found.3) ∙ ap (λ rest. x.0.now ++ mark ∷ rest) (sym found.4),
    )

pub returns : goal.returns
returns c = record { found = by_bytes c.args.mark c.args.text.now c.rsplit_once.result c.requires c.rsplit_once.ensures.cases }

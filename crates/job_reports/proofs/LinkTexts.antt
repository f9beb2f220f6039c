-- The test of a link's text, and what it tells.
use Rattle.std.proofs.Common.{◌≡◌, ◌≢◌, ℕ, ◌==◌, Bool, true, false, not, ◌&&◌, ◌||◌, refl, List, [], ◌∷◌, All, length}
use Rattle.std.specs.List.{list_any}
use Rattle.std.specs.Cmp.Derive.{both_true}
use Rattle.std.proofs.lemmas.Bool.{leb-true, le-leb, eqb-false, ne_eqb, not_from_false}
use Rattle.std.proofs.lemmas.List.Elements.{All-nil, All-cons, All-weaker}
use Rattle.std.proofs.lemmas.List.Folds.{list_any_none}
use Rattle.tree_trait.specs.Answers.{IsLinkText}
use Rattle.job_reports.specs.Jobs.{is_link_text}

both : (a b : Bool) → (a && b) ≡ true → (a ≡ true) × (b ≡ true)
both true b h = (refl, h)
both false b h = absurd cc

neither : (a b : Bool) → not (a || b) ≡ true → (a ≡ false) × (not b ≡ true)
neither false b h = (refl, h)
neither true b h = absurd cc

no_nul_in : (text : List ℕ) → not (list_any (λ byte. byte == 0) text) ≡ true → All (λ byte. byte ≢ 0) text
no_nul_in [] h = All-nil (λ byte. byte ≢ 0)
no_nul_in (byte ∷ more) h =
    let both_none = neither (byte == 0) _ h in
    All-cons (λ byte. byte ≢ 0) byte more (eqb-false byte 0 both_none.0) (no_nul_in more both_none.1)

-- a text that passes may be that of a link
pub may_be_text : (text : List ℕ) → is_link_text text ≡ true → IsLinkText text
may_be_text text h =
    let halves = both _ _ h in
    let length_is = both _ _ halves.0 in
    record { some = leb-true 1 (length text) length_is.0; short = leb-true (length text) 4095 length_is.1; no_nul = no_nul_in text halves.1 }

-- and the text of a link passes
pub text_passes : (text : List ℕ) → IsLinkText text → is_link_text text ≡ true
text_passes text h =
    both_true (both_true (le-leb 1 (length text) h.some) (le-leb (length text) 4095 h.short))
    (not_from_false _ (list_any_none (λ byte. byte == 0) text (All-weaker (λ byte. byte ≢ 0) (λ byte. (byte == 0) ≡ false) (λ byte. ne_eqb byte 0) text h.no_nul)))

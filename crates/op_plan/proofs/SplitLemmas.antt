-- A text cut at its last slash.
use Rattle.std.proofs.Common.{◌≡◌, ℕ, Bool, true, false, cond, List, [], ◌∷◌, ◌++◌, length, refl, sym, ap, ◌∙◌, arith}
use Rattle.std.specs.Prelude.{◌==◌}
use Rattle.std.proofs.lemmas.Bool.{false≢true, or_from, or_right}
use Rattle.std.proofs.lemmas.Bool.Decides.{nat_tests}
use Rattle.mc_text.specs.Routes.{is_empty}
use Rattle.text_scan.specs.Lines.{IsWithout}
use Rattle.op_plan.specs.Destinations.{has_slash, last_part, prefix_part, folder_prefix}

without_slash : (text : List ℕ) → IsWithout 47 text → has_slash text ≡ false
without_slash [] h = refl
without_slash (b ∷ text) h = or_from (b == 47) (has_slash text) h.0 (without_slash text h.1)

slash_inside : (before behind : List ℕ) → has_slash (before ++ 47 ∷ behind) ≡ true
slash_inside [] behind = refl
slash_inside (b ∷ before) behind = or_right (b == 47) (has_slash (before ++ 47 ∷ behind)) (slash_inside before behind)

pub last-without : (text : List ℕ) → IsWithout 47 text → text ≡ last_part text
last-without [] h = refl
last-without (b ∷ text) h = rw (without_slash (b ∷ text) h) refl

pub front-without : (text : List ℕ) → IsWithout 47 text → [] ≡ folder_prefix text
front-without text h = rw (without_slash text h) refl

last_at : (before behind : List ℕ) → IsWithout 47 behind → last_part (before ++ 47 ∷ behind) ≡ behind
last_at [] behind h = sym (last-without behind h)
last_at (b ∷ before) behind h =
    ap (λ (x : Bool). cond x (last_part (before ++ 47 ∷ behind)) (b ∷ before ++ 47 ∷ behind)) (slash_inside (b ∷ before) behind) ∙ last_at before behind h

front_at : (before behind : List ℕ) → IsWithout 47 behind → prefix_part (before ++ 47 ∷ behind) ≡ before
front_at [] behind h = ap (λ (x : Bool). cond x (47 ∷ prefix_part behind) []) (without_slash behind h)
front_at (b ∷ before) behind h =
    ap (λ (x : Bool). cond x (b ∷ prefix_part (before ++ 47 ∷ behind)) []) (slash_inside before behind) ∙ ap (λ (t : List ℕ). b ∷ t) (front_at before behind h)

pub last-behind : (text before behind : List ℕ) → text ≡ before ++ 47 ∷ behind → IsWithout 47 behind → behind ≡ last_part text
last-behind text before behind e h = sym (ap last_part e ∙ last_at before behind h)

front-before : (text before behind : List ℕ) → text ≡ before ++ 47 ∷ behind → IsWithout 47 behind
    → folder_prefix text ≡ cond (is_empty before) (47 ∷ []) before
front-before text before behind e h =
    ap folder_prefix e
    ∙ (ap (λ (x : Bool). cond x (cond (is_empty (prefix_part (before ++ 47 ∷ behind))) (47 ∷ []) (prefix_part (before ++ 47 ∷ behind))) []) (slash_inside before behind)
    ∙ ap (λ (t : List ℕ). cond (is_empty t) (47 ∷ []) t) (front_at before behind h))

root_front : (before : List ℕ) → (length before == 0) ≡ true → cond (is_empty before) (47 ∷ []) before ≡ 47 ∷ []
root_front [] h = refl
root_front (b ∷ before) h = absurd (grind (arith, nat_tests))

named_front : (before : List ℕ) → (length before == 0) ≡ false → cond (is_empty before) (47 ∷ []) before ≡ before
named_front [] h = absurd (false≢true (sym h))
named_front (b ∷ before) h = refl

pub front-root : (text before behind : List ℕ) → text ≡ before ++ 47 ∷ behind → IsWithout 47 behind → (length before == 0) ≡ true → 47 ∷ [] ≡ folder_prefix text
front-root text before behind e h none = sym (front-before text before behind e h ∙ root_front before none)

pub front-named : (text before behind : List ℕ) → text ≡ before ++ 47 ∷ behind → IsWithout 47 behind → (length before == 0) ≡ false → before ≡ folder_prefix text
front-named text before behind e h some = sym (front-before text before behind e h ∙ named_front before some)

-- The columns of what can be drawn.
use Rattle.std.proofs.Common.{◌≡◌, ℕ, ◌≤◌, true, false, List, [], ◌∷◌, arith, ⊎_elim}
use Rattle.std.specs.Str.{IsUtf8, is_utf8, bytes_eq}
use Rattle.std.proofs.lemmas.Bool.{cases_Bool}
use Rattle.std.proofs.lemmas.Bool.Decides.{nat_tests}
use Rattle.std.proofs.lemmas.Str.{IsUtf8-from_is_utf8, is_utf8-from_IsUtf8}
use Rattle.mc_text.specs.Drawn.{is_drawable}
use Rattle.mc_text.specs.Fit.{cluster_columns}
use Rattle.text_units.specs.Units.{is_shown, unit_columns}

not_text : (bytes : List ℕ) → ¬ (IsUtf8 bytes) → is_utf8 bytes ≡ false
not_text bytes differs =
    ⊎_elim (λ (e : is_utf8 bytes ≡ true). absurd (differs (IsUtf8-from_is_utf8 bytes e))) (λ (e : is_utf8 bytes ≡ false). e) (cases_Bool (is_utf8 bytes))

-- what is no text doesn't show as itself
pub not_shown : (unit : List ℕ) → ¬ (IsUtf8 unit) → is_shown unit ≡ false
not_shown unit differs = rw (not_text unit differs)

-- a text shows as itself if it can be drawn
pub shown-text : (unit : List ℕ) → IsUtf8 unit → is_shown unit ≡ is_drawable unit
shown-text unit utf8 = rw (is_utf8-from_IsUtf8 unit utf8)

-- what can be drawn has one column or two
pub drawable_narrow : (text : List ℕ) → is_drawable text ≡ true → cluster_columns text ≤ 2
unfolding is_drawable
drawable_narrow text drawn = grind (arith, nat_tests)

pub drawable_wide : (text : List ℕ) → is_drawable text ≡ true → 1 ≤ cluster_columns text
unfolding is_drawable
drawable_wide text drawn = grind (arith, nat_tests)

-- a unit has a column at least
pub columns_some : (column : ℕ) (unit : List ℕ) → 1 ≤ unit_columns column unit
unfolding unit_columns
columns_some column unit =
    ⊎_elim (λ (is : bytes_eq unit (9 ∷ []) ≡ true). rw is (omega arith)) (λ (other : bytes_eq unit (9 ∷ []) ≡ false). rw other
    (⊎_elim (λ (text : is_shown unit ≡ true). rw text (drawable_wide unit (shown-drawable unit text))) (λ (dot : is_shown unit ≡ false). rw dot (omega arith))
    (cases_Bool (is_shown unit))))
    (cases_Bool (bytes_eq unit (9 ∷ [])))
  where
    shown-drawable : (unit : List ℕ) → is_shown unit ≡ true → is_drawable unit ≡ true
    shown-drawable unit text = grind (arith, nat_tests)

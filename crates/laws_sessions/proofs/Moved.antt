-- Where the copy of a thing comes from.
use Rattle.std.proofs.Common.{◌≡◌, ◌++◌, List, [], ◌∷◌, ℕ, false, length, refl, ◌∙◌, ap, arith, cond, length-append}
use Rattle.std.proofs.lemmas.Bool.{false_from_ne_true}
use Rattle.mc_text.specs.Routes.{Route, same_path}
use Rattle.tree_trait.proofs.Visible.{same_path-self, same_path-true}
use Rattle.session_entries.specs.Moves.{moved_from}

-- of the copied thing itself that is the source
pub moved_here : (source target : Route) → moved_from source target target ≡ source
moved_here source [] = refl
moved_here source (name ∷ up) = ap (λ b. cond b source (name ∷ moved_from source (name ∷ up) up)) (same_path-self (name ∷ up))

longer : (name : List ℕ) (rest target : Route) → same_path (name ∷ (rest ++ target)) target ≡ false
longer name rest target = false_from_ne_true _ (λ same.
    let l = ap (λ (q : Route). length q) (same_path-true (name ∷ (rest ++ target)) target same) in
    let k = length-append rest target in
    absurd (omega (arith, l, k)))

-- and of what lies in it the thing as far below the source
pub moved_below : (source target rest : Route) → moved_from source target (rest ++ target) ≡ rest ++ source
moved_below source target [] = moved_here source target
moved_below source target (name ∷ rest) =
    ap (λ b. cond b source (name ∷ moved_from source target (rest ++ target))) (longer name rest target) ∙ ap (λ q. name ∷ q) (moved_below source target rest)

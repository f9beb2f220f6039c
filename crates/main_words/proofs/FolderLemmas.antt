-- One component more of a walk.
use Rattle.std.proofs.Common.{◌≡◌, ℕ, true, false, not, List, ◌∷◌, Option, Some, refl, ap, ◌∙◌}
use Rattle.std.specs.Prelude.{filter}
use Rattle.mc_text.specs.Routes.{Route}
use Rattle.main_words.specs.Folders.{below, is_passed, step_below}

-- the components that are gone through
abbrev pub kept : List (List ℕ) → List (List ℕ)
kept = filter (λ component. not (is_passed component))

pub kept-passed : (component : List ℕ) (rest : List (List ℕ)) → is_passed component ≡ true → kept (component ∷ rest) ≡ kept rest
kept-passed component rest h = rw h refl

pub kept-more : (component : List ℕ) (rest : List (List ℕ)) → is_passed component ≡ false → kept (component ∷ rest) ≡ component ∷ kept rest
kept-more component rest h = rw h refl

-- behind one that is passed over the rest leads to the same
pub below-passed : (folder : Route) (component : List ℕ) (left rest : List (List ℕ)) → left ≡ component ∷ rest → is_passed component ≡ true
    → below (Some folder) (kept left) ≡ below (Some folder) (kept rest)
below-passed folder component left rest cut h = ap (λ l. below (Some folder) (kept l)) cut ∙ ap (below (Some folder)) (kept-passed component rest h)

-- and behind another one from where that leads
pub below-more : (folder : Route) (component : List ℕ) (left rest : List (List ℕ)) (further : Option Route) → left ≡ component ∷ rest
    → is_passed component ≡ false → step_below folder component ≡ further → below (Some folder) (kept left) ≡ below further (kept rest)
below-more folder component left rest further cut h step =
    ap (λ l. below (Some folder) (kept l)) cut ∙ ap (below (Some folder)) (kept-more component rest h) ∙ ap (λ o. below o (kept rest)) step

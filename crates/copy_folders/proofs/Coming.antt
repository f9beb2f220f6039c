-- The names that are yet to be met, as they are at their targets.
use Rattle.std.proofs.Common.{◌≡◌, ℕ, Bool, true, false, List, [], ◌∷◌, refl, ◌∙◌, ap}
use Rattle.std.specs.Prelude.{◌||◌, drop, map}
use Rattle.std.specs.Str.{bytes_eq}
use Rattle.tree_walk.specs.Places.{OpenFolder, is_empty, is_one_of}
use Rattle.copy_folders.specs.declared.level.Level.{Level}
use Rattle.copy_folders.specs.Levels.{coming}

pub coming_outside : (top name : List ℕ) (place : OpenFolder) (around : List Level) → is_empty around ≡ true → is_one_of name (coming top place around) ≡ is_one_of name (coming top place [])
coming_outside top name place [] is = refl
coming_outside top name place (outer ∷ around) is = absurd (let f : ⊥ = cc in f)

pub coming_inside : (top name : List ℕ) (place : OpenFolder) (around : List Level) → is_empty around ≡ false → is_one_of name (coming top place around) ≡ is_one_of name place.names
coming_inside top name place [] is = absurd (let f : ⊥ = cc in f)
coming_inside top name place (outer ∷ around) is = refl

pub none_coming : (top name : List ℕ) (place : OpenFolder) → place.names ≡ [] → is_one_of name (coming top place []) ≡ false
none_coming top name place is = ap (λ names. is_one_of name (map (λ (met : List ℕ). top) names)) is

-- one name, however often
abbrev again : List ℕ → List (List ℕ) → List (List ℕ)
again top names = map (λ (met : List ℕ). top) names

none_again : (top name : List ℕ) → bytes_eq top name ≡ false → (names : List (List ℕ)) → is_one_of name (again top names) ≡ false
none_again top name apart [] = refl
none_again top name apart (first ∷ names) = ap (λ b. b || is_one_of name (again top names)) apart ∙ none_again top name apart names

once_again : (top name first : List ℕ) (names : List (List ℕ)) (same : Bool) → bytes_eq top name ≡ same → is_one_of name (again top (first ∷ names)) ≡ same
once_again top name first names true is = ap (λ b. b || is_one_of name (again top names)) is
once_again top name first names false is = ap (λ b. b || is_one_of name (again top names)) is ∙ none_again top name is names

pub top_coming : (top name first : List ℕ) (place : OpenFolder) → place.names ≡ first ∷ drop 1 place.names → is_one_of name (coming top place []) ≡ bytes_eq top name
top_coming top name first place is = ap (λ names. is_one_of name (again top names)) is ∙ once_again top name first (drop 1 place.names) (bytes_eq top name) refl

-- Lists that are as long as what they are made of.
use Rattle.std.proofs.Common.{◌≡◌, ◌≢◌, List, [], ◌∷◌, length, Option, Some, None, refl, ap, ◌∙◌, arith}
use Rattle.std.specs.Prelude.{option_map, option_and_then}
use Rattle.mc_text.specs.Routes.{Route}
use Rattle.op_plan.specs.Naming.{all_of}
use Rattle.op_plan.specs.Checks.{paired_sources}

-- where there is a source there is a pair
pub pairs-some : (sources targets : List Route) → sources ≢ [] → length targets ≡ length sources → paired_sources sources targets ≢ []
pairs-some [] targets some h = absurd (some refl)
pairs-some (s ∷ sources) [] some h = absurd (omega arith)
pairs-some (s ∷ sources) (t ∷ targets) some h = λ e. cc

-- what comes of all is as many
pub all-length : {X Y : Type 0} (f : X → Option Y) (xs : List X) (ys : List Y) → all_of f xs ≡ Some ys → length ys ≡ length xs
all-length {X} {Y} f [] ys h = let e : ys ≡ [] = cc in ap length e
all-length {X} {Y} f (x ∷ xs) ys h = first (f x) (all_of f xs) h (all-length f xs)
  where
    first : (o : Option Y) (rest : Option (List Y)) → option_and_then (λ y. option_map (λ ys. y ∷ ys) rest) o ≡ Some ys → ((zs : List Y) → rest ≡ Some zs → length zs ≡ length xs)
        → length ys ≡ length (x ∷ xs)
    first None rest e next = cc
    first (Some y) None e next = cc
    first (Some y) (Some zs) e next = let is : ys ≡ y ∷ zs = cc in let size = next zs refl in ap length is ∙ (omega (arith, size))

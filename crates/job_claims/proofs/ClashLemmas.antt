-- A first pair of claims that clash is found exactly where some clash.
use Rattle.std.proofs.Common.{◌≡◌, ℕ, Bool, true, false, cond, List, [], length, get_or, Option, Some, None, refl, sym, ap, ◌∙◌}
use Rattle.std.specs.Prelude.{nat_lt, slice_get, is_some, option_map, option_and_then}
use Rattle.std.specs.List.{list_any, position, position_or_len}
use Rattle.std.proofs.lemmas.List.Quantifiers.{position-Some}
use Rattle.std.proofs.lemmas.Option.{slice_get-get_or}
use Rattle.job_claims.specs.declared.claim.Claim.{Claim}
use Rattle.job_claims.specs.Claiming.{claim, clash, clashes, first_clash}
use Rattle.op_plan.proofs.Twos.{any-position}

there-is : {X : Type 0} (p : X → Bool) (xs : List X) → is_some (position p xs) ≡ list_any p xs
there-is {X} p xs = go (nat_lt (position_or_len p xs) (length xs)) (any-position p xs)
  where
    go : (b : Bool) → list_any p xs ≡ b → is_some (cond b (Some (position_or_len p xs)) None) ≡ list_any p xs
    go true e = sym e
    go false e = sym e

still-there : {X Y : Type 0} (f : X → Y) (o : Option X) → is_some (option_map f o) ≡ is_some o
still-there f None = refl
still-there f (Some x) = refl

abbrev with_second : ℕ → ℕ → ℕ × ℕ
with_second i j = (i, j)

abbrev second_of : (mine theirs : List Claim) → ℕ → Option (ℕ × ℕ)
second_of mine theirs i = option_and_then (λ claim. option_map (with_second i) (position (clash claim) theirs)) (slice_get mine i)

first_is_there : (mine theirs : List Claim) → is_some (first_clash mine theirs) ≡ clashes mine theirs
first_is_there mine theirs = go (position (λ claim. list_any (clash claim) theirs) mine) refl
  where
    go : (o : Option ℕ) → position (λ claim. list_any (clash claim) theirs) mine ≡ o → is_some (option_and_then (second_of mine theirs) o) ≡ clashes mine theirs
    go None e = ap is_some (sym e) ∙ there-is (λ claim. list_any (clash claim) theirs) mine
    go (Some i) e =
        let found = position-Some (λ claim. list_any (clash claim) theirs) mine i (claim false []) e in
        let first = get_or mine i (claim false []) in
        ap (λ (o : Option Claim). is_some (option_and_then (λ claim. option_map (with_second i) (position (clash claim) theirs)) o))
        (slice_get-get_or mine i (claim false []) found.0)
        ∙ (still-there (with_second i) (position (clash first) theirs)
        ∙ (there-is (clash first) theirs
        ∙ (found.1 ∙ (ap is_some (sym e) ∙ there-is (λ claim. list_any (clash claim) theirs) mine))))

pub found_there : (mine theirs : List Claim) (found : Option (ℕ × ℕ)) → found ≡ first_clash mine theirs → is_some found ≡ clashes mine theirs
found_there mine theirs found e = ap is_some e ∙ first_is_there mine theirs

-- What claims that don't clash say of a path.
use Rattle.std.proofs.Common.{◌≡◌, true, false, List, [], ◌∷◌, refl, inl, inr}
use Rattle.std.specs.Prelude.{◌||◌, ◌&&◌}
use Rattle.std.specs.List.{list_any}
use Rattle.std.proofs.lemmas.Bool.{false≢true, both_ways, or_cases, or_parts, or_from, or_left, or_right, and_parts, and_from, false_from_ne_true}
use Rattle.mc_text.specs.Routes.{Route, is_prefix}
use Rattle.op_plan.specs.Meeting.{meet}
use Rattle.job_claims.specs.Claiming.{clash, clashes}
use Rattle.laws_claims.specs.Near.{is_written, is_near}
use Rattle.job_claims.specs.declared.claim.Claim.{Claim}
use Rattle.laws_claims.proofs.PathLemmas.{meet_up, under-trans}

meet_turned : (a b : Route) → meet a b ≡ true → meet b a ≡ true
meet_turned a b h =
    elim (or_cases (is_prefix a b) (is_prefix b a) h) [ inl x ↦ or_right (is_prefix b a) (is_prefix a b) x | inr x ↦ or_left (is_prefix b a) (is_prefix a b) x ]

-- one claim writes the path, the other doesn't lie near it
far : (x y : Claim) (p : Route) → clash x y ≡ false → (y.writes && is_prefix y.path p) ≡ true → meet x.path p ≡ false
far x y p apart h =
    let w = and_parts y.writes (is_prefix y.path p) h in
    false_from_ne_true (meet x.path p) (λ near. both_ways (clash x y) apart
    (and_from (x.writes || y.writes) (meet x.path y.path) (or_right x.writes y.writes w.0) (meet_up x.path y.path p w.1 near)))

far_turned : (x y : Claim) (p : Route) → clash x y ≡ false → (x.writes && is_prefix x.path p) ≡ true → meet y.path p ≡ false
far_turned x y p apart h =
    let w = and_parts x.writes (is_prefix x.path p) h in
    false_from_ne_true (meet y.path p) (λ near. both_ways (clash x y) apart
    (and_from (x.writes || y.writes) (meet x.path y.path) (or_left x.writes y.writes w.0) (meet_turned y.path x.path (meet_up y.path x.path p w.1 near))))

far_from : (x : Claim) (theirs : List Claim) (p : Route) → list_any (clash x) theirs ≡ false → is_written theirs p ≡ true → meet x.path p ≡ false
far_from x [] p apart h = absurd (false≢true h)
far_from x (y ∷ theirs) p apart h =
    let a = or_parts (clash x y) (list_any (clash x) theirs) apart in
    elim (or_cases (y.writes && is_prefix y.path p) (is_written theirs p) h) [ inl here ↦ far x y p a.0 here | inr there ↦ far_from x theirs p a.1 there ]

-- what they write lies near nothing of mine
pub apart-theirs : (mine theirs : List Claim) (p : Route) → clashes mine theirs ≡ false → is_written theirs p ≡ true → is_near mine p ≡ false
apart-theirs [] theirs p apart h = refl
apart-theirs (x ∷ mine) theirs p apart h =
    let a = or_parts (list_any (clash x) theirs) (clashes mine theirs) apart in
    or_from (meet x.path p) (is_near mine p) (far_from x theirs p a.0 h) (apart-theirs mine theirs p a.1 h)

far_all : (x : Claim) (theirs : List Claim) (p : Route) → list_any (clash x) theirs ≡ false → (x.writes && is_prefix x.path p) ≡ true → is_near theirs p ≡ false
far_all x [] p apart h = refl
far_all x (y ∷ theirs) p apart h =
    let a = or_parts (clash x y) (list_any (clash x) theirs) apart in
    or_from (meet y.path p) (is_near theirs p) (far_turned x y p a.0 h) (far_all x theirs p a.1 h)

-- what I write lies near nothing of theirs
pub apart-mine : (mine theirs : List Claim) (p : Route) → clashes mine theirs ≡ false → is_written mine p ≡ true → is_near theirs p ≡ false
apart-mine [] theirs p apart h = absurd (false≢true h)
apart-mine (x ∷ mine) theirs p apart h =
    let a = or_parts (list_any (clash x) theirs) (clashes mine theirs) apart in
    elim (or_cases (x.writes && is_prefix x.path p) (is_written mine p) h) [ inl here ↦ far_all x theirs p a.0 here | inr there ↦ apart-mine mine theirs p a.1 there ]

-- what is written lies near
pub near-written : (cs : List Claim) (p : Route) → is_written cs p ≡ true → is_near cs p ≡ true
near-written [] p h = h
near-written (x ∷ cs) p h =
    elim (or_cases (x.writes && is_prefix x.path p) (is_written cs p) h) [
      | inl here ↦ or_left (meet x.path p) (is_near cs p) (or_left (is_prefix x.path p) (is_prefix p x.path) (and_parts x.writes (is_prefix x.path p) here).1)
      | inr there ↦ or_right (meet x.path p) (is_near cs p) (near-written cs p there)
    ]

-- what lies under what is written is written
pub written-below : (cs : List Claim) (p q : Route) → is_written cs p ≡ true → is_prefix p q ≡ true → is_written cs q ≡ true
written-below [] p q h below = h
written-below (x ∷ cs) p q h below =
    elim (or_cases (x.writes && is_prefix x.path p) (is_written cs p) h) [
      | inl here ↦
          let w = and_parts x.writes (is_prefix x.path p) here in
          or_left (x.writes && is_prefix x.path q) (is_written cs q) (and_from x.writes (is_prefix x.path q) w.0 (under-trans x.path p q w.1 below))
      | inr there ↦ or_right (x.writes && is_prefix x.path q) (is_written cs q) (written-below cs p q there below)
    ]

-- what lies under what is near is near, and what lies above it too
pub near-below : (cs : List Claim) (p q : Route) → list_any (λ (c : Claim). is_prefix c.path p) cs ≡ true → is_prefix p q ≡ true → is_near cs q ≡ true
near-below [] p q h below = h
near-below (x ∷ cs) p q h below =
    elim (or_cases (is_prefix x.path p) (list_any (λ (c : Claim). is_prefix c.path p) cs) h) [
      | inl here ↦ or_left (meet x.path q) (is_near cs q) (or_left (is_prefix x.path q) (is_prefix q x.path) (under-trans x.path p q here below))
      | inr there ↦ or_right (meet x.path q) (is_near cs q) (near-below cs p q there below)
    ]

-- Where a path lies among sound pairs.
use Rattle.std.proofs.Common.{◌≡◌, Bool, true, false, not, List, [], ◌∷◌, ◌++◌, refl, sym, ◌∙◌, ap, subst, inl, inr, ◌⊎◌, Option, Some, None}
use Rattle.std.specs.Prelude.{◌||◌, ◌&&◌}
use Rattle.std.specs.Option.{option_map_or}
use Rattle.std.specs.List.{list_all}
use Rattle.std.proofs.lemmas.Bool.{false≢true, both_ways, or_cases, or_left, or_right, or_parts, and_parts, not-true}
use Rattle.mc_text.specs.Routes.{Route, is_prefix}
use Rattle.job_reports.specs.declared.job.Pair.{Pair}
use Rattle.op_plan.specs.Meeting.{meet}
use Rattle.laws_claims.specs.Ways.{below}
use Rattle.laws_claims.specs.Works.{source_of, sources, covers}
use Rattle.laws_claims.specs.Outcome.{AtTarget, AtSource, place}
use Rattle.laws_claims.proofs.Apart.{are_apart, all_apart}
use Rattle.laws_claims.proofs.PathLemmas.{below-is, below-append, under-from, under-below, under-way, meet_above}

abbrev pub Among : List Pair → Pair → Type 0
Among [] x = ⊥
Among (y ∷ ys) x = (x ≡ y) ⊎ Among ys x

among_all : (test : Pair → Bool) (xs : List Pair) (x : Pair) → list_all test xs ≡ true → Among xs x → test x ≡ true
among_all test [] x h a = absurd a
among_all test (y ∷ ys) x h (inl e) = ap test e ∙ (and_parts (test y) (list_all test ys) h).0
among_all test (y ∷ ys) x h (inr a) = among_all test ys x (and_parts (test y) (list_all test ys) h).1 a

none_of : (a b r : Route) (o : Option Route) → below a (r ++ b) ≡ o → meet a b ≡ false → below a (r ++ b) ≡ None
none_of a b r None is apart = is
none_of a b r (Some x) is apart = absurd (both_ways (meet a b) apart (meet_above a b (r ++ b) (under-below a (r ++ b) x is) (under-from b (r ++ b) r refl)))

-- nothing below b is below a
pub below-none : (a b r : Route) → meet a b ≡ false → below a (r ++ b) ≡ None
below-none a b r apart = none_of a b r (below a (r ++ b)) refl apart

apart_parts : (a b : Pair) → are_apart a b ≡ true
    → (meet a.source b.source ≡ false) × (meet a.target b.target ≡ false) × (meet a.source b.target ≡ false) × (meet a.target b.source ≡ false)
apart_parts a b h =
    let x = and_parts (not (meet a.source b.source)) (not (meet a.target b.target) && (not (meet a.source b.target) && not (meet a.target b.source))) h in
    let y = and_parts (not (meet a.target b.target)) (not (meet a.source b.target) && not (meet a.target b.source)) x.1 in
    let z = and_parts (not (meet a.source b.target)) (not (meet a.target b.source)) y.1 in
    (not-true _ x.0, not-true _ y.0, not-true _ z.0, not-true _ z.1)

-- what lies below the target or the source of a pair is placed there
pub record IsAt (pairs : List Pair) (pair : Pair) : Type 0 where
  pub targets : (r : Route) → place pairs (r ++ pair.target) ≡ AtTarget pair r
  pub sources : (r : Route) → place pairs (r ++ pair.source) ≡ AtSource pair r
  pub from : (r : Route) → source_of pairs (r ++ pair.target) ≡ Some (r ++ pair.source)
  pub none : (r : Route) → source_of pairs (r ++ pair.source) ≡ None

-- nothing of a pair is below a target of the others
none_from : (pairs : List Pair) (x : Pair) (r : Route) → list_all (are_apart x) pairs ≡ true → source_of pairs (r ++ x.source) ≡ None
none_from [] x r h = refl
none_from (y ∷ ys) x r h =
    let a = and_parts (are_apart x y) (list_all (are_apart x) ys) h in
    let apart = apart_parts x y a.0 in
    let gone = below-none y.target x.source r (meet_back x.source y.target apart.2) in
    rw gone (none_from ys x r a.1)
  where
    meet_back : (a b : Route) → meet a b ≡ false → meet b a ≡ false
    meet_back a b h = let p = or_parts (is_prefix a b) (is_prefix b a) h in subst (λ t. (t || is_prefix a b) ≡ false) (sym p.1) p.0

pub home : (pairs : List Pair) (pair : Pair) → all_apart pairs ≡ true → Among pairs pair → IsAt pairs pair
home [] pair sound a = absurd a
home (x ∷ xs) pair sound (inl e) =
    let s = and_parts (not (meet x.source x.target)) (list_all (are_apart x) xs && all_apart xs) sound in
    let t = and_parts (list_all (are_apart x) xs) (all_apart xs) s.1 in
    let gone : (r : Route) → below x.target (r ++ x.source) ≡ None = λ r. below-none x.target x.source r (back x.source x.target (not-true _ s.0)) in
    subst (λ (y : Pair). IsAt (x ∷ xs) y) (sym e) (record {
      targets = λ r. rw (below-append r x.target) refl;
      sources = λ r. let g = gone r in let b = below-append r x.source in rw (g, b) refl;
      from = λ r. rw (below-append r x.target) refl;
      none = λ r. let g = gone r in rw g (none_from xs x r t.0);
    })
  where
    back : (a b : Route) → meet a b ≡ false → meet b a ≡ false
    back a b h = let p = or_parts (is_prefix a b) (is_prefix b a) h in subst (λ t. (t || is_prefix a b) ≡ false) (sym p.1) p.0
home (x ∷ xs) pair sound (inr a) =
    let s = and_parts (not (meet x.source x.target)) (list_all (are_apart x) xs && all_apart xs) sound in
    let t = and_parts (list_all (are_apart x) xs) (all_apart xs) s.1 in
    let apart = apart_parts x pair (among_all (are_apart x) xs pair t.0 a) in
    let rest = home xs pair t.1 a in
    record {
      targets = λ r. let g = below-none x.target pair.target r apart.1 in let k = below-none x.source pair.target r apart.2 in rw (g, k) (rest.targets r);
      sources = λ r. let g = below-none x.target pair.source r apart.3 in let k = below-none x.source pair.source r apart.0 in rw (g, k) (rest.sources r);
      from = λ r. let g = below-none x.target pair.target r apart.1 in rw g (rest.from r);
      none = λ r. let g = below-none x.target pair.source r apart.3 in rw g (rest.none r);
    }

-- a pair whose target, or whose source, is at or above the path
pub record Found (pairs : List Pair) (p : Route) (pair : Pair) (rest end : Route) : Type 0 where
  pub among : Among pairs pair
  pub is : p ≡ rest ++ end

found_target : (x : Pair) (xs : List Pair) (p : Route) (pair : Pair) (rest : Route) (o u : Option Route) → below x.target p ≡ o → below x.source p ≡ u
    → (place xs p ≡ AtTarget pair rest → Found xs p pair rest pair.target)
    → option_map_or (AtTarget x) o (option_map_or (AtSource x) u (place xs p)) ≡ AtTarget pair rest → Found (x ∷ xs) p pair rest pair.target
found_target x xs p pair rest (Some r) u is_o is_u next h =
    let e : x ≡ pair = cc in let f : r ≡ rest = cc in
    record { among = inl (sym e); is = below-is x.target p r is_o ∙ (ap (λ (t : Route). t ++ x.target) f ∙ ap (λ (y : Pair). rest ++ y.target) e) }
found_target x xs p pair rest None (Some r) is_o is_u next h = cc
found_target x xs p pair rest None None is_o is_u next h = let n = next h in record { among = inr n.among; is = n.is }

pub at_target : (pairs : List Pair) (p : Route) (pair : Pair) (rest : Route) → place pairs p ≡ AtTarget pair rest → Found pairs p pair rest pair.target
at_target [] p pair rest h = cc
at_target (x ∷ xs) p pair rest h = found_target x xs p pair rest (below x.target p) (below x.source p) refl refl (at_target xs p pair rest) h

found_source : (x : Pair) (xs : List Pair) (p : Route) (pair : Pair) (rest : Route) (o u : Option Route) → below x.target p ≡ o → below x.source p ≡ u
    → (place xs p ≡ AtSource pair rest → Found xs p pair rest pair.source)
    → option_map_or (AtTarget x) o (option_map_or (AtSource x) u (place xs p)) ≡ AtSource pair rest → Found (x ∷ xs) p pair rest pair.source
found_source x xs p pair rest (Some r) u is_o is_u next h = cc
found_source x xs p pair rest None (Some r) is_o is_u next h =
    let e : x ≡ pair = cc in let f : r ≡ rest = cc in
    record { among = inl (sym e); is = below-is x.source p r is_u ∙ (ap (λ (t : Route). t ++ x.source) f ∙ ap (λ (y : Pair). rest ++ y.source) e) }
found_source x xs p pair rest None None is_o is_u next h = let n = next h in record { among = inr n.among; is = n.is }

pub at_source : (pairs : List Pair) (p : Route) (pair : Pair) (rest : Route) → place pairs p ≡ AtSource pair rest → Found pairs p pair rest pair.source
at_source [] p pair rest h = cc
at_source (x ∷ xs) p pair rest h = found_source x xs p pair rest (below x.target p) (below x.source p) refl refl (at_source xs p pair rest) h

-- a path that has a source is at a target
pub record HasSource (pairs : List Pair) (p s : Route) : Type 0 where
  pub pair : Pair
  pub rest : Route
  pub among : Among pairs pair
  pub is : p ≡ rest ++ pair.target
  pub source : s ≡ rest ++ pair.source

has_source : (x : Pair) (xs : List Pair) (p s : Route) (o : Option Route) → below x.target p ≡ o → (source_of xs p ≡ Some s → HasSource xs p s)
    → option_map_or (λ rest. Some (rest ++ x.source)) o (source_of xs p) ≡ Some s → HasSource (x ∷ xs) p s
has_source x xs p s None is next h = let n = next h in record { pair = n.pair; rest = n.rest; among = inr n.among; is = n.is; source = n.source }
has_source x xs p s (Some r) is next h =
    let e : s ≡ r ++ x.source = cc in record { pair = x; rest = r; among = inl refl; is = below-is x.target p r is; source = e }

pub source-is : (pairs : List Pair) (p s : Route) → source_of pairs p ≡ Some s → HasSource pairs p s
source-is [] p s h = cc
source-is (x ∷ xs) p s h = has_source x xs p s (below x.target p) refl (source-is xs p s) h

pub covered : (pairs : List Pair) (p : Route) → covers (sources pairs) p ≡ true → (pair : Pair) × (rest : Route) × Among pairs pair × (p ≡ rest ++ pair.source)
covered [] p h = absurd (false≢true h)
covered (x ∷ xs) p h =
    elim (or_cases (is_prefix x.source p) (covers (sources xs) p) h) [
      | inl here ↦ let w = under-way x.source p here in (x, w.0, inl refl, w.1)
      | inr there ↦ let n = covered xs p there in (n.0, n.1, inr n.2, n.3)
    ]

pub covers-among : (pairs : List Pair) (pair : Pair) (r : Route) → Among pairs pair → covers (sources pairs) (r ++ pair.source) ≡ true
covers-among [] pair r a = absurd a
covers-among (x ∷ xs) pair r (inl e) = or_left _ _ (subst (λ (y : Pair). is_prefix x.source (r ++ y.source) ≡ true) (sym e) (under-from x.source (r ++ x.source) r refl))
covers-among (x ∷ xs) pair r (inr a) = or_right _ _ (covers-among xs pair r a)

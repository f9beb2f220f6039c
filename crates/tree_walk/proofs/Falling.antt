-- Each step of a walk leaves fewer.
use Rattle.std.proofs.Common.{◌≡◌, ℕ, zero, suc, Bool, ◌+◌, ◌-◌, ◌*◌, ◌^◌, ◌<◌, ◌≤◌, List, [], ◌∷◌, length, drop, refl, sym, ap, subst, arith}
use Rattle.std.proofs.Math.Nat.{mul-le-mul_right, suc-mul}
use Rattle.mc_text.specs.Routes.{Route}
use Rattle.tree_walk.specs.Places.{IsLeft, OpenFolder, Place, entered_place, passed_place}
use Rattle.tree_walk.specs.Ranks.{rank, rank_around, weight}

some_weight : (left : ℕ) → 1 ≤ weight left
some_weight zero = omega arith
some_weight (suc left) = omega arith

one_less : (names : List (List ℕ)) → 1 ≤ length names → length names ≡ suc (length (drop 1 names))
one_less [] some = omega (arith, some)
one_less (name ∷ names) some = refl

less_by : (n w rest : ℕ) → 1 ≤ w → (1 + n * w) + rest < (1 + suc n * w) + rest
less_by n w rest some = let s : suc n * w ≡ n * w + w = suc-mul n w in omega (arith, some, s)

pub pass_falls : (left : Bool) (w : Place) → 1 ≤ length w.inner.names → rank (passed_place left w) < rank w
pass_falls left w some =
    subst (λ n. (1 + length (drop 1 w.inner.names) * weight w.left) + rank_around (suc w.left) w.around < (1 + n * weight w.left) + rank_around (suc w.left) w.around) (sym (one_less w.inner.names some))
    (less_by (length (drop 1 w.inner.names)) (weight w.left) (rank_around (suc w.left) w.around) (some_weight w.left))

sums : (few many kept more rest : ℕ) → few ≤ many → more ≡ kept + (2 + many) → (1 + few) + ((1 + kept) + rest) < (1 + more) + rest
sums few many kept more rest h e = omega (arith, h, e)

opens : (n less k : ℕ) (around : List OpenFolder) → n ≤ 2 ^ 64
    → (1 + n * weight less) + ((1 + k * weight (suc less)) + rank_around (suc (suc less)) around) < (1 + suc k * weight (suc less)) + rank_around (suc (suc less)) around
opens n less k around few =
    sums (n * weight less) (2 ^ 64 * weight less) (k * weight (suc less)) (suc k * weight (suc less)) (rank_around (suc (suc less)) around) (mul-le-mul_right (weight less) few) (suc-mul k (weight (suc less)))

pub enter_falls : (path : Route) (names : List (List ℕ)) (w : Place) → 1 ≤ length w.inner.names → 1 ≤ w.left → length names ≤ 2 ^ 64 → rank (entered_place path names w) < rank w
enter_falls path names w some deeper few =
    let e : suc (w.left - 1) ≡ w.left = omega (arith, deeper) in
    subst (λ l. (1 + length names * weight (w.left - 1)) + ((1 + length (drop 1 w.inner.names) * weight (suc (w.left - 1))) + rank_around (suc (suc (w.left - 1))) w.around) < (1 + length w.inner.names * weight l) + rank_around (suc l) w.around) e
    (subst (λ n. (1 + length names * weight (w.left - 1)) + ((1 + length (drop 1 w.inner.names) * weight (suc (w.left - 1))) + rank_around (suc (suc (w.left - 1))) w.around)
    < (1 + n * weight (suc (w.left - 1))) + rank_around (suc (suc (w.left - 1))) w.around) (sym (one_less w.inner.names some))
    (opens (length names) (w.left - 1) (length (drop 1 w.inner.names)) w.around few))

pub leave_falls : (left : Bool) (old new : Place) → IsLeft left old new → rank new < rank old
leave_falls left old new is =
    let names : length new.inner.names ≡ length is.outer.names = ap (λ (o : OpenFolder). length o.names) is.inner in
    let levels : new.left ≡ suc old.left = (let l = is.levels in omega (arith, l)) in
    subst (λ a. rank new < (1 + length old.inner.names * weight old.left) + rank_around (suc old.left) a) (sym is.was)
    (subst (λ n. (1 + n * weight new.left) + rank_around (suc new.left) new.around < (1 + length old.inner.names * weight old.left) + ((1 + length is.outer.names * weight (suc old.left)) + rank_around (suc (suc old.left)) new.around)) (sym names)
    (subst (λ l. (1 + length is.outer.names * weight l) + rank_around (suc l) new.around < (1 + length old.inner.names * weight old.left) + ((1 + length is.outer.names * weight (suc old.left)) + rank_around (suc (suc old.left)) new.around)) (sym levels) (omega arith)))

at_most : (n less rest : ℕ) → n ≤ 2 ^ 64 → (1 + n * weight less) + rest < (2 + 2 ^ 64 * weight less) + rest
at_most n less rest few = let m = mul-le-mul_right (weight less) few in omega (arith, m)

-- the outermost folder takes fewer steps than a thing a level higher
pub open_falls : (left : ℕ) (names : List (List ℕ)) (around : List OpenFolder) → length names ≤ 2 ^ 64
    → (1 + length names * weight left) + rank_around (suc left) around < weight (suc left) + rank_around (suc left) around
open_falls left names around few = at_most (length names) left (rank_around (suc left) around) few

-- Where paths lie to one another.
use Rattle.std.proofs.Common.{◌≡◌, ℕ, Bool, true, false, List, [], ◌∷◌, ◌++◌, length, refl, sym, ◌∙◌, ap, inl, inr, ◌⊎◌, Option, Some, None, cond, arith, append_assoc, length-append}
use Rattle.std.specs.Prelude.{is_some}
use Rattle.std.specs.Option.{option_map}
use Rattle.std.proofs.lemmas.Bool.{false≢true, or_cases, or_left, or_right, false_from_ne_true}
use Rattle.std.proofs.lemmas.Slice.Eq.{bytes_eq-Decides, slice_eq-Decides}
use Rattle.mc_text.specs.Routes.{Route, same_path, is_prefix}
use Rattle.op_plan.specs.Meeting.{meet}
use Rattle.laws_claims.specs.Ways.{below}
use Rattle.op_plan.proofs.Paths.{bool_same, same-true, same-self, prefix-way, prefix-from}

some_same : {A : Type 0} (x y : A) → (let o : Option A = Some x in o) ≡ Some y → x ≡ y
some_same x y h = cc

below_end : (b : Bool) (top rest : Route) → (b ≡ true → [] ≡ top) → cond b (Some []) None ≡ Some rest → [] ≡ rest ++ top
below_end true top rest is h = is refl ∙ ap (λ (r : Route). r ++ top) (some_same {A = Route} [] rest h)
below_end false top rest is h = cc

below_name : (name : List ℕ) (folder top rest : Route) (o : Option Route) (b : Bool) → (b ≡ true → (name ∷ folder) ≡ top)
    → ((r : Route) → o ≡ Some r → folder ≡ r ++ top)
    → cond b (Some []) (option_map (λ rest. name ∷ rest) o) ≡ Some rest → (name ∷ folder) ≡ rest ++ top
below_name name folder top rest o true is next h = is refl ∙ ap (λ (r : Route). r ++ top) (some_same {A = Route} [] rest h)
below_name name folder top rest None false is next h = cc
below_name name folder top rest (Some r) false is next h =
    ap (λ (f : Route). name ∷ f) (next r refl) ∙ ap (λ (r : Route). r ++ top) (some_same {A = Route} (name ∷ r) rest h)

pub below-is : (top p rest : Route) → below top p ≡ Some rest → p ≡ rest ++ top
below-is top [] rest h = below_end (same_path [] top) top rest (same-true [] top) h
below-is top (name ∷ folder) rest h =
    below_name name folder top rest (below top folder) (same_path (name ∷ folder) top) (same-true (name ∷ folder) top) (below-is top folder) h

below-self : (top : Route) → below top top ≡ Some []
below-self [] = refl
below-self (name ∷ folder) = rw (same-self (name ∷ folder)) refl

not_longer : (name : List ℕ) (rest top : Route) → same_path (name ∷ rest ++ top) top ≡ false
not_longer name rest top =
    false_from_ne_true _ (λ h. let e = ap length (same-true (name ∷ rest ++ top) top h) in let l = length-append rest top in omega (arith, e, l))

pub below-append : (rest top : Route) → below top (rest ++ top) ≡ Some rest
below-append [] top = below-self top
below-append (name ∷ rest) top = rw (not_longer name rest top, below-append rest top) refl

pub under-way : (top p : Route) → is_prefix top p ≡ true → (rest : Route) × (p ≡ rest ++ top)
under-way = prefix-way

pub under-from : (top p rest : Route) → p ≡ rest ++ top → is_prefix top p ≡ true
under-from = prefix-from

pub under-below : (top p rest : Route) → below top p ≡ Some rest → is_prefix top p ≡ true
under-below top p rest e = under-from top p rest (below-is top p rest e)

-- a path lies under another exactly where there is a way to it
pub under-some : (top p : Route) → is_prefix top p ≡ is_some (below top p)
under-some top p = bool_same (is_prefix top p) (is_some (below top p)) to from
  where
    to : is_prefix top p ≡ true → is_some (below top p) ≡ true
    to h = let w = under-way top p h in ap is_some (ap (below top) w.1 ∙ below-append w.0 top)

    way : (o : Option Route) → below top p ≡ o → is_some o ≡ true → is_prefix top p ≡ true
    way None e h = absurd (false≢true h)
    way (Some rest) e h = under-below top p rest e

    from : is_some (below top p) ≡ true → is_prefix top p ≡ true
    from h = way (below top p) refl h

pub under-self : (p : Route) → is_prefix p p ≡ true
under-self p = under-from p p [] refl

pub under-trans : (a b c : Route) → is_prefix a b ≡ true → is_prefix b c ≡ true → is_prefix a c ≡ true
under-trans a b c h k =
    let x = under-way a b h in
    let y = under-way b c k in
    under-from a c (y.0 ++ x.0) (y.1 ∙ (ap (λ (r : Route). y.0 ++ r) x.1 ∙ sym (append_assoc y.0 x.0 a)))

-- of two paths above one path, one is above the other
comparable : (u v a b : Route) → u ++ a ≡ v ++ b → (is_prefix b a ≡ true) ⊎ (is_prefix a b ≡ true)
comparable [] v a b e = inl (under-from b a v e)
comparable (m ∷ u) [] a b e = inr (under-from a b (m ∷ u) (sym e))
comparable (m ∷ u) (n ∷ v) a b e = let t : u ++ a ≡ v ++ b = cc in comparable u v a b t

pub meet_above : (a b p : Route) → is_prefix a p ≡ true → is_prefix b p ≡ true → meet a b ≡ true
meet_above a b p h k =
    let x = under-way a p h in
    let y = under-way b p k in
    elim (comparable x.0 y.0 a b (sym x.1 ∙ y.1)) [
      | inl ba ↦ or_right (is_prefix a b) (is_prefix b a) ba
      | inr ab ↦ or_left (is_prefix a b) (is_prefix b a) ab
    ]

-- what lies above a path meets what meets it
pub meet_up : (c w p : Route) → is_prefix w p ≡ true → meet c p ≡ true → meet c w ≡ true
meet_up c w p h k =
    elim (or_cases (is_prefix c p) (is_prefix p c) k) [
      | inl below ↦ meet_above c w p below h
      | inr above ↦ or_right (is_prefix c w) (is_prefix w c) (under-trans w p c h above)
    ]

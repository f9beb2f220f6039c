-- The recursion over a subtree is what the outcome says path by path.
use Rattle.std.proofs.Common.{◌≡◌, Bool, true, false, [], ◌∷◌, ◌++◌, refl, sym, ◌∙◌, ap, inl, inr, ◌⊎◌, Option, Some, None, cond}
use Rattle.std.specs.Prelude.{◌||◌, is_some}
use Rattle.std.proofs.lemmas.Bool.{cases_Bool, or_cases, false≢true}
use Rattle.mc_text.specs.Routes.{Route, same_path, is_prefix}
use Rattle.tree_trait.specs.FileSystem.{View, view_with}
use Rattle.job_reports.specs.declared.job.Pair.{Pair}
use Rattle.laws_claims.specs.Ways.{below}
use Rattle.laws_claims.specs.Views.{holding}
use mathlib.Core.Path.{fun_ext}
use Rattle.op_plan.specs.declared.job.Job.TheVariants.{Copy}
use Rattle.laws_claims.specs.Works.{Make, Place, source_of}
use Rattle.laws_claims.specs.Outcome.{Decisions, copied_target, outcome}
use Rattle.laws_claims.specs.Recursion.{Shape, End, Child, is_open, copy_children, lists, IsWithin, RecursionLaw}
use Rattle.op_plan.proofs.Paths.{same-true}
use Rattle.laws_claims.proofs.PathLemmas.{below-append, under-some, under-from, under-trans}
use Rattle.laws_claims.proofs.CopyLemmas.{put_off}

module _ (v : View) (d : Decisions) (pair : Pair) where
  abbrev out : View
  out = outcome v (Copy (pair ∷ [])) d

  -- a path at this way below the target
  out_at : (r : Route) → out (r ++ pair.target) ≡ holding (copied_target d (r ++ pair.target) (v (r ++ pair.source)).value (v (r ++ pair.target)).value) (v (r ++ pair.target))
  out_at r = rw (below-append r pair.target) refl

  -- each path holds what it held, or what the outcome says
  abbrev Goes : View → Type 0
  Goes w = (p : Route) → (w p ≡ v p) ⊎ (w p ≡ out p)

  put_goes : (w : View) (r p : Route) → (w p ≡ v p) ⊎ (w p ≡ out p) → (let x : Route = r ++ pair.target in same_path p x) ≡ true
      → view_with w (r ++ pair.target) (copied_target d (r ++ pair.target) (v (r ++ pair.source)).value (v (r ++ pair.target)).value) p ≡ out p
  put_goes w r p goes on =
      let e : p ≡ r ++ pair.target = same-true p (r ++ pair.target) on in
      let new = copied_target d (r ++ pair.target) (v (r ++ pair.source)).value (v (r ++ pair.target)).value in
      let was : holding (copied_target d (r ++ pair.target) (v (r ++ pair.source)).value (v (r ++ pair.target)).value) (w p) ≡ out p =
      elim goes [
        | inl old ↦ ap (holding (copied_target d (r ++ pair.target) (v (r ++ pair.source)).value (v (r ++ pair.target)).value)) (old ∙ ap v e) ∙ (sym (out_at r) ∙ ap out (sym e))
        | inr done ↦ ap (holding (copied_target d (r ++ pair.target) (v (r ++ pair.source)).value (v (r ++ pair.target)).value)) (done ∙ (ap out e ∙ out_at r)) ∙ (sym (out_at r) ∙ ap out (sym e))
      ] in
      rw on was

  abbrev here : View → Route → View
  here w r = view_with w (r ++ pair.target) (copied_target d (r ++ pair.target) (v (r ++ pair.source)).value (v (r ++ pair.target)).value)

  here_goes : (w : View) (r : Route) → Goes w → Goes (here w r)
  here_goes w r goes p =
      elim (cases_Bool (same_path p (r ++ pair.target))) [
        | inl on ↦ inr (put_goes w r p (goes p) on)
        | inr off ↦ elim (goes p) [ inl old ↦ inl (put_off w (r ++ pair.target) p _ off ∙ old) | inr done ↦ inr (put_off w (r ++ pair.target) p _ off ∙ done) ]
      ]

  here_stays : (w : View) (r p : Route) → w p ≡ out p → here w r p ≡ out p
  here_stays w r p done =
      elim (cases_Bool (same_path p (r ++ pair.target))) [ inl on ↦ put_goes w r p (inr done) on | inr off ↦ put_off w (r ++ pair.target) p _ off ∙ done ]

  cond_goes : (b : Bool) (x y : View) → Goes x → Goes y → Goes (cond b x y)
  cond_goes true x y h k = h
  cond_goes false x y h k = k

  cond_at : (b : Bool) (x y : View) (p : Route) → x p ≡ out p → y p ≡ out p → cond b x y p ≡ out p
  cond_at true x y p h k = h
  cond_at false x y p h k = k

  goes : (shape : Shape) (r : Route) (w : View) → Goes w → Goes (copy_children v d (r ++ pair.source) (r ++ pair.target) shape w)
  goes End r w h = h
  goes (Child name below next) r w h =
      let one = here_goes w (name ∷ r) h in
      goes next r _ (cond_goes (is_open v d (name ∷ r ++ pair.target)) _ _ (goes below (name ∷ r) (here w (name ∷ r)) one) one)

  stays : (shape : Shape) (r : Route) (w : View) (p : Route) → w p ≡ out p → copy_children v d (r ++ pair.source) (r ++ pair.target) shape w p ≡ out p
  stays End r w p h = h
  stays (Child name below next) r w p h =
      let one = here_stays w (name ∷ r) p h in
      stays next r _ p (cond_at (is_open v d (name ∷ r ++ pair.target)) _ _ p (stays below (name ∷ r) (here w (name ∷ r)) p one) one)

  -- where nothing is done the outcome is what was there
  still : (p : Route) (o : Option Route) → d Place p ≡ false → d Make p ≡ false → source_of (pair ∷ []) p ≡ o → out p ≡ v p
  still p None placed made is = rw is refl
  still p (Some s) placed made is = rw (is, placed, made) refl

  as_before : (w : View) (p : Route) → Goes w → out p ≡ v p → w p ≡ out p
  as_before w p goes same_path = elim (goes p) [ inl old ↦ old ∙ sym same_path | inr done ↦ done ]

  listed_below : (shape : Shape) (top p : Route) → lists top shape p ≡ true → (is_prefix top p ≡ true)
  listed_below End top p h = absurd (false≢true h)
  listed_below (Child name below next) top p h =
      elim (or_cases (same_path p (name ∷ top)) (lists (name ∷ top) below p || lists top next p) h) [
        | inl on ↦ let e : p ≡ name ∷ top = same-true p (name ∷ top) on in under-from top p (name ∷ []) e
        | inr more ↦ elim (or_cases (lists (name ∷ top) below p) (lists top next p) more) [
          | inl deep ↦ under-trans top (name ∷ top) p (under-from top (name ∷ top) (name ∷ []) refl) (listed_below below (name ∷ top) p deep)
          | inr later ↦ listed_below next top p later
        ]
      ]

  module _ (opened : (target p : Route) → is_open v d target ≡ false → is_prefix target p ≡ true → same_path p target ≡ false → (d Place p ≡ false) × (d Make p ≡ false)) where
    -- below a target that isn't open, or at it
    shut : (w : View) (r p : Route) → Goes w → is_open v d (r ++ pair.target) ≡ false → is_prefix (r ++ pair.target) p ≡ true → here w r p ≡ out p
    shut w r p goes closed under =
        elim (cases_Bool (same_path p (r ++ pair.target))) [
          | inl on ↦ put_goes w r p (goes p) on
          | inr off ↦ let n = opened (r ++ pair.target) p closed under off in as_before (here w r) p (here_goes w r goes) (still p _ n.0 n.1 refl)
        ]

    reaches : (shape : Shape) (r : Route) (w : View) (p : Route) → Goes w → lists (r ++ pair.target) shape p ≡ true → copy_children v d (r ++ pair.source) (r ++ pair.target) shape w p ≡ out p
    reaches End r w p g h = absurd (false≢true h)
    reaches (Child name below next) r w p g h =
        let one = here_goes w (name ∷ r) g in
        let mid_goes = cond_goes (is_open v d (name ∷ r ++ pair.target)) _ _ (goes below (name ∷ r) (here w (name ∷ r)) one) one in
        elim (or_cases (same_path p (name ∷ r ++ pair.target)) (lists (name ∷ r ++ pair.target) below p || lists (r ++ pair.target) next p) h) [
          | inl on ↦
              let at = put_goes w (name ∷ r) p (g p) on in
              stays next r _ p (cond_at (is_open v d (name ∷ r ++ pair.target)) _ _ p (stays below (name ∷ r) (here w (name ∷ r)) p at) at)
          | inr more ↦ elim (or_cases (lists (name ∷ r ++ pair.target) below p) (lists (r ++ pair.target) next p) more) [
            | inl deep ↦ stays next r _ p (inner (is_open v d (name ∷ r ++ pair.target)) refl (reaches below (name ∷ r) (here w (name ∷ r)) p one deep) deep)
            | inr later ↦ reaches next r _ p mid_goes later
          ]
        ]
      where
        inner : (b : Bool) → is_open v d (name ∷ r ++ pair.target) ≡ b → copy_children v d (name ∷ r ++ pair.source) (name ∷ r ++ pair.target) below (here w (name ∷ r)) p ≡ out p
            → lists (name ∷ r ++ pair.target) below p ≡ true
            → cond (is_open v d (name ∷ r ++ pair.target)) (copy_children v d (name ∷ r ++ pair.source) (name ∷ r ++ pair.target) below (here w (name ∷ r))) (here w (name ∷ r)) p ≡ out p
        inner true is at deep = rw is at
        inner false is at deep = rw is (shut w (name ∷ r) p g is (listed_below below (name ∷ r ++ pair.target) p deep))

whole : (v : View) (d : Decisions) (pair : Pair) (shape : Shape) → IsWithin v d pair shape → (p : Route) (b : Bool) → is_open v d pair.target ≡ b
    → cond b (copy_children v d pair.source pair.target shape (here v d pair v [])) (here v d pair v []) p ≡ outcome v (Copy (pair ∷ [])) d p
whole v d pair shape within p true is =
    let g = here_goes v d pair v [] (λ q. inl refl) in
    elim (cases_Bool (same_path p pair.target)) [
      | inl on ↦ stays v d pair shape [] (here v d pair v []) p (put_goes v d pair v [] p (inl refl) on)
      | inr off ↦ elim (cases_Bool (lists pair.target shape p)) [
        | inl listed ↦ reaches v d pair within.opened shape [] (here v d pair v []) p g listed
        | inr out ↦
            let n = within.inside p off out in
            as_before v d pair _ p (goes v d pair shape [] (here v d pair v []) g) (still v d pair p _ n.0 n.1 refl)
      ]
    ]
whole v d pair shape within p false is =
    elim (cases_Bool (is_prefix pair.target p)) [
      | inl under ↦ shut v d pair within.opened v [] p (λ q. inl refl) is under
      | inr out ↦ as_before v d pair _ p (here_goes v d pair v [] (λ q. inl refl)) (away v d pair p out)
    ]
  where
    none_of : (o : Option Route) → is_some o ≡ false → o ≡ None
    none_of None h = refl
    none_of (Some r) h = absurd (false≢true (sym h))

    away : (v : View) (d : Decisions) (pair : Pair) (p : Route) → is_prefix pair.target p ≡ false → outcome v (Copy (pair ∷ [])) d p ≡ v p
    away v d pair p out = let e = none_of (below pair.target p) (sym (under-some pair.target p) ∙ out) in rw e refl

pub recursion_law : RecursionLaw
recursion_law v d pair shape within = fun_ext (λ p. whole v d pair shape within p (is_open v d pair.target) refl)

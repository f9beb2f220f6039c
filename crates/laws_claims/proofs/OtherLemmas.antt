-- The works of the jobs that have no sources leave their outcome.
use Rattle.std.proofs.Common.{◌≡◌, ℕ, Bool, true, false, List, [], ◌∷◌, refl, sym, ◌∙◌, ap, subst, inl, inr, Option, Some, None, cond}
use Rattle.std.specs.Prelude.{◌||◌, ◌&&◌}
use Rattle.std.specs.Option.{option_map}
use Rattle.std.proofs.lemmas.Bool.{cases_Bool}
use Rattle.mc_text.specs.Routes.{Route, same_path}
use Rattle.tree_trait.specs.FileSystem.{Value, Spot, View, view_with}
use Rattle.laws_claims.specs.Views.{Change, Nothing, Puts, holding, apply}
use mathlib.Core.Path.{fun_ext}
use Rattle.laws_claims.specs.Works.{Part, Work, Did, is_part, with_mode, Plain, plainly}
use Rattle.laws_claims.specs.Outcome.{decisions_of_works, plain_left}
use Rattle.op_plan.proofs.Paths.{same-true, same-self}
use Rattle.laws_claims.proofs.CopyLemmas.{put_on, put_off}

module _ (v : View) (plain : Plain) (twice : (x : Option Value) → plain.new (plain.new x) ≡ plain.new x) where
  abbrev left : List Work → View
  left works = plain_left plain v (decisions_of_works works)

  abbrev made : Part → Route → View → View
  made part p w = apply (plainly plain w part p) w

  again : (t r : Bool) (x : Spot) → t ≡ true → holding (plain.new (cond (t && r) (holding (plain.new x.value) x) x).value) (cond (t && r) (holding (plain.new x.value) x) x) ≡ holding (plain.new x.value) x
  again true true x e = ap (λ (o : Option Value). holding o x) (twice x.value)
  again true false x e = refl
  again false r x e = cc

  -- a work of another part, or away from the paths
  passed : (part : Part) (p : Route) (older : List Work) (b : Bool) → is_part part plain.part ≡ b → (t : Bool) → plain.is_at p ≡ t → (b && t) ≡ false
      → (q : Route) → left older q ≡ left (Did part p ∷ older) q
  passed part p older false is t at h q = rw is refl
  passed part p older true is true at h q = cc
  passed part p older true is false at h q =
      elim (cases_Bool (same_path q p)) [
        | inl on ↦ subst (λ (r : Route). left older r ≡ left (Did part p ∷ older) r) (sym (same-true q p on)) (rw at refl)
        | inr off ↦ rw off (away (is_part part plain.part) (plain.is_at q) (decisions_of_works older plain.part q))
      ]
    where
      away : (b t r : Bool) → cond (t && r) (holding (plain.new (v q).value) (v q)) (v q) ≡ cond (t && ((b && false) || r)) (holding (plain.new (v q).value) (v q)) (v q)
      away true t r = refl
      away false t r = refl

  one : (part : Part) (p : Route) (older : List Work) (b : Bool) → is_part part plain.part ≡ b → (t : Bool) → plain.is_at p ≡ t
      → (q : Route) → made part p (left older) q ≡ left (Did part p ∷ older) q
  one part p older false is t at q =
      let e : plainly plain (left older) part p ≡ Nothing = rw is refl in
      ap (λ (c : Change). apply c (left older) q) e ∙ passed part p older false is t at refl q
  one part p older true is false at q =
      let e : plainly plain (left older) part p ≡ Nothing = rw (is, at) refl in
      ap (λ (c : Change). apply c (left older) q) e ∙ passed part p older true is false at refl q
  one part p older true is true at q =
      let e : plainly plain (left older) part p ≡ Puts p (plain.new (left older p).value) = rw (is, at) refl in
      ap (λ (c : Change). apply c (left older) q) e ∙ elim (cases_Bool (same_path q p)) [
        | inl on ↦ subst (λ (r : Route). view_with (left older) p (plain.new (left older p).value) r ≡ left (Did part p ∷ older) r) (sym (same-true q p on))
            (put_on (left older) p (plain.new (left older p).value) ∙ (again (plain.is_at p) (decisions_of_works older plain.part p) (v p) at ∙ here))
        | inr off ↦ put_off (left older) p q (plain.new (left older p).value) off ∙ rw (is, off) refl
      ]
    where
      here : holding (plain.new (v p).value) (v p) ≡ left (Did part p ∷ older) p
      here = rw (is, at, same-self p) refl

  pub plain_step : (part : Part) (p : Route) (older : List Work) → made part p (left older) ≡ left (Did part p ∷ older)
  plain_step part p older = fun_ext (one part p older (is_part part plain.part) refl (plain.is_at p) refl)

  pub plain_start : v ≡ left []
  plain_start = fun_ext (λ q. go q (plain.is_at q))
    where
      go : (q : Route) (t : Bool) → v q ≡ cond (t && false) (holding (plain.new (v q).value) (v q)) (v q)
      go q true = refl
      go q false = refl

pub set_twice : (mode : ℕ) (x : Option Value) → option_map (with_mode mode) (option_map (with_mode mode) x) ≡ option_map (with_mode mode) x
set_twice mode None = refl
set_twice mode (Some x) = refl

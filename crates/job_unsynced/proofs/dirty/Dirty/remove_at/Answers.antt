-- what stood there is gone, and what else is the same
use Rattle.std.proofs.Common.{◌≡◌, ℕ, zero, suc, ◌++◌, Bool, true, false, List, [], ◌∷◌, refl, sym, ◌∙◌, ap, subst, get_or, take, drop, Option, Some, None}
use Rattle.std.specs.Prelude.{IfSome, not, if◌then◌else◌, slice_get}
use Rattle.std.specs.List.{remove}
use Rattle.mc_text.specs.Routes.{Route, same_path}
use Rattle.tree_trait.proofs.Visible.{same_path-self}
use Rattle.job_reports.specs.Paths.{without}
use Rattle.job_unsynced.proofs.dirty.Dirty.remove_at.Goals as goal

removed_out : (xs : List Route) (at : ℕ) (x y : Route) → x ≡ get_or xs at x → slice_get xs at ≡ Some y → without x (remove xs at) ≡ without y xs
removed_out [] at x y is stands = absurd (let f : ⊥ = cc in f)
removed_out (z ∷ zs) zero x y is stands =
    let same : z ≡ y = cc in
    let gone : same_path z y ≡ true = subst (λ p. same_path z p ≡ true) same (same_path-self z) in
    ap (λ p. without p zs) (is ∙ same) ∙ ap (λ b. if not b then z ∷ without y zs else without y zs) (sym gone)
removed_out (z ∷ zs) (suc at) x y is stands =
    ap (λ rest. if not (same_path z x) then z ∷ rest else rest) (removed_out zs at x y is stands) ∙ ap (λ p. if not (same_path z p) then z ∷ without y zs else without y zs) (is ∙ there zs at x y stands)
  where
    there : (xs : List Route) (at : ℕ) (d y : Route) → slice_get xs at ≡ Some y → get_or xs at d ≡ y
    there [] at d y h = absurd (let f : ⊥ = cc in f)
    there (x ∷ xs) zero d y h = cc
    there (x ∷ xs) (suc at) d y h = there xs at d y h

by : (now before after : List Route) (at : ℕ) (x : Route) → x ≡ get_or before at x → now ≡ remove before at → after ≡ without x now → (o : Option Route) → slice_get before at ≡ o → IfSome o (λ folder. after ≡ without folder before)
by now before after at x is now_is after_is None stands = tt
by now before after at x is now_is after_is (Some y) stands = after_is ∙ (ap (without x) now_is ∙ removed_out before at x y is stands)

pub returns : goal.returns
returns c =
    subst (λ (xs : List Route). IfSome (slice_get xs c.args.at) (λ folder. c.remove.new.self ≡ without folder xs)) c.self.view_is
    (by c.remove-synced.new.self.items c.self.inside.folders.items c.remove.new.self c.args.at c.remove-synced.result c.remove-synced.ensures.value c.remove-synced.ensures.items c.remove.ensures _ refl)

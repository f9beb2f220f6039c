-- The works of a job other than a move leave its outcome.
use Rattle.std.proofs.Common.{◌≡◌, Bool, true, false, List, [], ◌∷◌, refl, sym, ◌∙◌, ap, subst, inl, inr, Option, Some, None, cond}
use Rattle.std.specs.Prelude.{◌||◌}
use Rattle.std.specs.Option.{option_map, option_map_or}
use Rattle.std.specs.List.{list_any}
use Rattle.std.proofs.lemmas.Bool.{cases_Bool, both_ways, or_parts, and_parts, and_from, and_right, false_from_ne_true}
use Rattle.mc_text.specs.Routes.{Route, same_path, is_prefix}
use Rattle.tree_trait.specs.FileSystem.{Value, Spot, View, view_with}
use Rattle.job_reports.specs.declared.job.Pair.{Pair}
use Rattle.laws_claims.specs.Views.{holding, apply}
use mathlib.Core.Path.{fun_ext}
use Rattle.op_plan.specs.declared.job.Job.TheVariants.{Copy}
use Rattle.laws_claims.specs.Works.{Part, Make, Place, Set, Remove, Work, Did, is_part, folder, with_mode, made_for, mode_or, source_of, from_source, copies, does, after_works}
use Rattle.laws_claims.specs.Outcome.{is_work, decisions_of_works, copied_target, outcome}
use Rattle.laws_claims.specs.Fits.{is_above, IsFree, MayFollow, Follow}
use Rattle.laws_claims.proofs.Apart.{all_apart}
use Rattle.op_plan.proofs.Paths.{same-true, same-self}
use Rattle.laws_claims.proofs.PathLemmas.{under-self}
use Rattle.laws_claims.proofs.PlaceLemmas.{source-is, home}

-- where no work passes one test, none passes a narrower one
pub free_of : (f g : Work → Bool) (older : List Work) → ((w : Work) → g w ≡ true → f w ≡ true) → list_any f older ≡ false → list_any g older ≡ false
free_of f g [] narrower h = refl
free_of f g (w ∷ older) narrower h =
    let a = or_parts (f w) (list_any f older) h in
    let here : g w ≡ false = false_from_ne_true (g w) (λ t. both_ways (f w) a.0 (narrower w t)) in
    rw here (free_of f g older narrower a.1)

-- nothing is placed at a path above p, where nothing is placed at p or above
pub not_placed : (a p : Route) (older : List Work) → is_prefix a p ≡ true → IsFree (is_above Place p) older → decisions_of_works older Place a ≡ false
not_placed a p older above free = free_of (is_above Place p) (is_work Place a) older narrower free
  where
    narrower : (w : Work) → is_work Place a w ≡ true → is_above Place p w ≡ true
    narrower (Did part b) h =
        let t = and_parts (is_part part Place) (same_path a b) h in
        and_from (is_part part Place) (is_prefix b p) t.0 (subst (λ q. is_prefix q p ≡ true) (same-true a b t.1) above)

-- what is left at a target after a work more
pub copied-made : (q : Route) (older : List Work) (source target : Option Value) → decisions_of_works older Place q ≡ false → decisions_of_works older Set q ≡ false
    → copied_target (decisions_of_works (Did Make q ∷ older)) q source target ≡ made_for source
copied-made q older source target placed unset = rw (placed, same-self q, unset) refl

pub copied-placed : (q : Route) (older : List Work) (source target : Option Value) → copied_target (decisions_of_works (Did Place q ∷ older)) q source target ≡ source
copied-placed q older source target = rw (same-self q) refl

set_made : (b : Bool) (source : Option Value) → option_map (λ (x : Value). folder x.mode) source ≡ option_map (with_mode (mode_or source 0)) (cond b (option_map (λ (x : Value). folder x.mode) source) (made_for source))
set_made true None = refl
set_made true (Some x) = refl
set_made false None = refl
set_made false (Some x) = refl

pub copied-set : (q : Route) (older : List Work) (source target : Option Value) → decisions_of_works older Place q ≡ false → decisions_of_works older Make q ≡ true
    → copied_target (decisions_of_works (Did Set q ∷ older)) q source target ≡ option_map (with_mode (mode_or source 0)) (copied_target (decisions_of_works older) q source target)
copied-set q older source target placed made = rw (placed, made, same-self q) (set_made (decisions_of_works older Set q) source)

-- a work away from a path decides nothing of it
pub done-other : (part other : Part) (p q : Route) (older : List Work) → same_path q p ≡ false → decisions_of_works (Did part p ∷ older) other q ≡ decisions_of_works older other q
done-other part other p q older off = ap (λ t. (t || decisions_of_works older other q)) (and_right (is_part part other) (same_path q p) off)

pub copied-other : (part : Part) (p q : Route) (older : List Work) (source target : Option Value) → same_path q p ≡ false
    → copied_target (decisions_of_works (Did part p ∷ older)) q source target ≡ copied_target (decisions_of_works older) q source target
copied-other part p q older source target off =
    rw (done-other part Place p q older off, done-other part Make p q older off, done-other part Set p q older off) refl

-- a put elsewhere
pub put_off : (v : View) (p q : Route) (new : Option Value) → same_path q p ≡ false → view_with v p new q ≡ v q
put_off v p q new off = rw off refl

pub put_on : (v : View) (p : Route) (new : Option Value) → view_with v p new p ≡ holding new (v p)
put_on v p new = rw (same-self p) refl

module _ (pairs : List Pair) (v : View) (sound : all_apart pairs ≡ true) where
  abbrev left : List Work → View
  left works = outcome v (Copy pairs) (decisions_of_works works)

  abbrev value_at : List Work → Route → Option Route → Spot
  value_at works q o = option_map_or (λ source. holding (copied_target (decisions_of_works works) q (v source).value (v q).value) (v q)) o (v q)

  -- away from the work's path
  away : (part : Part) (p : Route) (older : List Work) (q : Route) (o : Option Route) → same_path q p ≡ false → value_at (Did part p ∷ older) q o ≡ value_at older q o
  away part p older q None off = refl
  away part p older q (Some s) off = ap (λ x. holding x (v q)) (copied-other part p q older (v s).value (v q).value off)

  -- a source is as it was
  at_source : (older : List Work) (p s : Route) → source_of pairs p ≡ Some s → left older s ≡ v s
  at_source older p s h =
      let has = source-is pairs p s h in
      let gone : source_of pairs s ≡ None = ap (source_of pairs) has.source ∙ (home pairs has.pair sound has.among).none has.rest in
      rw gone refl

  -- a work at a path that has no source
  nothing_at : (part : Part) (older : List Work) (p : Route) → source_of pairs p ≡ None → (q : Route) → left older q ≡ left (Did part p ∷ older) q
  nothing_at part older p gone q =
      elim (cases_Bool (same_path q p)) [
        | inl e ↦ let none : source_of pairs q ≡ None = ap (source_of pairs) (same-true q p e) ∙ gone in rw none refl
        | inr off ↦ sym (away part p older q (source_of pairs q) off)
      ]

  -- a work that puts a value where the outcome has it
  puts : (part : Part) (older : List Work) (p s : Route) (new : Option Value) → source_of pairs p ≡ Some s
      → new ≡ copied_target (decisions_of_works (Did part p ∷ older)) p (v s).value (v p).value → (q : Route) → view_with (left older) p new q ≡ left (Did part p ∷ older) q
  puts part older p s new h e q =
      elim (cases_Bool (same_path q p)) [
        | inl on ↦ subst (λ (r : Route). view_with (left older) p new r ≡ left (Did part p ∷ older) r) (sym (same-true q p on))
            (put_on (left older) p new ∙ rw (h, e) refl)
        | inr off ↦ put_off (left older) p q new off ∙ sym (away part p older q (source_of pairs q) off)
      ]

  with_source : (part : Part) (older : List Work) (p s : Route) → MayFollow pairs part p older → source_of pairs p ≡ Some s
      → (q : Route) → apply (copies (left older) part p s) (left older) q ≡ left (Did part p ∷ older) q
  with_source Make older p s may h q =
      puts Make older p s (made_for (left older s).value) h
      (ap (λ (x : Spot). made_for x.value) (at_source older p s h) ∙ sym (copied-made p older (v s).value (v p).value (not_placed p p older (under-self p) may.0) may.1)) q
  with_source Place older p s may h q =
      puts Place older p s (left older s).value h
      (ap (λ (x : Spot). x.value) (at_source older p s h) ∙ sym (copied-placed p older (v s).value (v p).value)) q
  with_source Set older p s may h q =
      let was : (left older p).value ≡ copied_target (decisions_of_works older) p (v s).value (v p).value = rw h refl in
      puts Set older p s (option_map (with_mode (mode_or (left older s).value 0)) (left older p).value) h
      (ap (λ (x : Spot). option_map (with_mode (mode_or x.value 0)) (left older p).value) (at_source older p s h)
      ∙ (ap (option_map (with_mode (mode_or (v s).value 0))) was
      ∙ sym (copied-set p older (v s).value (v p).value (not_placed p p older (under-self p) may.0) may.1))) q
  with_source Remove older p s may h q = refl

  one : (part : Part) (p : Route) (older : List Work) → MayFollow pairs part p older → (o : Option Route) → source_of pairs p ≡ o
      → (q : Route) → apply (from_source pairs p (copies (left older) part p)) (left older) q ≡ left (Did part p ∷ older) q
  one part p older may None h q = rw h (nothing_at part older p h q)
  one part p older may (Some s) h q = rw h (with_source part older p s may h q)

  pub copy_fits : (works : List Work) → Follow pairs works → after_works (Copy pairs) works v ≡ outcome v (Copy pairs) (decisions_of_works works)
  copy_fits [] fits = fun_ext (λ q. start q (source_of pairs q))
    where
      start : (q : Route) (o : Option Route) → v q ≡ value_at [] q o
      start q None = refl
      start q (Some s) = refl
  copy_fits (Did part p ∷ older) fits =
      ap (does (Copy pairs) (Did part p)) (copy_fits older fits.1) ∙ fun_ext (λ q. one part p older fits.0 (source_of pairs p) refl q)

-- The works of a move leave its outcome.
use Rattle.std.proofs.Common.{◌≡◌, ℕ, Bool, true, false, List, [], ◌∷◌, ◌++◌, refl, sym, ◌∙◌, ap, subst, inl, inr, Option, Some, None, cond, append_assoc}
use Rattle.std.specs.Prelude.{◌||◌, ◌&&◌, is_some}
use Rattle.std.specs.Option.{option_map}
use Rattle.std.proofs.lemmas.Bool.{cases_Bool, both_ways, or_left, or_right, or_from, and_left, and_right, and_parts, and_from, false_from_ne_true}
use Rattle.mc_text.specs.Routes.{Route, same_path, is_prefix}
use Rattle.tree_trait.specs.FileSystem.{Value, Spot, View, view_with}
use Rattle.tree_trait.specs.Refusals.{holder}
use Rattle.job_reports.specs.declared.job.Pair.{Pair}
use Rattle.op_plan.specs.Meeting.{meet}
use Rattle.laws_claims.specs.Ways.{below}
use Rattle.laws_claims.specs.Views.{nothing, Nothing, Puts, Carries, holding, carry, apply, mount_of, one_mount}
use mathlib.Core.Path.{fun_ext}
use Rattle.op_plan.specs.declared.job.Job.TheVariants.{Move}
use Rattle.laws_claims.specs.Works.{Part, Make, Place, Set, Remove, Work, Did, is_part, with_mode, made_for, mode_or, covers, sources, source_of, moves, does, after_works}
use Rattle.laws_claims.specs.Outcome.{Decisions, is_work, decisions_of_works, copied_target, Spotted, AtTarget, AtSource, Elsewhere, place, is_carried, moved_spot, outcome}
use Rattle.laws_claims.specs.Fits.{is_above, is_near_work, IsFree, MayFollow, Follow}
use Rattle.laws_claims.proofs.Apart.{all_apart}
use Rattle.op_plan.proofs.Paths.{same-true, same-self}
use Rattle.laws_claims.proofs.PathLemmas.{under-self, under-some, under-from, under-way, under-trans, below-is, meet_above}
use Rattle.laws_claims.proofs.PlaceLemmas.{Among, IsAt, home, at_target, at_source, source-is, covered, covers-among}
use Rattle.laws_claims.proofs.CopyLemmas.{free_of, not_placed, done-other, copied-made, copied-placed, copied-set, copied-other, put_on, put_off}
use Rattle.laws_claims.proofs.LocalLemmas.{above_holder}

above_name : (name : List ℕ) (f : Route) → is_prefix f (name ∷ f) ≡ true
above_name name f = under-from f (name ∷ f) (name ∷ []) refl

-- the same mount, where the same folders are mounts
mount-like : (v w : View) (p : Route) → ((q : Route) → is_prefix q p ≡ true → (v q).is_mount ≡ (w q).is_mount) → mount_of v p ≡ mount_of w p
mount-like v w [] same_path = refl
mount-like v w (name ∷ f) same_path =
    rw (same_path (name ∷ f) (under-self (name ∷ f)), mount-like v w f (λ q h. same_path q (under-trans q f (name ∷ f) h (above_name name f)))) refl

one_mount-like : (v w : View) (a b : Route) → ((q : Route) → is_prefix q a ≡ true → (v q).is_mount ≡ (w q).is_mount)
    → ((q : Route) → is_prefix q b ≡ true → (v q).is_mount ≡ (w q).is_mount) → one_mount v a b ≡ one_mount w a b
one_mount-like v w a b at_a at_b =
    rw (
      mount-like v w (holder a) (λ q h. at_a q (under-trans q (holder a) a h (above_holder a))),
      mount-like v w (holder b) (λ q h. at_b q (under-trans q (holder b) b h (above_holder b))),
    ) refl

near_work : (part : Part) (a p : Route) (older : List Work) → meet a p ≡ true → IsFree (is_near_work part p) older → decisions_of_works older part a ≡ false
near_work part a p older near free = free_of (is_near_work part p) (is_work part a) older narrower free
  where
    narrower : (w : Work) → is_work part a w ≡ true → is_near_work part p w ≡ true
    narrower (Did other b) h =
        let t = and_parts (is_part other part) (same_path a b) h in
        and_from (is_part other part) (meet b p) t.0 (subst (λ q. meet q p ≡ true) (same-true a b t.1) near)

-- nothing is carried where nothing is placed there or above
not_carried : (v : View) (d : Decisions) (pair : Pair) (rest : Route) → ((a : Route) → is_prefix a (rest ++ pair.target) ≡ true → d Place a ≡ false) → is_carried v d pair rest ≡ false
not_carried v d pair [] free = and_left (d Place pair.target) (one_mount v pair.source pair.target) (free pair.target (under-self pair.target))
not_carried v d pair (name ∷ rest) free =
    or_from (d Place (name ∷ rest ++ pair.target) && one_mount v (name ∷ rest ++ pair.source) (name ∷ rest ++ pair.target)) (is_carried v d pair rest)
    (and_left (d Place (name ∷ rest ++ pair.target)) _ (free (name ∷ rest ++ pair.target) (under-self (name ∷ rest ++ pair.target))))
    (not_carried v d pair rest (λ a h. free a (under-trans a (rest ++ pair.target) (name ∷ rest ++ pair.target) h (above_name name (rest ++ pair.target)))))

off_path : (a p : Route) → is_prefix p a ≡ false → same_path a p ≡ false
off_path a p off =
    false_from_ne_true (same_path a p) (λ h. let e : a ≡ p = same-true a p h in both_ways (is_prefix p a) off (subst (λ q. is_prefix p q ≡ true) (sym e) (under-self p)))

module _ (v : View) (p : Route) (older : List Work) (pair : Pair) where
  -- a placing elsewhere carries nothing here
  carried-away : (rest : Route) → is_prefix p (rest ++ pair.target) ≡ false → is_carried v (decisions_of_works (Did Place p ∷ older)) pair rest ≡ is_carried v (decisions_of_works older) pair rest
  carried-away [] off = let here = off_path pair.target p off in rw here refl
  carried-away (name ∷ rest) off =
      let here = off_path (name ∷ rest ++ pair.target) p off in
      let up : is_prefix p (rest ++ pair.target) ≡ false =
      false_from_ne_true _ (λ h. both_ways (is_prefix p (name ∷ rest ++ pair.target)) off
      (under-trans p (rest ++ pair.target) (name ∷ rest ++ pair.target) h (above_name name (rest ++ pair.target)))) in
      rw (here, carried-away rest up) refl

  -- a placing by one renaming carries all below it
  carried-here : (rest : Route) → p ≡ rest ++ pair.target → one_mount v (rest ++ pair.source) p ≡ true → is_carried v (decisions_of_works (Did Place p ∷ older)) pair rest ≡ true
  carried-here [] is mount =
      let on : same_path pair.target p ≡ true = subst (λ q. same_path q p ≡ true) is (same-self p) in
      let m : one_mount v pair.source pair.target ≡ true = subst (λ q. one_mount v pair.source q ≡ true) is mount in
      rw (on, m) refl
  carried-here (name ∷ rest) is mount =
      let on : same_path (name ∷ rest ++ pair.target) p ≡ true = subst (λ q. same_path q p ≡ true) is (same-self p) in
      let m : one_mount v (name ∷ rest ++ pair.source) (name ∷ rest ++ pair.target) ≡ true = subst (λ q. one_mount v (name ∷ rest ++ pair.source) q ≡ true) is mount in
      or_left _ (is_carried v (decisions_of_works (Did Place p ∷ older)) pair rest) (rw (on, m) refl)

  carried-below : (r rest : Route) → is_carried v (decisions_of_works (Did Place p ∷ older)) pair rest ≡ true → is_carried v (decisions_of_works (Did Place p ∷ older)) pair (r ++ rest) ≡ true
  carried-below [] rest h = h
  carried-below (name ∷ r) rest h = or_right _ (is_carried v (decisions_of_works (Did Place p ∷ older)) pair (r ++ rest)) (carried-below r rest h)

  -- a placing across mounts carries nothing
  same_test : (a s : Route) → (same_path a p ≡ true → one_mount v s a ≡ false) → ((same_path a p || decisions_of_works older Place a) && one_mount v s a) ≡ (decisions_of_works older Place a && one_mount v s a)
  same_test a s off =
      elim (cases_Bool (same_path a p)) [
        | inl on ↦ and_right (same_path a p || decisions_of_works older Place a) (one_mount v s a) (off on) ∙ sym (and_right (decisions_of_works older Place a) (one_mount v s a) (off on))
        | inr out ↦ rw out refl
      ]

  mount_off : (a s : Route) → a ≡ p → one_mount v s p ≡ false → one_mount v s a ≡ false
  mount_off a s e h = subst (λ q. one_mount v s q ≡ false) (sym e) h

  carried-across : (rest : Route) → ((r : Route) → r ++ pair.target ≡ p → one_mount v (r ++ pair.source) p ≡ false) → is_carried v (decisions_of_works (Did Place p ∷ older)) pair rest ≡ is_carried v (decisions_of_works older) pair rest
  carried-across [] off = same_test pair.target pair.source (λ on. let e : pair.target ≡ p = same-true pair.target p on in mount_off pair.target pair.source e (off [] e))
  carried-across (name ∷ rest) off =
      rw (carried-across rest off)
      (ap (λ t. t || is_carried v (decisions_of_works older) pair rest)
      (same_test (name ∷ rest ++ pair.target) (name ∷ rest ++ pair.source)
      (λ on. let e : (name ∷ rest ++ pair.target) ≡ p = same-true (name ∷ rest ++ pair.target) p on in mount_off (name ∷ rest ++ pair.target) (name ∷ rest ++ pair.source) e (off (name ∷ rest) e))))

module _ (pairs : List Pair) (v : View) (sound : all_apart pairs ≡ true) where
  abbrev left : List Work → View
  left works = outcome v (Move pairs) (decisions_of_works works)

  -- a path that has a source, and that source
  record At (p s : Route) : Type 0 where
    pair : Pair
    rest : Route
    is : p ≡ rest ++ pair.target
    source : s ≡ rest ++ pair.source
    among : Among pairs pair
    here : IsAt pairs pair
    place_p : place pairs p ≡ AtTarget pair rest
    place_s : place pairs s ≡ AtSource pair rest

  at : (p s : Route) → source_of pairs p ≡ Some s → At p s
  at p s h =
      let has = source-is pairs p s h in
      let h' = home pairs has.pair sound has.among in
      record {
        pair = has.pair;
        rest = has.rest;
        is = has.is;
        source = has.source;
        among = has.among;
        here = h';
        place_p = ap (place pairs) has.is ∙ h'.targets has.rest;
        place_s = ap (place pairs) has.source ∙ h'.sources has.rest;
      }

  not_carried_at : (p s : Route) (older : List Work) (a : At p s) → IsFree (is_above Place p) older → is_carried v (decisions_of_works older) a.pair a.rest ≡ false
  not_carried_at p s older a free =
      not_carried v (decisions_of_works older) a.pair a.rest (λ b above. not_placed b p older (subst (λ q. is_prefix b q ≡ true) (sym a.is) above) free)

  -- the source as it was
  at_source_is : (older : List Work) (p s : Route) → At p s → IsFree (is_above Place p) older → decisions_of_works older Remove s ≡ false → left older s ≡ v s
  at_source_is older p s a free kept = let e = a.place_s in let c = not_carried_at p s older a free in rw (e, c, kept) refl

  -- what a work at p changes at no other path, but for what it carries
  away_at : (part : Part) (p : Route) (older : List Work) (q : Route) (o : Spotted) → same_path q p ≡ false
      → ((pair : Pair) (rest : Route) → o ≡ AtTarget pair rest → is_carried v (decisions_of_works (Did part p ∷ older)) pair rest ≡ is_carried v (decisions_of_works older) pair rest)
      → ((pair : Pair) (rest : Route) → o ≡ AtSource pair rest → is_carried v (decisions_of_works (Did part p ∷ older)) pair rest ≡ is_carried v (decisions_of_works older) pair rest)
      → moved_spot v (decisions_of_works (Did part p ∷ older)) q o ≡ moved_spot v (decisions_of_works older) q o
  away_at part p older q (AtTarget pair rest) off t s =
      let c = copied-other part p q older (v (rest ++ pair.source)).value (v q).value off in
      rw (t pair rest refl, c) refl
  away_at part p older q (AtSource pair rest) off t s = rw (s pair rest refl, done-other part Remove p q older off) refl
  away_at part p older q Elsewhere off t s = refl

  -- a work that puts a value where the outcome has it
  puts : (part : Part) (older : List Work) (p s : Route) (new : Option Value) → (a : At p s)
      → ((pair : Pair) (rest : Route) → Among pairs pair → is_carried v (decisions_of_works (Did part p ∷ older)) pair rest ≡ is_carried v (decisions_of_works older) pair rest)
      → is_carried v (decisions_of_works older) a.pair a.rest ≡ false
      → new ≡ copied_target (decisions_of_works (Did part p ∷ older)) p (v s).value (v p).value → (q : Route) → view_with (left older) p new q ≡ left (Did part p ∷ older) q
  puts part older p s new a same_carried c e q =
      elim (cases_Bool (same_path q p)) [
        | inl on ↦ subst (λ (r : Route). view_with (left older) p new r ≡ left (Did part p ∷ older) r) (sym (same-true q p on))
            (let l = a.place_p in let k : is_carried v (decisions_of_works (Did part p ∷ older)) a.pair a.rest ≡ false = same_carried a.pair a.rest a.among ∙ c in
            let f : (v s).value ≡ (v (a.rest ++ a.pair.source)).value = ap (λ (r : Route). (v r).value) a.source in
            let old : left older p ≡ holding (copied_target (decisions_of_works older) p (v (a.rest ++ a.pair.source)).value (v p).value) (v p) = rw (l, c) refl in
            let new_is : left (Did part p ∷ older) p ≡ holding (copied_target (decisions_of_works (Did part p ∷ older)) p (v (a.rest ++ a.pair.source)).value (v p).value) (v p) = rw (l, k) refl in
            put_on (left older) p new ∙ (ap (λ (x : Spot). holding new x) old
            ∙ (ap (λ (x : Option Value). holding x (v p)) (e ∙ ap (λ (x : Option Value). copied_target (decisions_of_works (Did part p ∷ older)) p x (v p).value) f) ∙ sym new_is)))
        | inr off ↦ put_off (left older) p q new off
            ∙ sym (away_at part p older q (place pairs q) off (λ pair rest h. same_carried pair rest (at_target pairs q pair rest h).among)
            (λ pair rest h. same_carried pair rest (at_source pairs q pair rest h).among))
      ]

  -- a work at a path with no source
  nothing_at : (part : Part) (older : List Work) (p : Route) → source_of pairs p ≡ None
      → ((pair : Pair) (rest : Route) → Among pairs pair → is_carried v (decisions_of_works (Did part p ∷ older)) pair rest ≡ is_carried v (decisions_of_works older) pair rest)
      → ((q : Route) → decisions_of_works (Did part p ∷ older) Remove q ≡ decisions_of_works older Remove q)
      → (q : Route) → left older q ≡ left (Did part p ∷ older) q
  nothing_at part older p gone same_carried same_removed q = go (place pairs q) refl
    where
      go : (o : Spotted) → place pairs q ≡ o → moved_spot v (decisions_of_works older) q o ≡ moved_spot v (decisions_of_works (Did part p ∷ older)) q o
      go (AtTarget pair rest) l =
          let f = at_target pairs q pair rest l in
          let h = home pairs pair sound f.among in
          let off : same_path q p ≡ false = false_from_ne_true (same_path q p) (λ on.
          let e : q ≡ p = same-true q p on in
          let some : source_of pairs p ≡ Some (rest ++ pair.source) = ap (source_of pairs) (sym e ∙ f.is) ∙ h.from rest in cc) in
          let c = copied-other part p q older (v (rest ++ pair.source)).value (v q).value off in
          rw (same_carried pair rest f.among, c) refl
      go (AtSource pair rest) l =
          let f = at_source pairs q pair rest l in
          rw (same_carried pair rest f.among, same_removed q) refl
      go Elsewhere l = refl

  removed_spot : (b : Bool) (x : Spot) → (cond b (holding None x) x).is_mount ≡ x.is_mount
  removed_spot true x = refl
  removed_spot false x = refl

  -- what lies above a thing still lies where it did, so mounts begin there as they did
  spot_at_target : (older : List Work) (p s : Route) → At p s → IsFree (is_above Place p) older → (x : Route) → is_prefix x p ≡ true → (left older x).is_mount ≡ (v x).is_mount
  spot_at_target older p s a free x above = go (place pairs x) refl
    where
      go : (o : Spotted) → place pairs x ≡ o → (moved_spot v (decisions_of_works older) x o).is_mount ≡ (v x).is_mount
      go (AtTarget pair rest) l =
          let f = at_target pairs x pair rest l in
          let c = not_carried v (decisions_of_works older) pair rest (λ b h. not_placed b p older (under-trans b x p (subst (λ q. is_prefix b q ≡ true) (sym f.is) h) above) free) in
          rw c refl
      go (AtSource pair rest) l =
          let f = at_source pairs x pair rest l in
          let h = home pairs pair sound f.among in
          let w = under-way x p above in
          let there : place pairs p ≡ AtSource pair (w.0 ++ rest) = ap (place pairs) (w.1 ∙ (ap (λ (r : Route). w.0 ++ r) f.is ∙ sym (append_assoc w.0 rest pair.source))) ∙ h.sources (w.0 ++ rest) in
          let here = a.place_p in cc
      go Elsewhere l = refl

  spot_at_source : (older : List Work) (p s : Route) → At p s → IsFree (is_above Place p) older → (x : Route) → is_prefix x s ≡ true → (left older x).is_mount ≡ (v x).is_mount
  spot_at_source older p s a free x above = go (place pairs x) refl
    where
      go : (o : Spotted) → place pairs x ≡ o → (moved_spot v (decisions_of_works older) x o).is_mount ≡ (v x).is_mount
      go (AtTarget pair rest) l =
          let f = at_target pairs x pair rest l in
          let h = home pairs pair sound f.among in
          let w = under-way x s above in
          let there : place pairs s ≡ AtTarget pair (w.0 ++ rest) = ap (place pairs) (w.1 ∙ (ap (λ (r : Route). w.0 ++ r) f.is ∙ sym (append_assoc w.0 rest pair.target))) ∙ h.targets (w.0 ++ rest) in
          let here = a.place_s in cc
      go (AtSource pair rest) l =
          let f = at_source pairs x pair rest l in
          let h = home pairs pair sound f.among in
          let w = under-way x s above in
          let there : place pairs s ≡ AtSource pair (w.0 ++ rest) = ap (place pairs) (w.1 ∙ (ap (λ (r : Route). w.0 ++ r) f.is ∙ sym (append_assoc w.0 rest pair.source))) ∙ h.sources (w.0 ++ rest) in
          let here = a.place_s in
          let same_pair : a.pair ≡ pair = cc in
          let same_rest : a.rest ≡ w.0 ++ rest = cc in
          let p_is : p ≡ w.0 ++ (rest ++ pair.target) = a.is ∙ (ap (λ (r : Route). r ++ a.pair.target) same_rest ∙ (ap (λ (y : Pair). (w.0 ++ rest) ++ y.target) same_pair ∙ append_assoc w.0 rest pair.target)) in
          let up : is_prefix (rest ++ pair.target) p ≡ true = under-from (rest ++ pair.target) p w.0 p_is in
          let c = not_carried v (decisions_of_works older) pair rest (λ b h. not_placed b p older (under-trans b (rest ++ pair.target) p h up) free) in
          rw c (removed_spot (decisions_of_works older Remove x) (v x))
      go Elsewhere l = refl

  mount_stays : (older : List Work) (p s : Route) → At p s → IsFree (is_above Place p) older → one_mount (left older) s p ≡ one_mount v s p
  mount_stays older p s a free = one_mount-like (left older) v s p (spot_at_source older p s a free) (spot_at_target older p s a free)

  near_above : (p : Route) (older : List Work) → IsFree (is_near_work Place p) older → IsFree (is_above Place p) older
  near_above p older free = free_of (is_near_work Place p) (is_above Place p) older narrower free
    where
      narrower : (w : Work) → is_above Place p w ≡ true → is_near_work Place p w ≡ true
      narrower (Did part b) h =
          let t = and_parts (is_part part Place) (is_prefix b p) h in
          and_from (is_part part Place) (meet b p) t.0 (or_left (is_prefix b p) (is_prefix p b) t.1)

  near_self : (s : Route) (older : List Work) → IsFree (is_near_work Remove s) older → decisions_of_works older Remove s ≡ false
  near_self s older free = near_work Remove s s older (or_left (is_prefix s s) (is_prefix s s) (under-self s)) free

  -- the pair of a target is the only one that leads there
  only_pair : (p s : Route) (a : At p s) (pair : Pair) (r : Route) → Among pairs pair → r ++ pair.target ≡ p → (pair ≡ a.pair) × (r ≡ a.rest)
  only_pair p s a pair r among is =
      let there : place pairs p ≡ AtTarget pair r = ap (place pairs) (sym is) ∙ (home pairs pair sound among).targets r in
      let here = a.place_p in
      let same_pair : pair ≡ a.pair = cc in
      let same_rest : r ≡ a.rest = cc in
      (same_pair, same_rest)

  place_across : (older : List Work) (p s : Route) (a : At p s) → IsFree (is_near_work Place p) older → IsFree (is_near_work Remove s) older → one_mount v s p ≡ false
      → (q : Route) → view_with (left older) p (left older s).value q ≡ left (Did Place p ∷ older) q
  place_across older p s a free kept off q =
      puts Place older p s (left older s).value a
      (λ pair rest among. carried-across v p older pair rest (λ r is.
      let o = only_pair p s a pair r among is in
      let e : r ++ pair.source ≡ s = ap (λ (t : Route). t ++ pair.source) o.1 ∙ (ap (λ (y : Pair). a.rest ++ y.source) o.0 ∙ sym a.source) in
      subst (λ t. one_mount v t p ≡ false) (sym e) off))
      (not_carried_at p s older a (near_above p older free))
      (ap (λ (x : Spot). x.value) (at_source_is older p s a (near_above p older free) (near_self s older kept)) ∙ sym (copied-placed p older (v s).value (v p).value)) q

  module _ (older : List Work) (p s : Route) (a : At p s) (free : IsFree (is_near_work Place p) older) (kept : IsFree (is_near_work Remove s) older) (on : one_mount v s p ≡ true) where
    carried_now : (r : Route) → is_carried v (decisions_of_works (Did Place p ∷ older)) a.pair (r ++ a.rest) ≡ true
    carried_now r = carried-below v p older a.pair r a.rest (carried-here v p older a.pair a.rest a.is (subst (λ t. one_mount v t p ≡ true) a.source on))

    target_is : (r : Route) → r ++ p ≡ (r ++ a.rest) ++ a.pair.target
    target_is r = ap (λ (t : Route). r ++ t) a.is ∙ sym (append_assoc r a.rest a.pair.target)

    source_is : (r : Route) → r ++ s ≡ (r ++ a.rest) ++ a.pair.source
    source_is r = ap (λ (t : Route). r ++ t) a.source ∙ sym (append_assoc r a.rest a.pair.source)

    -- what is carried was as at the start
    was : (r : Route) → left older (r ++ s) ≡ v (r ++ s)
    was r =
        let l : place pairs (r ++ s) ≡ AtSource a.pair (r ++ a.rest) = ap (place pairs) (source_is r) ∙ a.here.sources (r ++ a.rest) in
        let c : is_carried v (decisions_of_works older) a.pair (r ++ a.rest) ≡ false =
        not_carried v (decisions_of_works older) a.pair (r ++ a.rest) (λ b h.
        near_work Place b p older (meet_above b p (r ++ p) (subst (λ q. is_prefix b q ≡ true) (sym (target_is r)) h) (under-from p (r ++ p) r refl)) free) in
        let k : decisions_of_works older Remove (r ++ s) ≡ false = near_work Remove (r ++ s) s older (or_right (is_prefix (r ++ s) s) (is_prefix s (r ++ s)) (under-from s (r ++ s) r refl)) kept in
        rw (l, c, k) refl

    arrives : (r : Route) → left (Did Place p ∷ older) (r ++ p) ≡ v (r ++ s)
    arrives r =
        let l : place pairs (r ++ p) ≡ AtTarget a.pair (r ++ a.rest) = ap (place pairs) (target_is r) ∙ a.here.targets (r ++ a.rest) in
        let c = carried_now r in
        rw (l, c) (ap v (sym (source_is r)))

    leaves : (r : Route) → left (Did Place p ∷ older) (r ++ s) ≡ nothing
    leaves r =
        let l : place pairs (r ++ s) ≡ AtSource a.pair (r ++ a.rest) = ap (place pairs) (source_is r) ∙ a.here.sources (r ++ a.rest) in
        let c = carried_now r in
        rw (l, c) refl

    stays : (q : Route) → is_prefix p q ≡ false → is_prefix s q ≡ false → left older q ≡ left (Did Place p ∷ older) q
    stays q no_p no_s =
        sym (away_at Place p older q (place pairs q) (off_path q p no_p)
        (λ pair rest h. let f = at_target pairs q pair rest h in carried-away v p older pair rest (ap (is_prefix p) (sym f.is) ∙ no_p))
        (λ pair rest h.
        let f = at_source pairs q pair rest h in
        carried-away v p older pair rest (false_from_ne_true (is_prefix p (rest ++ pair.target)) (λ u.
        let w = under-way p (rest ++ pair.target) u in
        let e : rest ++ pair.target ≡ (w.0 ++ a.rest) ++ a.pair.target = w.1 ∙ target_is w.0 in
        let l : place pairs (rest ++ pair.target) ≡ AtTarget pair rest = (home pairs pair sound f.among).targets rest in
        let m : place pairs (rest ++ pair.target) ≡ AtTarget a.pair (w.0 ++ a.rest) = ap (place pairs) e ∙ a.here.targets (w.0 ++ a.rest) in
        let same_pair : pair ≡ a.pair = cc in
        let same_rest : rest ≡ w.0 ++ a.rest = cc in
        let q_is : q ≡ w.0 ++ s = f.is ∙ (ap (λ (t : Route). t ++ pair.source) same_rest ∙ (ap (λ (y : Pair). (w.0 ++ a.rest) ++ y.source) same_pair ∙ sym (source_is w.0))) in
        both_ways (is_prefix s q) no_s (under-from s q w.0 q_is)))))

    carries : (q : Route) (o : Option Route) → below p q ≡ o → carry (left older) s p q ≡ left (Did Place p ∷ older) q
    carries q (Some r) is =
        let e : q ≡ r ++ p = below-is p q r is in
        rw is (was r ∙ (sym (arrives r) ∙ ap (left (Did Place p ∷ older)) (sym e)))
    carries q None is =
        elim (cases_Bool (is_prefix s q)) [
          | inl h ↦ let w = under-way s q h in rw (is, h) (sym (leaves w.0) ∙ ap (left (Did Place p ∷ older)) (sym w.1))
          | inr off ↦ let no_p : is_prefix p q ≡ false = under-some p q ∙ ap is_some is in rw (is, off) (stays q no_p off)
        ]

  place_one : (older : List Work) (p s : Route) (a : At p s) → IsFree (is_near_work Place p) older → IsFree (is_near_work Remove s) older → (c : Bool) → one_mount v s p ≡ c
      → (q : Route) → apply (cond c (Carries s p) (Puts p (left older s).value)) (left older) q ≡ left (Did Place p ∷ older) q
  place_one older p s a free kept true is q = carries older p s a free kept is q (below p q) refl
  place_one older p s a free kept false is q = place_across older p s a free kept is q

  gone_twice : (c r : Bool) (x : Spot) → holding None (cond c nothing (cond r (holding None x) x)) ≡ cond c nothing (holding None x)
  gone_twice true r x = refl
  gone_twice false true x = refl
  gone_twice false false x = refl

  remove_on : (older : List Work) (p : Route) (c : Bool) → covers (sources pairs) p ≡ c → apply (cond c (Puts p None) Nothing) (left older) p ≡ left (Did Remove p ∷ older) p
  remove_on older p true is =
      let f = covered pairs p is in
      let l : place pairs p ≡ AtSource f.0 f.1 = ap (place pairs) f.3 ∙ (home pairs f.0 sound f.2).sources f.1 in
      put_on (left older) p None ∙ rw (l, same-self p) (gone_twice (is_carried v (decisions_of_works older) f.0 f.1) (decisions_of_works older Remove p) (v p))
  remove_on older p false is = go (place pairs p) refl
    where
      go : (o : Spotted) → place pairs p ≡ o → moved_spot v (decisions_of_works older) p o ≡ moved_spot v (decisions_of_works (Did Remove p ∷ older)) p o
      go (AtTarget pair rest) l = refl
      go (AtSource pair rest) l =
          let f = at_source pairs p pair rest l in
          absurd (both_ways (covers (sources pairs) p) is (ap (covers (sources pairs)) f.is ∙ covers-among pairs pair rest f.among))
      go Elsewhere l = refl

  remove_off : (older : List Work) (p q : Route) (c : Bool) → same_path q p ≡ false → apply (cond c (Puts p None) Nothing) (left older) q ≡ left older q
  remove_off older p q true off = put_off (left older) p q None off
  remove_off older p q false off = refl

  -- a source is removed
  remove_one : (older : List Work) (p : Route) (c : Bool) → covers (sources pairs) p ≡ c
      → (q : Route) → apply (cond c (Puts p None) Nothing) (left older) q ≡ left (Did Remove p ∷ older) q
  remove_one older p c is q =
      elim (cases_Bool (same_path q p)) [
        | inl on ↦ subst (λ (r : Route). apply (cond c (Puts p None) Nothing) (left older) r ≡ left (Did Remove p ∷ older) r) (sym (same-true q p on)) (remove_on older p c is)
        | inr off ↦ remove_off older p q c off ∙ sym (away_at Remove p older q (place pairs q) off (λ pair rest h. refl) (λ pair rest h. refl))
      ]

  with_source : (part : Part) (older : List Work) (p s : Route) → MayFollow pairs part p older → source_of pairs p ≡ Some s
      → (q : Route) → apply (moves pairs (left older) part p) (left older) q ≡ left (Did part p ∷ older) q
  with_source Make older p s may g q =
      let a = at p s g in
      rw g (puts Make older p s (made_for (left older s).value) a (λ pair rest among. refl) (not_carried_at p s older a may.0)
      (ap (λ (x : Spot). made_for x.value) (at_source_is older p s a may.0 (may.2 s g))
      ∙ sym (copied-made p older (v s).value (v p).value (not_placed p p older (under-self p) may.0) may.1)) q)
  with_source Place older p s may g q =
      let a = at p s g in
      let m = mount_stays older p s a (near_above p older may.0) in
      rw (g, m) (place_one older p s a may.0 (may.1 s g) (one_mount v s p) refl q)
  with_source Set older p s may g q =
      let a = at p s g in
      let l = a.place_p in
      let c = not_carried_at p s older a may.0 in
      let f : (v s).value ≡ (v (a.rest ++ a.pair.source)).value = ap (λ (r : Route). (v r).value) a.source in
      let was : (left older p).value ≡ copied_target (decisions_of_works older) p (v s).value (v p).value = rw (f, l, c) refl in
      rw g (puts Set older p s (option_map (with_mode (mode_or (left older s).value 0)) (left older p).value) a (λ pair rest among. refl) c
      (ap (λ (x : Spot). option_map (with_mode (mode_or x.value 0)) (left older p).value) (at_source_is older p s a may.0 (may.2 s g))
      ∙ (ap (option_map (with_mode (mode_or (v s).value 0))) was
      ∙ sym (copied-set p older (v s).value (v p).value (not_placed p p older (under-self p) may.0) may.1))) q)
  with_source Remove older p s may g q = remove_one older p (covers (sources pairs) p) refl q

  without_source : (part : Part) (older : List Work) (p : Route) → source_of pairs p ≡ None
      → (q : Route) → apply (moves pairs (left older) part p) (left older) q ≡ left (Did part p ∷ older) q
  without_source Make older p g q = rw g (nothing_at Make older p g (λ pair rest among. refl) (λ q. refl) q)
  without_source Place older p g q =
      rw g (nothing_at Place older p g
      (λ pair rest among. carried-across v p older pair rest (λ r e.
      let some : source_of pairs p ≡ Some (r ++ pair.source) = ap (source_of pairs) (sym e) ∙ (home pairs pair sound among).from r in cc))
      (λ q. refl) q)
  without_source Set older p g q = rw g (nothing_at Set older p g (λ pair rest among. refl) (λ q. refl) q)
  without_source Remove older p g q = remove_one older p (covers (sources pairs) p) refl q

  one : (part : Part) (p : Route) (older : List Work) → MayFollow pairs part p older → (o : Option Route) → source_of pairs p ≡ o
      → (q : Route) → apply (moves pairs (left older) part p) (left older) q ≡ left (Did part p ∷ older) q
  one part p older may None h q = without_source part older p h q
  one part p older may (Some s) h q = with_source part older p s may h q

  no_works : (pair : Pair) (rest : Route) → is_carried v (decisions_of_works []) pair rest ≡ false
  no_works pair rest = not_carried v (decisions_of_works []) pair rest (λ b h. refl)

  pub move_fits : (works : List Work) → Follow pairs works → after_works (Move pairs) works v ≡ outcome v (Move pairs) (decisions_of_works works)
  move_fits [] fits = fun_ext (λ q. start q (place pairs q))
    where
      start : (q : Route) (o : Spotted) → v q ≡ moved_spot v (decisions_of_works []) q o
      start q (AtTarget pair rest) = let c = no_works pair rest in rw c refl
      start q (AtSource pair rest) = let c = no_works pair rest in rw c refl
      start q Elsewhere = refl
  move_fits (Did part p ∷ older) fits =
      ap (does (Move pairs) (Did part p)) (move_fits older fits.1) ∙ fun_ext (λ q. one part p older fits.0 (source_of pairs p) refl q)

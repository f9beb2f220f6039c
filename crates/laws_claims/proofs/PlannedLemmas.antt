-- A path holds nothing but what it held before a job and what it holds after it.
use Rattle.std.proofs.Common.{◌≡◌, Bool, true, false, not, List, [], ◌∷◌, ◌++◌, refl, sym, ◌∙◌, ap, subst, inl, inr, ◌⊎◌, Option, Some, None, cond}
use Rattle.std.specs.Prelude.{◌&&◌, is_none}
use Rattle.std.specs.Option.{option_map}
use Rattle.std.proofs.lemmas.Bool.{false≢true, or_cases, or_left, or_right, and_parts, and_from}
use Rattle.mc_text.specs.Routes.{Route}
use Rattle.tree_trait.specs.FileSystem.{Value, Spot, View}
use Rattle.job_reports.specs.declared.job.Pair.{Pair}
use Rattle.laws_claims.specs.Views.{nothing, holding, one_mount}
use Rattle.mc_text.specs.declared.kind.Kind.{Kind}
use Rattle.mc_text.specs.declared.kind.Kind.TheVariants.{File, Folder, Link, Other}
use Rattle.op_plan.specs.declared.job.Job.TheVariants.{Copy, Move, Delete, MakeFolder, SetMode, MakeLink, Save}
use Rattle.laws_claims.specs.Works.{Part, Make, Place, Set, Remove, is_part, folder, made_for, source_of, Plain, deleting, making, setting, linking, saving}
use Rattle.laws_claims.specs.Outcome.{Decisions, Spotted, AtTarget, AtSource, Elsewhere, place, is_carried, moved_spot, plain_left, outcome}
use Rattle.laws_claims.specs.Planned.{folder_kind, is_folder, is_special, is_whole, move_parts, plain_parts, planned_decisions, IsPlanned, IsBetween, BetweenLaw}

-- a value from before, from after, or a folder as after
abbrev Among3 : Option Value → Option Value → Option Value → Type 0
Among3 was will now = (now ≡ was) ⊎ (now ≡ will) ⊎ ((is_folder now ≡ true) × (is_folder will ≡ true))

-- the value of a folder that was made, in the making or whole
abbrev making_of : Bool → Option Value → Option Value
making_of set source = cond set (option_map (λ (x : Value). folder x.mode) source) (made_for source)

made_folder : (set : Bool) (source : Option Value) → is_folder source ≡ true → is_folder (making_of set source) ≡ true
made_folder true (Some x) h = refl
made_folder false (Some x) h = refl
made_folder set None h = absurd (false≢true h)

not_whole : (source : Option Value) → is_folder source ≡ true → is_whole source ≡ false
not_whole None h = refl
not_whole (Some x) h = rw h refl

not_special : (source : Option Value) → is_folder source ≡ true → is_special source ≡ false
not_special None h = refl
not_special (Some x) h = go x.kind h
  where
    go : (k : Kind) → folder_kind k ≡ true → (let b : Bool = elim k [ File ↦ false | Folder ↦ false | Link ↦ false | Other ↦ true ] in b) ≡ false
    go File h = absurd (false≢true h)
    go Folder h = refl
    go Link h = absurd (false≢true h)
    go Other h = absurd (false≢true h)

abbrev copied_by : Bool → Bool → Bool → Option Value → Option Value → Option Value
copied_by placed made set source target = cond placed source (cond made (making_of set source) target)

module _ (source target : Option Value) where
  -- what is copied lies between
  copy_between : (placed made set : Bool) → (placed ≡ true → is_whole source ≡ true) → (made ≡ true → (is_folder source && is_none target) ≡ true)
      → Among3 target (copied_by (is_whole source) (is_folder source && is_none target) (is_folder source && is_none target) source target) (copied_by placed made set source target)
  copy_between true made set p m = inr (inl (rw (p refl) refl))
  copy_between false true set p m =
      let h = m refl in
      let f = (and_parts (is_folder source) (is_none target) h).0 in
      let n = not_whole source f in
      inr (inr (made_folder set source f, rw (n, h) (made_folder true source f)))
  copy_between false false set p m = inl refl

plain_between : (plain : Plain) (v : View) (p : Route) (at is b : Bool) → (b ≡ true → (is && at) ≡ true) → is ≡ true
    → Among3 (v p).value (cond (at && (is && at)) (holding (plain.new (v p).value) (v p)) (v p)).value (cond (at && b) (holding (plain.new (v p).value) (v p)) (v p)).value
plain_between plain v p true true true h e = inr (inl refl)
plain_between plain v p true true false h e = inl refl
plain_between plain v p false is b h e = inl refl
plain_between plain v p true false b h e = absurd (false≢true e)

same_part : (part : Part) → is_part part part ≡ true
same_part Make = refl
same_part Place = refl
same_part Set = refl
same_part Remove = refl

-- what is carried by some parts is carried by more
more_carried : (v : View) (d e : Decisions) (pair : Pair) (rest : Route) → ((p : Route) → d Place p ≡ true → e Place p ≡ true)
    → is_carried v d pair rest ≡ true → is_carried v e pair rest ≡ true
more_carried v d e pair [] more h =
    let t = and_parts (d Place pair.target) (one_mount v pair.source pair.target) h in
    and_from (e Place pair.target) (one_mount v pair.source pair.target) (more pair.target t.0) t.1
more_carried v d e pair (name ∷ rest) more h =
    elim (or_cases (d Place (name ∷ rest ++ pair.target) && one_mount v (name ∷ rest ++ pair.source) (name ∷ rest ++ pair.target)) (is_carried v d pair rest) h) [
      | inl here ↦
          let t = and_parts (d Place (name ∷ rest ++ pair.target)) (one_mount v (name ∷ rest ++ pair.source) (name ∷ rest ++ pair.target)) here in
          or_left _ (is_carried v e pair rest) (and_from (e Place (name ∷ rest ++ pair.target)) _ (more (name ∷ rest ++ pair.target) t.0) t.1)
      | inr there ↦ or_right _ (is_carried v e pair rest) (more_carried v d e pair rest more there)
    ]

-- what is moved lies between
moved_between : (source target : Option Value) (one carried' carried placed made set : Bool) → (carried ≡ true → carried' ≡ true)
    → (placed ≡ true → move_parts one source target Place ≡ true) → (made ≡ true → move_parts one source target Make ≡ true)
    → (set ≡ true → move_parts one source target Set ≡ true)
    → Among3 target (cond carried' source (copied_by (move_parts one source target Place) (move_parts one source target Make) (move_parts one source target Set) source target))
    (cond carried source (copied_by placed made set source target))
moved_between source target one true true placed made set c p m s = inr (inl refl)
moved_between source target one false true placed made set c p m s = absurd (false≢true (c refl))
moved_between source target one true false true made set c p m s = inr (inl refl)
moved_between source target one false false true made set c p m s = inr (inl (rw (p refl) refl))
moved_between source target one carried' false false true set c p m s =
    let h = m refl in
    let f = (and_parts (is_folder source) (is_none target && not one) h).0 in
    let g = (and_parts (is_folder source) (is_none target && not one) h).1 in
    inr (inr (made_folder set source f, later carried' f (not_placed f g)))
  where
    not_one : (b : Bool) → (is_none target && not b) ≡ true → b ≡ false
    not_one true g = absurd (false≢true ((and_parts (is_none target) false g).1))
    not_one false g = refl

    not_placed : is_folder source ≡ true → (is_none target && not one) ≡ true → move_parts one source target Place ≡ false
    not_placed f g = let w = not_whole source f in let o = not_one one g in rw (w, o) refl

    later : (carried' : Bool) → is_folder source ≡ true → move_parts one source target Place ≡ false
        → is_folder (cond carried' source (copied_by (move_parts one source target Place) (move_parts one source target Make) (move_parts one source target Set) source target)) ≡ true
    later true f n = f
    later false f n = let h = m refl in rw (n, h) (made_folder true source f)
moved_between source target one carried' false false false set c p m s = inl refl

left_between : (x : Spot) (carried' carried removed : Bool) → (carried ≡ true → carried' ≡ true)
    → Among3 x.value (cond carried' nothing (cond true (holding None x) x)).value (cond carried nothing (cond removed (holding None x) x)).value
left_between x true true removed c = inr (inl refl)
left_between x false true removed c = inr (inl refl)
left_between x true false true c = inr (inl refl)
left_between x false false true c = inr (inl refl)
left_between x carried' false false c = inl refl

between_from : (was will will' now now' : Option Value) → will ≡ will' → now ≡ now' → Among3 was will' now' → Among3 was will now
between_from was will will' now now' e f h = subst (λ (x : Option Value). Among3 was x now) (sym e) (subst (λ (x : Option Value). Among3 was will' x) (sym f) h)

module _ (v : View) (d : Decisions) where
  copy_at : (pairs : List Pair) (p : Route) → IsPlanned v (Copy pairs) d → (o : Option Route) → source_of pairs p ≡ o → IsBetween v (Copy pairs) p (outcome v (Copy pairs) d p).value
  copy_at pairs p plan None is = inl (rw is refl)
  copy_at pairs p plan (Some s) is =
      let place_is : (d Place p ≡ true → is_whole (v s).value ≡ true) = λ h. sym (let e : planned_decisions v (Copy pairs) Place p ≡ is_whole (v s).value = rw is refl in e) ∙ plan Place p h in
      let make_is : (d Make p ≡ true → (is_folder (v s).value && is_none (v p).value) ≡ true) =
      λ h. sym (let e : planned_decisions v (Copy pairs) Make p ≡ (is_folder (v s).value && is_none (v p).value) = rw is refl in e) ∙ plan Make p h in
      let now_is : (outcome v (Copy pairs) d p).value ≡ copied_by (d Place p) (d Make p) (d Set p) (v s).value (v p).value = rw is refl in
      let will_is : (outcome v (Copy pairs) (planned_decisions v (Copy pairs)) p).value
      ≡ copied_by (is_whole (v s).value) (is_folder (v s).value && is_none (v p).value) (is_folder (v s).value && is_none (v p).value) (v s).value (v p).value = rw is refl in
      between_from (v p).value _ _ _ _ will_is now_is (copy_between (v s).value (v p).value (d Place p) (d Make p) (d Set p) place_is make_is)

  abbrev going : Pair → Route → Route → Decisions → Spot
  going pair rest p e = cond (is_carried v e pair rest) (v (rest ++ pair.source)) (holding (copied_by (e Place p) (e Make p) (e Set p) (v (rest ++ pair.source)).value (v p).value) (v p))

  -- the value of the spot that is chosen
  chosen : (c : Bool) (x y : Spot) (o : Option Value) → (cond c x (holding o y)).value ≡ cond c x.value o
  chosen true x y o = refl
  chosen false x y o = refl

  move_at : (pairs : List Pair) (p : Route) → IsPlanned v (Move pairs) d → (o : Spotted) → place pairs p ≡ o → IsBetween v (Move pairs) p (outcome v (Move pairs) d p).value
  move_at pairs p plan (AtTarget pair rest) is =
      let from : (part : Part) → d part p ≡ true → move_parts (one_mount v (rest ++ pair.source) p) (v (rest ++ pair.source)).value (v p).value part ≡ true =
      λ part h. sym (let e : planned_decisions v (Move pairs) part p ≡ move_parts (one_mount v (rest ++ pair.source) p) (v (rest ++ pair.source)).value (v p).value part = rw is refl in e) ∙ plan part p h in
      let will_part : (part : Part) → planned_decisions v (Move pairs) part p ≡ move_parts (one_mount v (rest ++ pair.source) p) (v (rest ++ pair.source)).value (v p).value part = λ part. rw is refl in
      let c : is_carried v d pair rest ≡ true → is_carried v (planned_decisions v (Move pairs)) pair rest ≡ true = more_carried v d (planned_decisions v (Move pairs)) pair rest (λ q. plan Place q) in
      let now_is : outcome v (Move pairs) d p ≡ going pair rest p d = ap (moved_spot v d p) is in
      let will_is : outcome v (Move pairs) (planned_decisions v (Move pairs)) p ≡ going pair rest p (planned_decisions v (Move pairs)) = ap (moved_spot v (planned_decisions v (Move pairs)) p) is in
      let now_value = ap (λ (x : Spot). x.value) now_is ∙ chosen (is_carried v d pair rest) (v (rest ++ pair.source)) (v p) (copied_by (d Place p) (d Make p) (d Set p) (v (rest ++ pair.source)).value (v p).value) in
      let will_value = ap (λ (x : Spot). x.value) will_is
      ∙ chosen (is_carried v (planned_decisions v (Move pairs)) pair rest) (v (rest ++ pair.source)) (v p)
      (copied_by (planned_decisions v (Move pairs) Place p) (planned_decisions v (Move pairs) Make p) (planned_decisions v (Move pairs) Set p) (v (rest ++ pair.source)).value (v p).value) in
      let parts_are : copied_by (planned_decisions v (Move pairs) Place p) (planned_decisions v (Move pairs) Make p) (planned_decisions v (Move pairs) Set p) (v (rest ++ pair.source)).value (v p).value
      ≡ copied_by (move_parts (one_mount v (rest ++ pair.source) p) (v (rest ++ pair.source)).value (v p).value Place)
      (move_parts (one_mount v (rest ++ pair.source) p) (v (rest ++ pair.source)).value (v p).value Make)
      (move_parts (one_mount v (rest ++ pair.source) p) (v (rest ++ pair.source)).value (v p).value Set) (v (rest ++ pair.source)).value (v p).value =
      ap (λ (b : Bool). copied_by b (planned_decisions v (Move pairs) Make p) (planned_decisions v (Move pairs) Set p) (v (rest ++ pair.source)).value (v p).value) (will_part Place)
      ∙ (ap (λ (b : Bool). copied_by (move_parts (one_mount v (rest ++ pair.source) p) (v (rest ++ pair.source)).value (v p).value Place) b (planned_decisions v (Move pairs) Set p) (v (rest ++ pair.source)).value (v p).value) (will_part Make)
      ∙ ap (λ (b : Bool). copied_by (move_parts (one_mount v (rest ++ pair.source) p) (v (rest ++ pair.source)).value (v p).value Place) (move_parts (one_mount v (rest ++ pair.source) p) (v (rest ++ pair.source)).value (v p).value Make) b (v (rest ++ pair.source)).value (v p).value) (will_part Set)) in
      between_from (v p).value _ _ _ _
      (will_value ∙ ap (λ (o : Option Value). cond (is_carried v (planned_decisions v (Move pairs)) pair rest) (v (rest ++ pair.source)).value o) parts_are) now_value
      (moved_between (v (rest ++ pair.source)).value (v p).value (one_mount v (rest ++ pair.source) p) (is_carried v (planned_decisions v (Move pairs)) pair rest) (is_carried v d pair rest)
      (d Place p) (d Make p) (d Set p) c (from Place) (from Make) (from Set))
  move_at pairs p plan (AtSource pair rest) is =
      let c : is_carried v d pair rest ≡ true → is_carried v (planned_decisions v (Move pairs)) pair rest ≡ true = more_carried v d (planned_decisions v (Move pairs)) pair rest (λ q. plan Place q) in
      let removes : planned_decisions v (Move pairs) Remove p ≡ true = rw is refl in
      let now_is = ap (λ (x : Spot). x.value) (ap (moved_spot v d p) is) in
      let will_is = ap (λ (x : Spot). x.value) (ap (moved_spot v (planned_decisions v (Move pairs)) p) is ∙ ap (λ (b : Bool). cond (is_carried v (planned_decisions v (Move pairs)) pair rest) nothing (cond b (holding None (v p)) (v p))) removes) in
      between_from (v p).value _ _ _ _ will_is now_is (left_between (v p) (is_carried v (planned_decisions v (Move pairs)) pair rest) (is_carried v d pair rest) (d Remove p) c)
  move_at pairs p plan Elsewhere is = inl (rw is refl)

  plain_at : (plain : Plain) (p : Route) → (d plain.part p ≡ true → plain_parts plain plain.part p ≡ true)
      → Among3 (v p).value (plain_left plain v (plain_parts plain) p).value (plain_left plain v d p).value
  plain_at plain p h = plain_between plain v p (plain.is_at p) (is_part plain.part plain.part) (d plain.part p) h (same_part plain.part)

pub between_law : BetweenLaw
between_law v (Copy pairs) d plan p = copy_at v d pairs p plan (source_of pairs p) refl
between_law v (Move pairs) d plan p = move_at v d pairs p plan (place pairs p) refl
between_law v (Delete paths) d plan p = plain_at v d (deleting paths) p (plan Remove p)
between_law v (MakeFolder path) d plan p = plain_at v d (making path) p (plan Make p)
between_law v (SetMode paths mode) d plan p = plain_at v d (setting paths mode) p (plan Set p)
between_law v (MakeLink path text) d plan p = plain_at v d (linking path text) p (plan Place p)
between_law v (Save path bytes) d plan p = plain_at v d (saving path bytes) p (plan Place p)

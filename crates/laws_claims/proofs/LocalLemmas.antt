-- Works keep to the claims of their job, and so commute with those of jobs whose claims don't clash.
use Rattle.std.proofs.Common.{◌≡◌, ℕ, Bool, true, false, List, [], ◌∷◌, ◌++◌, refl, sym, ◌∙◌, ap, subst, inl, inr, Option, Some, None, cond}
use Rattle.std.specs.Prelude.{◌&&◌}
use Rattle.std.specs.Option.{option_map}
use Rattle.std.proofs.lemmas.Bool.{cases_Bool, both_ways, or_cases, or_left, or_right, and_parts, and_from, false_from_ne_true}
use Rattle.mc_text.specs.Routes.{Route, same_path, is_prefix}
use Rattle.tree_trait.specs.FileSystem.{Spot, View}
use Rattle.tree_trait.specs.Refusals.{holder}
use Rattle.job_reports.specs.declared.job.Pair.{Pair}
use Rattle.op_plan.specs.Meeting.{meet}
use Rattle.job_claims.specs.Claiming.{claim, all_written, of_pairs, claims, clashes}
use Rattle.laws_claims.specs.Ways.{below}
use Rattle.laws_claims.specs.Views.{nothing, holding, Change, Nothing, Puts, Carries, carry, apply, mount_of, one_mount}
use Rattle.laws_claims.specs.Near.{is_written, is_near}
use mathlib.Core.Path.{fun_ext}
use Rattle.job_claims.specs.declared.claim.Claim.{Claim}
use Rattle.op_plan.specs.declared.job.Job.{Job}
use Rattle.op_plan.specs.declared.job.Job.TheVariants.{Copy, Move, Delete, MakeFolder, SetMode, MakeLink, Save}
use Rattle.laws_claims.specs.Works.{Part, Make, Place, Set, Remove, Work, Did, is_part, made_for, with_mode, mode_or, covers, is_one_of, source_of, from_source, sources, copies, moves, Plain, deleting, making, setting, linking, saving, plainly, change}
use Rattle.laws_claims.specs.Local.{Agree, WorkLaw, OrderLaw}
use Rattle.op_plan.proofs.Paths.{same-true}
use Rattle.laws_claims.proofs.PathLemmas.{under-from, under-below, under-self, under-trans, meet_above}
use Rattle.laws_claims.proofs.ClaimLemmas.{apart-theirs, apart-mine, near-written, written-below}

-- a change of what the claims write
abbrev pub Within : List Claim → Change → Type 0
Within cs Nothing = Unit {0}
Within cs (Puts p new) = is_written cs p ≡ true
Within cs (Carries from to) = (is_written cs from ≡ true) × (is_written cs to ≡ true)

put_other : (b : Bool) (x y : Spot) → (b ≡ true → ⊥) → cond b x y ≡ y
put_other true x y h = absurd (h refl)
put_other false x y h = refl

carry_other : (v : View) (from to p : Route) (o : Option Route) → below to p ≡ o → is_prefix to p ≡ false → is_prefix from p ≡ false → carry v from to p ≡ v p
carry_other v from to p None is a b = rw (is, b) refl
carry_other v from to p (Some rest) is a b = absurd (both_ways (is_prefix to p) a (under-below to p rest is))

not_under : (cs : List Claim) (p q : Route) → is_written cs p ≡ true → is_written cs q ≡ false → is_prefix p q ≡ false
not_under cs p q w out = false_from_ne_true (is_prefix p q) (λ h. both_ways (is_written cs q) out (written-below cs p q w h))

apply-frame : (cs : List Claim) (c : Change) → Within cs c → (v : View) (q : Route) → is_written cs q ≡ false → apply c v q ≡ v q
apply-frame cs Nothing within v q out = refl
apply-frame cs (Puts p new) within v q out =
    put_other (same_path q p) (holding new (v q)) (v q) (λ h. both_ways (is_written cs q) out (subst (λ r. is_written cs r ≡ true) (sym (same-true q p h)) within))
apply-frame cs (Carries from to) within v q out =
    carry_other v from to q (below to q) refl (not_under cs to q within.1 out) (not_under cs from q within.0 out)

carry_like : (cs : List Claim) (v w : View) (from to p : Route) (o : Option Route) → below to p ≡ o → is_written cs from ≡ true → Agree cs v w → is_near cs p ≡ true
    → carry v from to p ≡ carry w from to p
carry_like cs v w from to p None is h agree near = rw is (ap (λ (x : Spot). cond (is_prefix from p) nothing x) (agree p near))
carry_like cs v w from to p (Some rest) is h agree near =
    rw is (agree (rest ++ from) (near-written cs (rest ++ from) (written-below cs from (rest ++ from) h (under-from from (rest ++ from) rest refl))))

apply-rests : (cs : List Claim) (c : Change) → Within cs c → (v w : View) → Agree cs v w → Agree cs (apply c v) (apply c w)
apply-rests cs Nothing within v w agree p near = agree p near
apply-rests cs (Puts q new) within v w agree p near = ap (λ (x : Spot). cond (same_path p q) (holding new x) x) (agree p near)
apply-rests cs (Carries from to) within v w agree p near = carry_like cs v w from to p (below to p) refl within.0 agree near

-- what lies above what is near is near
near-above : (cs : List Claim) (p q : Route) → is_near cs p ≡ true → is_prefix q p ≡ true → is_near cs q ≡ true
near-above [] p q near above = near
near-above (x ∷ cs) p q near above =
    elim (or_cases (meet x.path p) (is_near cs p) near) [
      | inl here ↦ or_left (meet x.path q) (is_near cs q) (elim (or_cases (is_prefix x.path p) (is_prefix p x.path) here) [
        | inl under ↦ meet_above x.path q p under above
        | inr over ↦ or_right (is_prefix x.path q) (is_prefix q x.path) (under-trans q p x.path above over)
      ])
      | inr there ↦ or_right (meet x.path q) (is_near cs q) (near-above cs p q there above)
    ]

above_name : (name : List ℕ) (folder : Route) → is_prefix folder (name ∷ folder) ≡ true
above_name name folder = under-from folder (name ∷ folder) (name ∷ []) refl

pub above_holder : (p : Route) → is_prefix (holder p) p ≡ true
above_holder [] = refl
above_holder (name ∷ folder) = above_name name folder

pub mount-like : (v w : View) (p : Route) → ((q : Route) → is_prefix q p ≡ true → v q ≡ w q) → mount_of v p ≡ mount_of w p
mount-like v w [] same_path = refl
mount-like v w (name ∷ folder) same_path =
    rw (same_path (name ∷ folder) (under-self (name ∷ folder)), mount-like v w folder (λ q h. same_path q (under-trans q folder (name ∷ folder) h (above_name name folder)))) refl

one_mount-like : (cs : List Claim) (v w : View) (a b : Route) → Agree cs v w → is_near cs a ≡ true → is_near cs b ≡ true → one_mount v a b ≡ one_mount w a b
one_mount-like cs v w a b agree na nb =
    rw (
      mount-like v w (holder a) (λ q h. agree q (near-above cs a q na (under-trans q (holder a) a h (above_holder a)))),
      mount-like v w (holder b) (λ q h. agree q (near-above cs b q nb (under-trans q (holder b) b h (above_holder b)))),
    ) refl

-- what is written by the first claim, or by a later one
first_written : (c : Claim) (cs : List Claim) (p : Route) → c.writes ≡ true → is_prefix c.path p ≡ true → is_written (c ∷ cs) p ≡ true
first_written c cs p w h = or_left (c.writes && is_prefix c.path p) (is_written cs p) (and_from c.writes (is_prefix c.path p) w h)

later_written : (c : Claim) (cs : List Claim) (p : Route) → is_written cs p ≡ true → is_written (c ∷ cs) p ≡ true
later_written c cs p h = or_right (c.writes && is_prefix c.path p) (is_written cs p) h

first_near : (c : Claim) (cs : List Claim) (p : Route) → is_prefix c.path p ≡ true → is_near (c ∷ cs) p ≡ true
first_near c cs p h = or_left (meet c.path p) (is_near cs p) (or_left (is_prefix c.path p) (is_prefix p c.path) h)

later_near : (c : Claim) (cs : List Claim) (p : Route) → is_near cs p ≡ true → is_near (c ∷ cs) p ≡ true
later_near c cs p h = or_right (meet c.path p) (is_near cs p) h

some_same : {A : Type 0} (x y : A) → (let o : Option A = Some x in o) ≡ Some y → x ≡ y
some_same x y h = cc

module _ (moves : Bool) where
  -- a target is written
  mutual_target : (pair : Pair) (pairs : List Pair) (p s : Route) (o : Option Route) → below pair.target p ≡ o
      → (source_of pairs p ≡ Some s → is_written (of_pairs moves pairs) p ≡ true)
      → source_of (pair ∷ pairs) p ≡ Some s → is_written (of_pairs moves (pair ∷ pairs)) p ≡ true
  mutual_target pair pairs p s None is next h =
      later_written (claim moves pair.source) (claim true pair.target ∷ of_pairs moves pairs) p
      (later_written (claim true pair.target) (of_pairs moves pairs) p (next (rw is at h)))
  mutual_target pair pairs p s (Some rest) is next h =
      later_written (claim moves pair.source) (claim true pair.target ∷ of_pairs moves pairs) p
      (first_written (claim true pair.target) (of_pairs moves pairs) p refl (under-below pair.target p rest is))

  pub target-written : (pairs : List Pair) (p s : Route) → source_of pairs p ≡ Some s → is_written (of_pairs moves pairs) p ≡ true
  target-written [] p s h = cc
  target-written (pair ∷ pairs) p s h = mutual_target pair pairs p s (below pair.target p) refl (target-written pairs p s) h

  -- its source lies near
  one_source : (pair : Pair) (pairs : List Pair) (p s : Route) (o : Option Route) → below pair.target p ≡ o
      → (source_of pairs p ≡ Some s → is_near (of_pairs moves pairs) s ≡ true)
      → source_of (pair ∷ pairs) p ≡ Some s → is_near (of_pairs moves (pair ∷ pairs)) s ≡ true
  one_source pair pairs p s None is next h =
      later_near (claim moves pair.source) (claim true pair.target ∷ of_pairs moves pairs) s
      (later_near (claim true pair.target) (of_pairs moves pairs) s (next (rw is at h)))
  one_source pair pairs p s (Some rest) is next h =
      let e : rest ++ pair.source ≡ s = some_same {A = Route} (rest ++ pair.source) s (rw is at h) in
      first_near (claim moves pair.source) (claim true pair.target ∷ of_pairs moves pairs) s (under-from pair.source s rest (sym e))

  pub source-near : (pairs : List Pair) (p s : Route) → source_of pairs p ≡ Some s → is_near (of_pairs moves pairs) s ≡ true
  source-near [] p s h = cc
  source-near (pair ∷ pairs) p s h = one_source pair pairs p s (below pair.target p) refl (source-near pairs p s) h

-- the source of a move is written
moved_source : (pair : Pair) (pairs : List Pair) (p s : Route) (o : Option Route) → below pair.target p ≡ o
    → (source_of pairs p ≡ Some s → is_written (of_pairs true pairs) s ≡ true)
    → source_of (pair ∷ pairs) p ≡ Some s → is_written (of_pairs true (pair ∷ pairs)) s ≡ true
moved_source pair pairs p s None is next h =
    later_written (claim true pair.source) (claim true pair.target ∷ of_pairs true pairs) s
    (later_written (claim true pair.target) (of_pairs true pairs) s (next (rw is at h)))
moved_source pair pairs p s (Some rest) is next h =
    let e : rest ++ pair.source ≡ s = some_same {A = Route} (rest ++ pair.source) s (rw is at h) in
    first_written (claim true pair.source) (claim true pair.target ∷ of_pairs true pairs) s refl (under-from pair.source s rest (sym e))

source-written : (pairs : List Pair) (p s : Route) → source_of pairs p ≡ Some s → is_written (of_pairs true pairs) s ≡ true
source-written [] p s h = cc
source-written (pair ∷ pairs) p s h = moved_source pair pairs p s (below pair.target p) refl (source-written pairs p s) h

sources-written : (pairs : List Pair) (p : Route) → covers (sources pairs) p ≡ true → is_written (of_pairs true pairs) p ≡ true
sources-written [] p h = h
sources-written (pair ∷ pairs) p h =
    elim (or_cases (is_prefix pair.source p) (covers (sources pairs) p) h) [
      | inl here ↦ first_written (claim true pair.source) (claim true pair.target ∷ of_pairs true pairs) p refl here
      | inr there ↦ later_written (claim true pair.source) (claim true pair.target ∷ of_pairs true pairs) p
          (later_written (claim true pair.target) (of_pairs true pairs) p (sources-written pairs p there))
    ]

covers-written : (paths : List Route) (p : Route) → covers paths p ≡ true → is_written (all_written paths) p ≡ true
covers-written [] p h = h
covers-written (path ∷ paths) p h =
    elim (or_cases (is_prefix path p) (covers paths p) h) [
      | inl here ↦ first_written (claim true path) (all_written paths) p refl here
      | inr there ↦ later_written (claim true path) (all_written paths) p (covers-written paths p there)
    ]

one-covers : (paths : List Route) (p : Route) → is_one_of paths p ≡ true → covers paths p ≡ true
one-covers [] p h = h
one-covers (path ∷ paths) p h =
    elim (or_cases (same_path p path) (is_one_of paths p) h) [
      | inl here ↦ or_left (is_prefix path p) (covers paths p) (subst (λ q. is_prefix path q ≡ true) (sym (same-true p path here)) (under-self path))
      | inr there ↦ or_right (is_prefix path p) (covers paths p) (one-covers paths p there)
    ]

same-written : (path p : Route) → same_path p path ≡ true → is_written (claim true path ∷ []) p ≡ true
same-written path p h = first_written (claim true path) [] p refl (subst (λ q. is_prefix path q ≡ true) (sym (same-true p path h)) (under-self path))

-- a change that is made if a test says so
within_if : (cs : List Claim) (b : Bool) (c : Change) → (b ≡ true → Within cs c) → Within cs (cond b c Nothing)
within_if cs true c h = h refl
within_if cs false c h = tt

within_source : (cs : List Claim) (pairs : List Pair) (p : Route) (f : Route → Change) (o : Option Route) → source_of pairs p ≡ o
    → ((s : Route) → source_of pairs p ≡ Some s → Within cs (f s)) → Within cs (from_source pairs p f)
within_source cs pairs p f None is h = subst (λ c. Within cs c) (sym (let e : from_source pairs p f ≡ Nothing = rw is refl in e)) tt
within_source cs pairs p f (Some s) is h = subst (λ c. Within cs c) (sym (let e : from_source pairs p f ≡ f s = rw is refl in e)) (h s is)

within_either : (cs : List Claim) (b : Bool) (c d : Change) → Within cs c → Within cs d → Within cs (cond b c d)
within_either cs true c d h k = h
within_either cs false c d h k = k

within_copies : (cs : List Claim) (v : View) (part : Part) (p s : Route) → is_written cs p ≡ true → Within cs (copies v part p s)
within_copies cs v Make p s h = h
within_copies cs v Place p s h = h
within_copies cs v Set p s h = h
within_copies cs v Remove p s h = tt

within_moves : (pairs : List Pair) (v : View) (part : Part) (p : Route) → Within (of_pairs true pairs) (moves pairs v part p)
within_moves pairs v Make p = within_source (of_pairs true pairs) pairs p (copies v Make p) _ refl (λ s h. target-written true pairs p s h)
within_moves pairs v Place p =
    within_source (of_pairs true pairs) pairs p (λ source. cond (one_mount v source p) (Carries source p) (Puts p (v source).value)) _ refl (λ s h.
    within_either (of_pairs true pairs) (one_mount v s p) (Carries s p) (Puts p (v s).value) (source-written pairs p s h, target-written true pairs p s h) (target-written true pairs p s h))
within_moves pairs v Set p = within_source (of_pairs true pairs) pairs p (copies v Set p) _ refl (λ s h. target-written true pairs p s h)
within_moves pairs v Remove p = within_if (of_pairs true pairs) (covers (sources pairs) p) (Puts p None) (sources-written pairs p)

-- what a job without sources changes lies at its paths
within_plain : (cs : List Claim) (plain : Plain) (v : View) (part : Part) (p : Route) → (plain.is_at p ≡ true → is_written cs p ≡ true) → Within cs (plainly plain v part p)
within_plain cs plain v part p h =
    within_if cs (is_part part plain.part && plain.is_at p) (Puts p (plain.new (v p).value)) (λ t. h (and_parts (is_part part plain.part) (plain.is_at p) t).1)

pub change-within : (job : Job) (v : View) (work : Work) → Within (claims job) (change job v work)
change-within (Copy pairs) v (Did part p) =
    within_source (of_pairs false pairs) pairs p (copies v part p) _ refl (λ s h. within_copies (of_pairs false pairs) v part p s (target-written false pairs p s h))
change-within (Move pairs) v (Did part p) = within_moves pairs v part p
change-within (Delete paths) v (Did part p) = within_plain (all_written paths) (deleting paths) v part p (covers-written paths p)
change-within (MakeFolder path) v (Did part p) = within_plain (claim true path ∷ []) (making path) v part p (same-written path p)
change-within (SetMode paths mode) v (Did part p) = within_plain (all_written paths) (setting paths mode) v part p (λ h. covers-written paths p (one-covers paths p h))
change-within (MakeLink path text) v (Did part p) = within_plain (claim true path ∷ []) (linking path text) v part p (same-written path p)
change-within (Save path bytes) v (Did part p) = within_plain (claim true path ∷ []) (saving path bytes) v part p (same-written path p)

-- Two views that agree near the claims give one change.
pub like_source : (pairs : List Pair) (p : Route) (f g : Route → Change) (o : Option Route) → source_of pairs p ≡ o
    → ((s : Route) → source_of pairs p ≡ Some s → f s ≡ g s) → from_source pairs p f ≡ from_source pairs p g
like_source pairs p f g None is h = rw is refl
like_source pairs p f g (Some s) is h = rw is (h s is)

like_if : (b : Bool) (c d : Change) → (b ≡ true → c ≡ d) → cond b c Nothing ≡ cond b d Nothing
like_if true c d h = h refl
like_if false c d h = refl

module _ (cs : List Claim) (v w : View) (agree : Agree cs v w) where
  like_copies : (part : Part) (p s : Route) → is_near cs s ≡ true → is_near cs p ≡ true → copies v part p s ≡ copies w part p s
  like_copies Make p s h k = ap (λ (x : Spot). let c : Change = Puts p (made_for x.value) in c) (agree s h)
  like_copies Place p s h k = ap (λ (x : Spot). let c : Change = Puts p x.value in c) (agree s h)
  like_copies Set p s h k =
      ap (λ (x : Spot). let c : Change = Puts p (option_map (with_mode (mode_or x.value 0)) (v p).value) in c) (agree s h)
      ∙ ap (λ (x : Spot). let c : Change = Puts p (option_map (with_mode (mode_or (w s).value 0)) x.value) in c) (agree p k)
  like_copies Remove p s h k = refl

  like_place : (s p : Route) → is_near cs s ≡ true → is_near cs p ≡ true
      → cond (one_mount v s p) (Carries s p) (Puts p (v s).value) ≡ cond (one_mount w s p) (Carries s p) (Puts p (w s).value)
  like_place s p ns np = rw (one_mount-like cs v w s p agree ns np, agree s ns) refl

  like_plain : (plain : Plain) (part : Part) (p : Route) → (plain.is_at p ≡ true → is_written cs p ≡ true) → plainly plain v part p ≡ plainly plain w part p
  like_plain plain part p h =
      like_if (is_part part plain.part && plain.is_at p) (Puts p (plain.new (v p).value)) (Puts p (plain.new (w p).value))
      (λ t. ap (λ (x : Spot). let c : Change = Puts p (plain.new x.value) in c) (agree p (near-written cs p (h (and_parts (is_part part plain.part) (plain.is_at p) t).1))))

like_from : (moving : Bool) (pairs : List Pair) (v w : View) → Agree (of_pairs moving pairs) v w → (part : Part) (p : Route)
    → from_source pairs p (copies v part p) ≡ from_source pairs p (copies w part p)
like_from moving pairs v w agree part p =
    like_source pairs p (copies v part p) (copies w part p) _ refl (λ s h.
    like_copies (of_pairs moving pairs) v w agree part p s (source-near moving pairs p s h) (near-written (of_pairs moving pairs) p (target-written moving pairs p s h)))

like_moves : (pairs : List Pair) (v w : View) → Agree (of_pairs true pairs) v w → (part : Part) (p : Route) → moves pairs v part p ≡ moves pairs w part p
like_moves pairs v w agree Make p = like_from true pairs v w agree Make p
like_moves pairs v w agree Place p =
    like_source pairs p _ _ _ refl (λ s h. like_place (of_pairs true pairs) v w agree s p (source-near true pairs p s h) (near-written (of_pairs true pairs) p (target-written true pairs p s h)))
like_moves pairs v w agree Set p = like_from true pairs v w agree Set p
like_moves pairs v w agree Remove p = refl

pub change-like : (job : Job) (work : Work) (v w : View) → Agree (claims job) v w → change job v work ≡ change job w work
change-like (Copy pairs) (Did part p) v w agree = like_from false pairs v w agree part p
change-like (Move pairs) (Did part p) v w agree = like_moves pairs v w agree part p
change-like (Delete paths) (Did part p) v w agree = like_plain (all_written paths) v w agree (deleting paths) part p (covers-written paths p)
change-like (MakeFolder path) (Did part p) v w agree = like_plain (claim true path ∷ []) v w agree (making path) part p (same-written path p)
change-like (SetMode paths mode) (Did part p) v w agree = like_plain (all_written paths) v w agree (setting paths mode) part p (λ h. covers-written paths p (one-covers paths p h))
change-like (MakeLink path text) (Did part p) v w agree = like_plain (claim true path ∷ []) v w agree (linking path text) part p (same-written path p)
change-like (Save path bytes) (Did part p) v w agree = like_plain (claim true path ∷ []) v w agree (saving path bytes) part p (same-written path p)

pub work_law : WorkLaw
work_law job work = record {
  frame = λ v p out. apply-frame (claims job) (change job v work) (change-within job v work) v p out;
  rests = λ v w agree p near.
      apply-rests (claims job) (change job v work) (change-within job v work) v w agree p near
      ∙ ap (λ (c : Change). apply c w p) (change-like job work v w agree);
}

-- what is written by the one is far from the other
module _ (mine theirs : List Claim) (apart : clashes mine theirs ≡ false) where
  pub not_theirs : (p : Route) → is_near mine p ≡ true → is_written theirs p ≡ false
  not_theirs p near = false_from_ne_true (is_written theirs p) (λ h. both_ways (is_near mine p) (apart-theirs mine theirs p apart h) near)

  pub not_mine : (p : Route) → is_near theirs p ≡ true → is_written mine p ≡ false
  not_mine p near = false_from_ne_true (is_written mine p) (λ h. both_ways (is_near theirs p) (apart-mine mine theirs p apart h) near)

pub order_law : OrderLaw
order_law mine theirs f g apart keeps_f keeps_g v = fun_ext (λ p. elim (cases_Bool (is_written mine p)) [
  | inl w ↦
      keeps_f.rests (g v) v (λ q near. keeps_g.frame v q (not_theirs mine theirs apart q near)) p (near-written mine p w)
      ∙ sym (keeps_g.frame (f v) p (not_theirs mine theirs apart p (near-written mine p w)))
  | inr out ↦ elim (cases_Bool (is_written theirs p)) [
    | inl w ↦
        keeps_f.frame (g v) p out
        ∙ sym (keeps_g.rests (f v) v (λ q near. keeps_f.frame v q (not_mine mine theirs apart q near)) p (near-written theirs p w))
    | inr nor ↦
        keeps_f.frame (g v) p out ∙ (keeps_g.frame v p nor ∙ (sym (keeps_f.frame v p out) ∙ sym (keeps_g.frame (f v) p nor)))
  ]
])

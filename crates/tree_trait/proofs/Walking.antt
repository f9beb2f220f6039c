-- What a walk that isn't refused comes to.
use Rattle.std.proofs.Common.{◌≡◌, ℕ, Bool, true, false, not, List, [], ◌∷◌, refl, sym, ◌∙◌, ap, subst, inl, inr, ◌⊎◌, Option, Some, None, Result, Ok, Err, cond}
use Rattle.std.specs.Prelude.{option_and_then, is_none, unwrap_or, length}
use Rattle.std.proofs.lemmas.Bool.{true≢false, false≢true}
use Rattle.tree_trait.specs.declared.file_system.FileSystem.{FileSystem}
use Rattle.tree_trait.specs.declared.calls.TreeError.{TreeError}
use Rattle.tree_trait.specs.declared.calls.TreeError.TheVariants.{Missing, NotFolder, Denied, IsFolder}
use Rattle.tree_trait.specs.Calls.{Stat, ListFolder, RemoveFile}
use Rattle.mc_text.specs.Routes.{Route}
use Rattle.tree_trait.specs.FileSystem.{lookup, find, node}
use Rattle.tree_trait.specs.Refusals.{is_folder, lacks, step, and_then, reached_node, Place, last_step, walk, first_of, thing, folder_of, missing, a_folder, no_folder, denied_access, refusal_of}
use Rattle.tree_trait.specs.Shape.{IsTree, IsRemovable}

pub cond_some : {A : Type 0} (b : Bool) (x y : Option A) → cond b x y ≡ None → ((b ≡ true) × (x ≡ None)) ⊎ ((b ≡ false) × (y ≡ None))
cond_some true x y h = inl (refl, h)
cond_some false x y h = inr (refl, h)

-- the first check doesn't stand where none does
pub check_passes : {A : Type 0} (b : Bool) (e : A) (rest : Option A) → cond b (Some e) rest ≡ None → (b ≡ false) × (rest ≡ None)
check_passes true e rest h = cc
check_passes false e rest h = (refl, h)

pub check_passed : {A : Type 0} (b : Bool) (e : TreeError) (rest : Result A TreeError) (x : A) → cond b (Err e) rest ≡ Ok x → (b ≡ false) × (rest ≡ Ok x)
check_passed true e rest x h = cc
check_passed false e rest x h = (refl, h)

found_in : (o : Option ℕ) (x : ℕ) → (let r : Result ℕ TreeError = elim o [ None ↦ Err Missing | Some i ↦ Ok i ] in r) ≡ Ok x → o ≡ Some x
found_in None x h = cc
found_in (Some i) x h = cc

pub and_then-ok : {A B : Type 0} (next : A → Result B TreeError) (r : Result A TreeError) (x : B) → and_then next r ≡ Ok x → (g : A) × (r ≡ Ok g) × (next g ≡ Ok x)
and_then-ok next (Ok g) x h = (g, refl, h)
and_then-ok next (Err e) x h = cc

-- a step that is taken leads where the name leads
pub step-lookup : (s : FileSystem) (name : List ℕ) (f x : ℕ) → step s name f ≡ Ok x → lookup s.names f name ≡ Some x
step-lookup s name f x h =
    found_in (lookup s.names f name) x (check_passed (lacks 0o100 (node s f)) Denied _ x (check_passed (not (is_folder (node s f))) NotFolder _ x h).1).1

-- a walk reaches the node that the path leads to
pub reached-find : (s : FileSystem) (path : Route) (x : ℕ) → reached_node s path ≡ Ok x → find s path ≡ Some x
reached-find s [] x h = cc
reached-find s (name ∷ folder) x h =
    let p = and_then-ok (step s name) (reached_node s folder) x h in
    ap (option_and_then (λ f. lookup s.names f name)) (reached-find s folder p.0 p.1) ∙ step-lookup s name p.0 x p.2

pub passed_walk : (r : Result Place TreeError) (checks : Place → Option TreeError) → (let o : Option TreeError = elim r [ Err e ↦ Some e | Ok place ↦ checks place ] in o) ≡ None → (p : Place) × (r ≡ Ok p) × (checks p ≡ None)
passed_walk (Ok p) checks h = (p, refl, h)
passed_walk (Err e) checks h = cc

pub ok_same : {A : Type 0} {x y : A} → (let r : Result A TreeError = Ok x in r) ≡ Ok y → y ≡ x
ok_same h = cc

pub some_there : (o : Option ℕ) → is_none o ≡ false → (i : ℕ) × (o ≡ Some i)
some_there None h = absurd (true≢false h)
some_there (Some i) h = (i, refl)

-- where nothing forbids `remove_file`, there is such a thing
pub removable : (s : FileSystem) (path : Route) → IsTree s → refusal_of s (RemoveFile path) ≡ None → IsRemovable s path
removable s [] tree h =
    let a = check_passes (is_folder (node s 0)) IsFolder _ h in
    absurd (false≢true (sym a.0 ∙ tree.root))
removable s (name ∷ up) tree h =
    let w = passed_walk (walk s (name ∷ up)) (λ p. first_of (missing p ∷ a_folder s p ∷ denied_access 0o200 (folder_of s p) ∷ [])) h in
    let r = and_then-ok (last_step s name) (reached_node s up) w.0 w.1 in
    let q = ok_same ((check_passed (lacks 0o100 (node s r.0)) Denied _ w.0 (check_passed (not (is_folder (node s r.0))) NotFolder _ w.0 r.2).1).1) in
    let checks = subst (λ p. first_of (missing p ∷ a_folder s p ∷ denied_access 0o200 (folder_of s p) ∷ []) ≡ None) q w.2 in
    let a = check_passes (is_none (lookup s.names r.0 name)) Missing _ checks in
    let there = some_there (lookup s.names r.0 name) a.0 in
    let b = check_passes (is_folder (node s (unwrap_or (lookup s.names r.0 name) (length s.nodes)))) IsFolder _ a.1 in
    record {
      up = up;
      name = name;
      f = r.0;
      i = there.0;
      path_is = refl;
      folder = reached-find s up r.0 r.1;
      leads = there.1;
      no_folder = subst (λ o. is_folder (node s (unwrap_or o (length s.nodes))) ≡ false) there.1 b.0;
    }

-- a walk ends at what the path leads to
pub walk-find : (s : FileSystem) (path : Route) (place : Place) → walk s path ≡ Ok place → find s path ≡ place.there
walk-find s [] place h = ap (λ (p : Place). p.there) (sym (ok_same h))
walk-find s (name ∷ up) place h =
    let r = and_then-ok (last_step s name) (reached_node s up) place h in
    let q = ok_same ((check_passed (lacks 0o100 (node s r.0)) Denied _ place (check_passed (not (is_folder (node s r.0))) NotFolder _ place r.2).1).1) in
    ap (option_and_then (λ f. lookup s.names f name)) (reached-find s up r.0 r.1) ∙ ap (λ (p : Place). p.there) (sym q)

found_place : (s : FileSystem) (path : Route) (o : Option ℕ) → find s path ≡ o → is_none o ≡ false → find s path ≡ Some (unwrap_or (find s path) 0)
found_place s path None at h = absurd (true≢false h)
found_place s path (Some i) at h = rw at refl

-- what may be looked at is there
pub stat-found : (s : FileSystem) (path : Route) → refusal_of s (Stat path) ≡ None → find s path ≡ Some (unwrap_or (find s path) 0)
stat-found s path h =
    let w = passed_walk (walk s path) (λ p. first_of (missing p ∷ [])) h in
    found_place s path w.0.there (walk-find s path w.0 w.1) (check_passes (is_none w.0.there) Missing _ w.2).0

-- what may be listed is there
pub list-found : (s : FileSystem) (path : Route) → refusal_of s (ListFolder path) ≡ None → find s path ≡ Some (unwrap_or (find s path) 0)
list-found s path h =
    let w = passed_walk (walk s path) (λ p. first_of (missing p ∷ no_folder s p ∷ denied_access 0o400 (thing s p) ∷ [])) h in
    found_place s path w.0.there (walk-find s path w.0 w.1) (check_passes (is_none w.0.there) Missing _ w.2).0

-- where the walk to a name in a folder ended
pub record IsLast (s : FileSystem) (name : List ℕ) (up : Route) (place : Place) : Type 0 where
  pub folder : find s up ≡ Some (unwrap_or (find s up) 0)
  pub is_one : is_folder (node s (unwrap_or (find s up) 0)) ≡ true
  pub holder : place.holder ≡ Some (unwrap_or (find s up) 0)
  pub there : place.there ≡ lookup s.names (unwrap_or (find s up) 0) name

pub last_place : (s : FileSystem) (name : List ℕ) (up : Route) (place : Place) → walk s (name ∷ up) ≡ Ok place → IsLast s name up place
last_place s name up place h =
    let r = and_then-ok (last_step s name) (reached_node s up) place h in
    let a = check_passed (not (is_folder (node s r.0))) NotFolder _ place r.2 in
    let b = check_passed (lacks 0o100 (node s r.0)) Denied _ place a.1 in
    let q = ok_same b.1 in
    let at = reached-find s up r.0 r.1 in
    let f : unwrap_or (find s up) 0 ≡ r.0 = ap (λ o. unwrap_or o 0) at in
    record {
      folder = at ∙ ap (λ k. Some k) (sym f);
      is_one = subst (λ k. is_folder (node s k) ≡ true) (sym f) (not_false (is_folder (node s r.0)) a.0);
      holder = ap (λ (p : Place). p.holder) q ∙ ap (λ k. Some k) (sym f);
      there = ap (λ (p : Place). p.there) q ∙ ap (λ k. lookup s.names k name) (sym f);
    }
  where
    not_false : (b : Bool) → not b ≡ false → b ≡ true
    not_false true h = refl
    not_false false h = absurd (true≢false h)

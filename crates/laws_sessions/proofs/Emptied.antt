-- A folder that may be removed holds nothing, and no mount begins at it.
use Rattle.std.proofs.Common.{◌≡◌, ℕ, Bool, true, false, not, ◌&&◌, List, [], ◌∷◌, length, refl, sym, ◌∙◌, ap, subst, Option, Some, None}
use Rattle.std.specs.Prelude.{is_none, is_some, unwrap_or, ◌==◌, if◌then◌else◌}
use Rattle.std.specs.List.{list_any}
use Rattle.std.proofs.lemmas.Bool.{and_from, and_parts, both_ways, not-true, or_left, or_right, true≢false}
use Rattle.std.proofs.lemmas.Slice.Eq.{bytes_eq-Decides}
use Rattle.mc_text.specs.Routes.{Route}
use Rattle.tree_trait.specs.declared.file_system.FileSystem.{FileSystem}
use Rattle.tree_trait.specs.declared.file_system.NameEdit.{NameEdit}
use Rattle.tree_trait.specs.declared.calls.TreeError.TheVariants.{Missing, NotFolder, Denied, Mounted, NotEmpty}
use Rattle.tree_trait.specs.FileSystem.{is_of, lookup, node, starts_mount}
use Rattle.tree_trait.specs.Calls.{RemoveFolder}
use Rattle.tree_trait.specs.Refusals.{denied_access, first_of, folder_of, has_entries, is_empty, is_folder, is_mount, lacks, last_step, missing, no_folder, reached_node, refusal_of, walk}
use Rattle.tree_trait.proofs.Walking.{and_then-ok, check_passed, check_passes, ok_same, passed_walk, reached-find, some_there}
use Rattle.laws_sessions.proofs.Changing.{IsHollow}

not_was : (b : Bool) → not b ≡ false → b ≡ true
not_was true h = refl
not_was false h = absurd (true≢false h)

-- where a name of this folder leads somewhere, the folder has an entry
has_one : (all names : List NameEdit) (i : ℕ) (m : List ℕ) (j : ℕ) → lookup names i m ≡ Some j → is_some (lookup all i m) ≡ true → list_any (λ (e : NameEdit). (e.folder == i) && is_some (lookup all i e.name)) names ≡ true
has_one all [] i m j at some = absurd (let e : ⊥ = cc in e)
has_one all (e ∷ older) i m j at some = by (is_of i m e) refl (has_one all older i m j)
  where
    by : (b : Bool) → is_of i m e ≡ b → (lookup older i m ≡ Some j → is_some (lookup all i m) ≡ true → list_any (λ (x : NameEdit). (x.folder == i) && is_some (lookup all i x.name)) older ≡ true)
        → list_any (λ (x : NameEdit). (x.folder == i) && is_some (lookup all i x.name)) (e ∷ older) ≡ true
    by true is later =
        let parts = and_parts (e.folder == i) _ is in
        let same : e.name ≡ m = (bytes_eq-Decides e.name m).0 parts.1 in
        or_left _ _ (and_from _ _ parts.0 (ap (λ n. is_some (lookup all i n)) same ∙ some))
    by false is later = or_right _ _ (later (sym (ap (λ b. if b then e.to else lookup older i m) is) ∙ at) some)

pub no_entries : (s : FileSystem) (i : ℕ) → has_entries s i ≡ false → (m : List ℕ) → lookup s.names i m ≡ None
no_entries s i none m = by (lookup s.names i m) refl
  where
    by : (o : Option ℕ) → lookup s.names i m ≡ o → lookup s.names i m ≡ None
    by None is = is
    by (Some j) is = absurd (both_ways _ none (has_one s.names s.names i m j is (ap is_some is)))

-- an empty folder stands under a name
pub record IsEmptied (s : FileSystem) (path : Route) : Type 0 where
  pub hollow : IsHollow s path
  pub folder : is_folder (node s (let h : IsHollow s path = hollow in h.i)) ≡ true
  pub no_mount : starts_mount s (let h : IsHollow s path = hollow in h.i) ≡ false

pub emptied : (s : FileSystem) (name : List ℕ) (up : Route) → refusal_of s (RemoveFolder (name ∷ up)) ≡ None → IsEmptied s (name ∷ up)
emptied s name up h =
    let w = passed_walk (walk s (name ∷ up)) (λ p. first_of (missing p ∷ no_folder s p ∷ (is_mount s p, Mounted) ∷ (not (is_empty s p), NotEmpty) ∷ denied_access 0o200 (folder_of s p) ∷ [])) h in
    let r = and_then-ok (last_step s name) (reached_node s up) w.0 w.1 in
    let q = ok_same ((check_passed (lacks 0o100 (node s r.0)) Denied _ w.0 (check_passed (not (is_folder (node s r.0))) NotFolder _ w.0 r.2).1).1) in
    let checks = subst (λ p. first_of (missing p ∷ no_folder s p ∷ (is_mount s p, Mounted) ∷ (not (is_empty s p), NotEmpty) ∷ denied_access 0o200 (folder_of s p) ∷ []) ≡ None) q w.2 in
    let a = check_passes (is_none (lookup s.names r.0 name)) Missing _ checks in
    let there = some_there (lookup s.names r.0 name) a.0 in
    let i : ℕ = unwrap_or (lookup s.names r.0 name) (length s.nodes) in
    let b = check_passes (not (is_folder (node s i))) NotFolder _ a.1 in
    let c = check_passes (starts_mount s i) Mounted _ b.1 in
    let d = check_passes (not (not (has_entries s i) && ((node s i).unnamed == 0))) NotEmpty _ c.1 in
    let i_is : i ≡ there.0 = ap (λ o. unwrap_or o (length s.nodes)) there.1 in
    let bare = and_parts (not (has_entries s i)) ((node s i).unnamed == 0) (not_was _ d.0) in
    record {
      hollow = record {
        up = up;
        name = name;
        f = r.0;
        i = there.0;
        path_is = refl;
        folder = reached-find s up r.0 r.1;
        leads = there.1;
        empty = no_entries s there.0 (subst (λ k. has_entries s k ≡ false) i_is (not-true _ bare.0));
      };
      folder = subst (λ k. is_folder (node s k) ≡ true) i_is (not_was _ b.0);
      no_mount = subst (λ k. starts_mount s k ≡ false) i_is c.0;
    }

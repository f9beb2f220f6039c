-- What a renaming finds that no check refuses.
use Rattle.std.proofs.Common.{◌≡◌, ℕ, Bool, true, false, not, ◌&&◌, ◌||◌, List, [], ◌∷◌, length, refl, sym, ◌∙◌, ap, subst, Some, None}
use Rattle.std.specs.Prelude.{if◌then◌else◌, is_none, is_some, unwrap_or}
use Rattle.std.proofs.lemmas.Bool.{true≢false, eqb-true}
use Rattle.mc_text.specs.Routes.{Route, is_prefix, same_path}
use Rattle.tree_trait.specs.declared.file_system.FileSystem.{FileSystem}
use Rattle.tree_trait.specs.declared.calls.TreeError.{TreeError}
use Rattle.tree_trait.specs.declared.calls.TreeError.TheVariants.{CrossMount, Denied, IntoItself, IsFolder, Missing, Mounted, NotEmpty, NotFolder}
use Rattle.tree_trait.specs.Calls.{Rename}
use Rattle.tree_trait.specs.Change.{found_node}
use Rattle.tree_trait.specs.FileSystem.{find, node, starts_mount}
use Rattle.tree_trait.specs.Refusals.{Place, after_walk, first_of, folder_of, is_empty, is_folder, is_mount, lacks, mount_of, refusal_of, rename_refusal, same_mount, thing, walk}
use Rattle.tree_trait.proofs.Walking.{check_passes, last_place, passed_walk, some_there, walk-find}

-- both folders stand, on one mount, and what is renamed, which isn't moved into itself; no mount begins there, and a folder isn't replaced by what is none
pub record IsRenaming (s : FileSystem) (old : List ℕ) (from : Route) (new : List ℕ) (to : Route) : Type 0 where
  pub from_at : find s from ≡ Some (found_node s from)
  pub to_at : find s to ≡ Some (found_node s to)
  pub holds : is_folder (node s (found_node s to)) ≡ true
  pub leads : find s (old ∷ from) ≡ Some (found_node s (old ∷ from))
  pub mount : mount_of s to ≡ mount_of s from
  pub into : is_prefix (old ∷ from) (new ∷ to) ≡ false
  pub unmounted : starts_mount s (found_node s (old ∷ from)) ≡ false
  pub bare : is_folder (node s (found_node s (old ∷ from))) ≡ false → (j : ℕ) → find s (new ∷ to) ≡ Some j → is_folder (node s j) ≡ false

-- the checks between two paths
abbrev apart_checks : FileSystem → Route → Route → Place → Place → List (Bool × TreeError)
apart_checks s source target a b =
    (is_prefix source target, IntoItself)
    ∷ (not (same_mount s source target), CrossMount)
    ∷ (lacks 0o200 (folder_of s a) || lacks 0o200 (folder_of s b), Denied)
    ∷ (is_folder (thing s b) && not (is_folder (thing s a)), IsFolder)
    ∷ (is_some b.there && (is_folder (thing s a) && not (is_folder (thing s b))), NotFolder)
    ∷ (is_folder (thing s b) && not (is_empty s b), NotEmpty) ∷ []

not_false : (b : Bool) → not b ≡ false → b ≡ true
not_false true h = refl
not_false false h = absurd (true≢false h)

neither_folder : (x y : Bool) → (x && not y) ≡ false → y ≡ false → x ≡ false
neither_folder true true h other = other
neither_folder true false h other = absurd (true≢false h)
neither_folder false y h other = refl

first_off : (x y : Bool) → (x || y) ≡ false → x ≡ false
first_off true y h = absurd (true≢false h)
first_off false y h = refl

pub renaming_passes : (s : FileSystem) (old : List ℕ) (from : Route) (new : List ℕ) (to : Route) → same_path (old ∷ from) (new ∷ to) ≡ false → refusal_of s (Rename (old ∷ from) (new ∷ to)) ≡ None → IsRenaming s old from new to
renaming_passes s old from new to other h = record {
  from_at = (let l = last_place s old from w.0 w.1 in l.folder);
  to_at = (let l = last_place s new to v.0 v.1 in l.folder);
  holds = (let l = last_place s new to v.0 v.1 in l.is_one);
  leads = (let at : find s (old ∷ from) ≡ Some there.0 = walk-find s (old ∷ from) w.0 w.1 ∙ there.1 in rw at refl);
  mount = sym (eqb-true (mount_of s from) (mount_of s to) (not_false _ crossing.0));
  into = into.0;
  unmounted = ap (λ o. starts_mount s (unwrap_or o 0)) (walk-find s (old ∷ from) w.0 w.1 ∙ there.1)
      ∙ (ap (λ o. starts_mount s (unwrap_or o (length s.nodes))) (sym there.1) ∙ first_off (is_mount s w.0) (is_mount s v.0) mounted.0);
  bare = λ file j at. neither_folder (is_folder (node s j)) (is_folder (thing s w.0))
      (ap (λ o. is_folder (node s (unwrap_or o (length s.nodes))) && not (is_folder (thing s w.0))) (sym (sym (walk-find s (new ∷ to) v.0 v.1) ∙ at)) ∙ folder.0)
      (ap (λ o. is_folder (node s (unwrap_or o (length s.nodes)))) there.1
      ∙ (ap (λ o. is_folder (node s (unwrap_or o 0))) (sym (walk-find s (old ∷ from) w.0 w.1 ∙ there.1)) ∙ file));
}
  where
    w : (a : Place) × (walk s (old ∷ from) ≡ Rattle.std.proofs.Common.Ok a) × (after_walk s (new ∷ to) (λ b. rename_refusal s (old ∷ from) (new ∷ to) a b) ≡ None)
    w = passed_walk (walk s (old ∷ from)) (λ a. after_walk s (new ∷ to) (λ b. rename_refusal s (old ∷ from) (new ∷ to) a b)) h

    v : (b : Place) × (walk s (new ∷ to) ≡ Rattle.std.proofs.Common.Ok b) × (rename_refusal s (old ∷ from) (new ∷ to) w.0 b ≡ None)
    v = passed_walk (walk s (new ∷ to)) (λ b. rename_refusal s (old ∷ from) (new ∷ to) w.0 b) w.2

    missing : (is_none w.0.there ≡ false) × (first_of ((is_mount s w.0 || is_mount s v.0, Mounted) ∷ (if same_path (old ∷ from) (new ∷ to) then [] else apart_checks s (old ∷ from) (new ∷ to) w.0 v.0)) ≡ None)
    missing = check_passes (is_none w.0.there) Missing (first_of ((is_mount s w.0 || is_mount s v.0, Mounted) ∷ (if same_path (old ∷ from) (new ∷ to) then [] else apart_checks s (old ∷ from) (new ∷ to) w.0 v.0))) v.2

    there : (i : ℕ) × (w.0.there ≡ Some i)
    there = some_there w.0.there missing.0

    mounted : ((is_mount s w.0 || is_mount s v.0) ≡ false) × (first_of (if same_path (old ∷ from) (new ∷ to) then [] else apart_checks s (old ∷ from) (new ∷ to) w.0 v.0) ≡ None)
    mounted = check_passes (is_mount s w.0 || is_mount s v.0) Mounted (first_of (if same_path (old ∷ from) (new ∷ to) then [] else apart_checks s (old ∷ from) (new ∷ to) w.0 v.0)) missing.1

    apart : first_of (apart_checks s (old ∷ from) (new ∷ to) w.0 v.0) ≡ None
    apart = subst (λ b. first_of (if b then [] else apart_checks s (old ∷ from) (new ∷ to) w.0 v.0) ≡ None) other mounted.1

    into : (is_prefix (old ∷ from) (new ∷ to) ≡ false) × (first_of (Rattle.std.specs.Prelude.drop 1 (apart_checks s (old ∷ from) (new ∷ to) w.0 v.0)) ≡ None)
    into = check_passes (is_prefix (old ∷ from) (new ∷ to)) IntoItself (first_of (Rattle.std.specs.Prelude.drop 1 (apart_checks s (old ∷ from) (new ∷ to) w.0 v.0))) apart

    crossing : (not (same_mount s (old ∷ from) (new ∷ to)) ≡ false) × (first_of (Rattle.std.specs.Prelude.drop 2 (apart_checks s (old ∷ from) (new ∷ to) w.0 v.0)) ≡ None)
    crossing = check_passes (not (same_mount s (old ∷ from) (new ∷ to))) CrossMount (first_of (Rattle.std.specs.Prelude.drop 2 (apart_checks s (old ∷ from) (new ∷ to) w.0 v.0))) into.1

    folder : ((is_folder (thing s v.0) && not (is_folder (thing s w.0))) ≡ false) × (first_of (Rattle.std.specs.Prelude.drop 4 (apart_checks s (old ∷ from) (new ∷ to) w.0 v.0)) ≡ None)
    folder = check_passes (is_folder (thing s v.0) && not (is_folder (thing s w.0))) IsFolder (first_of (Rattle.std.specs.Prelude.drop 4 (apart_checks s (old ∷ from) (new ∷ to) w.0 v.0)))
        (check_passes (lacks 0o200 (folder_of s w.0) || lacks 0o200 (folder_of s v.0)) Denied (first_of (Rattle.std.specs.Prelude.drop 3 (apart_checks s (old ∷ from) (new ∷ to) w.0 v.0))) crossing.1).1

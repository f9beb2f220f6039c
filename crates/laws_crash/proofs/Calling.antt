-- From calls that were done to changes.
use Rattle.std.proofs.Common.{◌≡◌, ℕ, false, List, [], ◌∷◌, refl, sym, ◌∙◌, ap, subst, Option, Some, None, cond}
use Rattle.std.specs.Prelude.{unwrap_or, is_some, is_none, option_and_then}
use Rattle.std.proofs.lemmas.Bool.{true≢false, false_from_ne_true}
use Rattle.mc_text.specs.Routes.{Route, same_path}
use Rattle.tree_trait.specs.declared.calls.TreeError.TheVariants.{Missing, Exists}
use Rattle.tree_trait.specs.FileSystem.{lookup, find}
use Rattle.tree_trait.specs.Refusals.{holder, walk, first_of, folder_of, missing, exists, no_folder, denied_access, after_walk, rename_refusal}
use Rattle.tree_trait.specs.Calls.{RemoveFile, Rename}
use Rattle.tree_trait.specs.Change.{Change, CallLog, Nothing, Moves, Removes, current, with_change, change_of, found_node}
use Rattle.tree_trait.specs.Shape.{IsRemovable}
use Rattle.tree_trait.proofs.Finding.{same_name-true}
use Rattle.tree_trait.proofs.Visible.{same_path-true}
use Rattle.tree_trait.proofs.Walking.{removable, passed_walk, check_passes, last_place, walk-find, some_there}
use Rattle.laws_crash.specs.Guarded.{IsGuarded, IsSettledAt}
use Rattle.laws_crash.specs.NameKnowledge.{IsAnchored, IsUnworked}
use Rattle.laws_crash.specs.Called.{RemovedLaw, MadeLaw, PlacedLaw, FolderSyncedLaw}
use Rattle.laws_crash.proofs.Guarding.{naming_law}
use Rattle.laws_crash.proofs.Removing.{removal_law}
use Rattle.laws_crash.proofs.Making.{making_law}
use Rattle.laws_crash.proofs.Placing.{placing_law}
use Rattle.laws_crash.proofs.Syncing.{sync_law, synced_law}

some_is : (x y : CallLog) → (let o : Option CallLog = Some x in o) ≡ Some y → x ≡ y
some_is x y h = cc

-- the log after a call is the one with its change
is_with : (log now : CallLog) (c d : Change) → (let o : Option CallLog = Some now in o) ≡ Some (with_change log c) → c ≡ d → now ≡ with_change log d
is_with log now c d h e = some_is now (with_change log c) h ∙ ap (with_change log) e

pub removed_law : RemovedLaw
removed_law marks log now path guarded done anchored unworked =
    let r = removable (current log) path guarded.tree done.0 in
    at r r.path_is done.1.1 anchored unworked
  where
    at : (r : IsRemovable (current log) path) → path ≡ r.name ∷ r.up → Some now ≡ Some (with_change log (change_of (current log) (RemoveFile path) done.1.0)) → IsAnchored marks log (holder path)
        → IsUnworked marks log path → IsGuarded marks now
    at r is now_is anchored unworked =
        let at_up : found_node (current log) r.up ≡ r.f = ap (λ o. unwrap_or o 0) r.folder in
        let change : change_of (current log) (RemoveFile path) done.1.0 ≡ Removes r.f r.name (found_node (current log) path) =
        ap (λ p. change_of (current log) (RemoveFile p) done.1.0) is ∙ (ap (λ f. Removes f r.name (found_node (current log) (r.name ∷ r.up))) at_up ∙ ap (λ p. Removes r.f r.name (found_node (current log) p)) (sym is)) in
        subst (λ (l : CallLog). IsGuarded marks l) (sym (is_with log now _ _ now_is change))
        (naming_law marks log (Removes r.f r.name (found_node (current log) path)) guarded (removal_law marks log r.up r.name r.f (found_node (current log) path) guarded (record {
          stands = record { at = r.folder; anchored = subst (λ p. IsAnchored marks log (holder p)) is anchored };
          unworked = subst (λ p. IsUnworked marks log p) is unworked;
        })))

none_there : (o : Option ℕ) → is_some o ≡ false → o ≡ None
none_there None h = refl
none_there (Some i) h = absurd (true≢false h)

pub made_law : MadeLaw
made_law marks log now name up mode guarded done anchored out =
    let w = passed_walk (walk (current log) (name ∷ up)) (λ p. first_of (exists p ∷ denied_access 0o200 (folder_of (current log) p) ∷ [])) done.0 in
    let l = last_place (current log) name up w.0 w.1 in
    let a = check_passes (is_some w.0.there) Exists _ w.2 in
    subst (λ (x : CallLog). IsGuarded marks x) (sym (is_with log now _ _ done.1.1 refl))
    (naming_law marks log _ guarded (making_law marks log up name (found_node (current log) up) _ guarded (record {
      stands = record { at = l.folder; anchored = anchored };
      folder = l.is_one;
      free = none_there _ (ap is_some (sym l.there) ∙ a.0);
      was = λ apart. absurd (true≢false (sym out ∙ apart));
      solid = λ apart. absurd (true≢false (sym out ∙ apart));
    })))

other_path : (part target : List ℕ) (up : Route) → (part ≡ target → ⊥) → same_path (part ∷ up) (target ∷ up) ≡ false
other_path part target up apart = false_from_ne_true _ (λ h. let e : (part ∷ up) ≡ target ∷ up = same_path-true (part ∷ up) (target ∷ up) h in apart cc)

pub placed_law : PlacedLaw
placed_law marks log now part target up i guarded done can =
    let w = passed_walk (walk (current log) (part ∷ up)) (λ a. after_walk (current log) (target ∷ up) (λ b. rename_refusal (current log) (part ∷ up) (target ∷ up) a b)) done.0 in
    let v = passed_walk (walk (current log) (target ∷ up)) (λ b. rename_refusal (current log) (part ∷ up) (target ∷ up) w.0 b) w.2 in
    let l = last_place (current log) target up v.0 v.1 in
    let f = found_node (current log) up in
    let it : found_node (current log) (part ∷ up) ≡ i = ap (λ o. unwrap_or o 0) can.leads in
    let change : change_of (current log) (Rename (part ∷ up) (target ∷ up)) done.1.0 ≡ Moves f part f target i (find (current log) (target ∷ up)) =
    ap (λ b. cond b Nothing (Moves f part f target (found_node (current log) (part ∷ up)) (find (current log) (target ∷ up)))) (other_path part target up can.other)
    ∙ ap (λ k. Moves f part f target k (find (current log) (target ∷ up))) it in
    subst (λ (x : CallLog). IsGuarded marks x) (sym (is_with log now _ _ done.1.1 change))
    (naming_law marks log _ guarded (placing_law marks log up part target f i _ guarded (record {
      stands = record { at = l.folder; anchored = can.anchored };
      folder = l.is_one;
      leads = sym (ap (option_and_then (λ k. lookup (current log).names k part)) l.folder) ∙ can.leads;
      other = false_from_ne_true _ (λ h. can.other (sym (same_name-true f f target part h).1));
      is_aside = can.is_aside;
      moves = can.moves;
      firm = can.firm;
      file = can.file;
      found = can.unworked;
      under = can.under;
    })))

pub folder_synced_law : FolderSyncedLaw
folder_synced_law marks log now name up guarded done way near =
    let w = passed_walk (walk (current log) up) (λ p. first_of (missing p ∷ no_folder (current log) p ∷ [])) done.0 in
    let t = some_there w.0.there (check_passes (is_none w.0.there) Missing _ w.2).0 in
    let at : find (current log) up ≡ Some t.0 = walk-find (current log) up w.0 w.1 ∙ t.1 in
    let stands : find (current log) up ≡ Some (found_node (current log) up) = at ∙ ap (λ k. Some k) (sym (ap (λ o. unwrap_or o 0) at)) in
    let is = is_with log now _ _ done.1.1 refl in (
      subst (λ (x : CallLog). IsGuarded marks x) (sym is) (sync_law marks log (found_node (current log) up) guarded),
      subst (λ (x : CallLog). IsSettledAt x (name ∷ up)) (sym is) (synced_law log up name (found_node (current log) up) way stands near),
    )

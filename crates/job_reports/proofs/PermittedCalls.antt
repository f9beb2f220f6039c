-- What calls change that no check refuses.
use Rattle.std.proofs.Common.{◌≡◌, ℕ, Bool, true, false, not, List, [], ◌∷◌, refl, sym, ◌∙◌, ap, Option, Some, None, Result, Ok, Err, cond}
use Rattle.std.specs.Prelude.{is_some, is_none, option_and_then}
use Rattle.std.proofs.lemmas.Bool.{true≢false}
use Rattle.mc_text.specs.Routes.{Route}
use Rattle.tree_trait.specs.declared.file_system.FileSystem.{FileSystem}
use Rattle.tree_trait.specs.declared.calls.TreeError.{TreeError}
use Rattle.tree_trait.specs.declared.calls.TreeError.TheVariants.{Missing, NotFolder, Denied, Exists}
use Rattle.tree_trait.specs.Calls.{Stat, MakeFile, SyncFolder}
use Rattle.tree_trait.specs.FileSystem.{lookup, find, node}
use Rattle.tree_trait.specs.Refusals.{is_folder, lacks, step, and_then, reached_node, walk, last_step, Place, first_of, folder_of, missing, exists, no_folder, denied_access, refusal_of}
use Rattle.tree_trait.specs.Change.{found_node}
use Rattle.tree_trait.proofs.Walking.{passed_walk, check_passes, last_place, reached-find, walk-find, some_there}

none_there : (o : Option ℕ) → is_some o ≡ false → o ≡ None
none_there None h = refl
none_there (Some i) h = absurd (true≢false h)

-- a file that may be made
pub record IsMaking (s : FileSystem) (name : List ℕ) (up : Route) : Type 0 where
  pub folder : find s up ≡ Some (found_node s up)
  pub holds : is_folder (node s (found_node s up)) ≡ true
  pub none : lookup s.names (found_node s up) name ≡ None

pub making_passes : (s : FileSystem) (name : List ℕ) (up : Route) (mode : ℕ) → refusal_of s (MakeFile (name ∷ up) mode) ≡ None → IsMaking s name up
making_passes s name up mode h =
    let w = passed_walk (walk s (name ∷ up)) (λ p. first_of (exists p ∷ denied_access 0o200 (folder_of s p) ∷ [])) h in
    let l = last_place s name up w.0 w.1 in
    let a = check_passes (is_some w.0.there) Exists _ w.2 in
    record { folder = l.folder; holds = l.is_one; none = none_there _ (ap is_some (sym l.there) ∙ a.0) }

-- a folder that may be synced is there
pub sync_finds : (s : FileSystem) (path : Route) → refusal_of s (SyncFolder path) ≡ None → find s path ≡ Some (found_node s path)
sync_finds s path h =
    let w = passed_walk (walk s path) (λ p. first_of (missing p ∷ no_folder s p ∷ [])) h in
    let t = some_there w.0.there (check_passes (is_none w.0.there) Missing _ w.2).0 in
    let at : find s path ≡ Some t.0 = walk-find s path w.0 w.1 ∙ t.1 in
    rw at refl

-- a walk that misses something leads nowhere
not_refused : (b : Bool) (e : TreeError) (rest : Result ℕ TreeError) → (e ≡ Missing → ⊥) → cond b (Err e) rest ≡ Err Missing → rest ≡ Err Missing
not_refused true e rest other h = absurd (other cc)
not_refused false e rest other h = h

no_entry : (o : Option ℕ) → (let r : Result ℕ TreeError = elim o [ None ↦ Err Missing | Some i ↦ Ok i ] in r) ≡ Err Missing → o ≡ None
no_entry None h = refl
no_entry (Some i) h = cc

step_missing : (s : FileSystem) (name : List ℕ) (f : ℕ) → step s name f ≡ Err Missing → lookup s.names f name ≡ None
step_missing s name f h =
    no_entry (lookup s.names f name) (not_refused (lacks 0o100 (node s f)) Denied _ (λ e. cc) (not_refused (not (is_folder (node s f))) NotFolder _ (λ e. cc) h))

reached_missing : (s : FileSystem) (path : Route) → reached_node s path ≡ Err Missing → find s path ≡ None
reached_missing s [] h = cc
reached_missing s (name ∷ folder) h = go (reached_node s folder) refl h (reached_missing s folder)
  where
    go : (r : Result ℕ TreeError) → reached_node s folder ≡ r → and_then (step s name) r ≡ Err Missing → (reached_node s folder ≡ Err Missing → find s folder ≡ None) → find s (name ∷ folder) ≡ None
    go (Ok f) is h above = ap (option_and_then (λ g. lookup s.names g name)) (reached-find s folder f is) ∙ step_missing s name f h
    go (Err e) is h above = ap (option_and_then (λ g. lookup s.names g name)) (above (is ∙ h))

place_refused : (b : Bool) (e : TreeError) (rest : Result Place TreeError) → (e ≡ Missing → ⊥) → cond b (Err e) rest ≡ Err Missing → rest ≡ Err Missing
place_refused true e rest other h = absurd (other cc)
place_refused false e rest other h = h

last_found : (s : FileSystem) (name : List ℕ) (f : ℕ) → last_step s name f ≡ Err Missing → ⊥
last_found s name f h =
    let over = place_refused (lacks 0o100 (node s f)) Denied _ (λ e. cc) (place_refused (not (is_folder (node s f))) NotFolder _ (λ e. cc) h) in cc

walk_missing : (s : FileSystem) (path : Route) → walk s path ≡ Err Missing → find s path ≡ None
walk_missing s [] h = cc
walk_missing s (name ∷ folder) h = go (reached_node s folder) refl h
  where
    go : (r : Result ℕ TreeError) → reached_node s folder ≡ r → and_then (last_step s name) r ≡ Err Missing → find s (name ∷ folder) ≡ None
    go (Ok f) is h = absurd (last_found s name f h)
    go (Err e) is h = ap (option_and_then (λ g. lookup s.names g name)) (reached_missing s folder (is ∙ (let same : e ≡ Missing = cc in ap (λ x. Err x) same)))

-- what can't be looked at since it is missing isn't there
pub stat_missing : (s : FileSystem) (path : Route) → refusal_of s (Stat path) ≡ Some Missing → find s path ≡ None
stat_missing s path h = go (walk s path) refl h
  where
    unless_there : (o : Option ℕ) → cond (is_none o) (let e : Option TreeError = Some Missing in e) None ≡ Some Missing → o ≡ None
    unless_there None h = refl
    unless_there (Some i) h = cc

    go : (r : Result Place TreeError) → walk s path ≡ r → (let o : Option TreeError = elim r [ Err e ↦ Some e | Ok place ↦ first_of (missing place ∷ []) ] in o) ≡ Some Missing → find s path ≡ None
    go (Ok place) is h = walk-find s path place is ∙ unless_there place.there h
    go (Err e) is h = walk_missing s path (is ∙ (let same : e ≡ Missing = cc in ap (λ x. Err x) same))

-- What is planned for a call is what the call does.
use Rattle.std.proofs.Common.{◌≡◌, ℕ, ℤ, Bool, true, false, cond, List, [], ◌∷◌, refl, sym, ◌∙◌, ap, subst, Option, Some, None, Result, Ok, Err}
use Rattle.std.specs.Prelude.{unwrap_or, slice_get, is_none, if◌then◌else◌, ◌||◌}
use Rattle.std.specs.List.{list_any}
use Rattle.std.proofs.lemmas.Bool.{false≢true, true≢false}
use Rattle.mc_text.specs.Routes.{Route}
use Rattle.tree_trait.specs.declared.file_system.NameEdit.{NameEdit}
use Rattle.tree_trait.specs.declared.file_system.FileSystem.{FileSystem}
use Rattle.tree_trait.specs.declared.calls.TreeError.{TreeError}
use Rattle.tree_trait.specs.declared.calls.TreeError.TheVariants.{Fault, Memory, Missing}
use Rattle.tree_trait.specs.Calls.{Call, Rename, RemoveFile, RemoveFolder}
use Rattle.tree_trait.specs.FileSystem.{lookup, find, is_of}
use Rattle.tree_trait.specs.Refusals.{Place, walk, after_walk, first_of, missing, refusal_of, rename_refusal}
use Rattle.tree_trait.specs.Change.{Change, Moves, Removes, Nothing, change_of, torn_write, found_node}
use Rattle.tree_trait.specs.Answers.{IsCause}
use Rattle.tree_trait.proofs.Causes.{refusal_of-cause}
use Rattle.tree_trait.proofs.Walking.{passed_walk, check_passes, some_there, walk-find}
use Rattle.tree_trait.proofs.Finding.{and_then-some}
use Rattle.mem_tree.specs.declared.step.Step.{Step}
use Rattle.mem_tree.specs.CallSteps.{at_edit, Plans, PlansTo, takes_none}
use Rattle.mem_tree.proofs.Leading.{same_key}

pub plans_err : (s : FileSystem) (refusal : Option TreeError) (change torn : Change) (e : TreeError) → refusal ≡ Some e → PlansTo s refusal change torn (Err e)
plans_err s refusal change torn Memory h = tt
plans_err s refusal change torn e h = h

-- a walk that misses nothing finds what is there
there_found : (s : FileSystem) (path : Route) (rest : Place → Option TreeError) → after_walk s path (λ p. if is_none p.there then Some Missing else rest p) ≡ None → find s path ≡ Some (found_node s path)
there_found s path rest h =
    let w = passed_walk (walk s path) (λ p. if is_none p.there then Some Missing else rest p) h in
    let a = check_passes (is_none w.0.there) Missing (rest w.0) w.2 in
    let i = some_there w.0.there a.0 in
    let at = walk-find s path w.0 w.1 ∙ i.1 in
    at ∙ ap (λ k. Some k) (sym (ap (λ o. unwrap_or o 0) at))

pub file_found : (s : FileSystem) (path : Route) → refusal_of s (RemoveFile path) ≡ None → find s path ≡ Some (found_node s path)
file_found s path h = there_found s path _ h

pub folder_found : (s : FileSystem) (path : Route) → refusal_of s (RemoveFolder path) ≡ None → find s path ≡ Some (found_node s path)
folder_found s path h = there_found s path _ h

pub moved_found : (s : FileSystem) (from to : Route) → refusal_of s (Rename from to) ≡ None → find s from ≡ Some (found_node s from)
moved_found s from to h =
    let w = passed_walk (walk s from) (λ a. after_walk s to (λ b. rename_refusal s from to a b)) h in
    let v = passed_walk (walk s to) (λ b. rename_refusal s from to w.0 b) w.2 in
    let a = check_passes (is_none w.0.there) Missing _ v.2 in
    let i = some_there w.0.there a.0 in
    let at = walk-find s from w.0 w.1 ∙ i.1 in
    at ∙ ap (λ k. Some k) (sym (ap (λ o. unwrap_or o 0) at))

-- a name that leads to a node has an edit
none_there : (f : ℕ) (n : List ℕ) (es : List NameEdit) → list_any (is_of f n) es ≡ false → lookup es f n ≡ None
none_there f n [] h = refl
none_there f n (e ∷ es) h = go (is_of f n e) h (none_there f n es)
  where
    go : (b : Bool) → (b || list_any (is_of f n) es) ≡ false → (list_any (is_of f n) es ≡ false → lookup es f n ≡ None) → cond b e.to (lookup es f n) ≡ None
    go true h ih = absurd (true≢false h)
    go false h ih = ih h

pub has_place : (s : FileSystem) (name : List ℕ) (up : Route) (x : ℕ) → find s (name ∷ up) ≡ Some x → list_any (is_of (found_node s up) name) s.names ≡ false → ⊥
has_place s name up x at none =
    let f = and_then-some (find s up) (λ f. lookup s.names f name) x at in
    let folder : found_node s up ≡ f.0 = ap (λ o. unwrap_or o 0) f.1 in
    none_some x (sym (subst (λ g. lookup s.names g name ≡ None) folder (none_there (found_node s up) name s.names none)) ∙ f.2)
  where
    none_some : (x : ℕ) → (let o : Option ℕ = None in o) ≡ Some x → ⊥
    none_some x h = cc

pub at_place : (s : FileSystem) (f : ℕ) (n : List ℕ) (k : ℕ) (e : NameEdit) (change : ℕ → List ℕ → Change) → slice_get s.names k ≡ Some e → is_of f n e ≡ true
    → at_edit (slice_get s.names k) (λ e. change e.folder e.name) ≡ change f n
at_place s f n k e change there is =
    let key = same_key f n e is in
    rw there (ap (λ g. change g e.name) key.0 ∙ ap (change f) key.1)

same_err : (x y : TreeError) → (let r : Result Step TreeError = Err x in r) ≡ Err y → x ≡ y
same_err x y h = cc

-- no plan is a fault
pub no_fault : (s : FileSystem) (call : Call) (change torn : Change) (plan : Result Step TreeError) → PlansTo s (refusal_of s call) change torn plan → plan ≡ Err Fault → ⊥
no_fault s call change torn plan h is = refusal_of-cause s call Fault (subst (PlansTo s (refusal_of s call) change torn) is h)

-- a refusal takes no memory
pub refused_none : (s : FileSystem) (call : Call) (e : TreeError) → refusal_of s call ≡ Some e → takes_none (Err e) ≡ true
refused_none s call Memory h = absurd (refusal_of-cause s call Memory h)
refused_none s call e h = refl

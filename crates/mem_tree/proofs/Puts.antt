-- With each mode permitting all, a folder is searched and written to, and names lead where they led.
use Rattle.std.proofs.Common.{◌≡◌, ℕ, ◌+◌, ◌-◌, ◌^◌, ◌<◌, ◌≤◌, nat_lt, zero, suc, Bool, true, false, not, List, [], ◌∷◌, length, refl, sym, ◌∙◌, ap, Option, Some, None, Result, Ok, Err, cond, arith, map}
use Rattle.std.specs.Prelude.{unwrap_or, option_and_then, slice_get, is_some, is_none, ◌&&◌, if◌then◌else◌}
use Rattle.std.specs.Option.{option_map}
use Rattle.std.proofs.lemmas.Bool.{false≢true, le-ltb}
use Rattle.mc_text.specs.Routes.{Route}
use Rattle.tree_trait.specs.declared.file_system.Node.{Node}
use Rattle.tree_trait.specs.declared.file_system.FileSystem.{FileSystem}
use Rattle.tree_trait.specs.FileSystem.{lookup, find, node, no_node}
use Rattle.tree_trait.specs.declared.calls.TreeError.{TreeError}
use Rattle.tree_trait.specs.declared.calls.TreeError.TheVariants.{NotFolder, Denied, NoSpace}
use Rattle.tree_trait.specs.Refusals.{is_folder, lacks, reached_node, walk, last_step, and_then, Place, first_of, exists, denied_access, folder_of}
use Rattle.mem_tree.specs.Puts.{unlocked_node, unlocked_system, put_refusal, put_file_refusal, is_full}
use Rattle.mem_tree.specs.Held.{IsKept}
use Rattle.mem_tree.specs.Sound.{FitsNode}
use Rattle.tree_trait.specs.Change.{Makes, after_change}
use Rattle.mem_tree.proofs.Standing.{standing_change}
use Rattle.mem_tree.proofs.Sounds.{sound_change}

abbrev at_of : List Node → ℕ → Node
at_of nodes i = unwrap_or (slice_get nodes i) no_node

folder_among : (nodes : List Node) (i : ℕ) → is_folder (at_of (map unlocked_node nodes) i) ≡ is_folder (at_of nodes i)
folder_among [] i = refl
folder_among (n ∷ nodes) zero = refl
folder_among (n ∷ nodes) (suc i) = folder_among nodes i

-- a folder is one with any mode
pub folder-unlocked : (s : FileSystem) (i : ℕ) → is_folder (node (unlocked_system s) i) ≡ is_folder (node s i)
folder-unlocked s i = folder_among s.nodes i

permits_among : (nodes : List Node) (i : ℕ) → is_folder (at_of nodes i) ≡ true
    → (lacks 0o100 (at_of (map unlocked_node nodes) i) ≡ false) × (lacks 0o200 (at_of (map unlocked_node nodes) i) ≡ false)
permits_among [] i h = absurd (false≢true h)
permits_among (n ∷ nodes) zero h = (refl, refl)
permits_among (n ∷ nodes) (suc i) h = permits_among nodes i h

-- a folder permits the search and the making of names
pub permits : (s : FileSystem) (i : ℕ) → is_folder (node s i) ≡ true → (lacks 0o100 (node (unlocked_system s) i) ≡ false) × (lacks 0o200 (node (unlocked_system s) i) ≡ false)
permits s i h = permits_among s.nodes i h

pub find-unlocked : (s : FileSystem) (path : Route) → find (unlocked_system s) path ≡ find s path
find-unlocked s [] = refl
find-unlocked s (name ∷ folder) = ap (option_and_then (λ f. lookup s.names f name)) (find-unlocked s folder)

pub none_of : (o : Option ℕ) → is_some o ≡ false → o ≡ None
none_of None h = refl
none_of (Some p) h = absurd (false≢true (sym h))

-- where the walk comes to a folder, and the name leads nowhere, a thing may be put
pub may_put : (s : FileSystem) (name : List ℕ) (up : Route) (f : ℕ) → reached_node (unlocked_system s) up ≡ Ok f → is_folder (node s f) ≡ true → lookup s.names f name ≡ None
    → put_refusal s (name ∷ up) ≡ None
may_put s name up f at folder free =
    let u = unlocked_system s in
    let may = permits s f folder in
    let is = folder-unlocked s f ∙ folder in
    let here : walk u (name ∷ up) ≡ Ok (record { holder = Some f; there = None }) =
    ap (and_then (last_step u name)) at ∙ last (is_folder (node u f)) (lacks 0o100 (node u f)) (lookup s.names f name) is may.0 free in
    ap (checked (λ p. first_of (exists p ∷ denied_access 0o200 (folder_of u p) ∷ []))) here ∙ ap (λ b. cond b (Some Denied) None) may.1
  where
    last : (b d : Bool) (o : Option ℕ) → b ≡ true → d ≡ false → o ≡ None
        → (let r : Result Place TreeError = cond (not b) (Err NotFolder) (cond d (Err Denied) (Ok (record { holder = Some f; there = o }))) in r) ≡ Ok (record { holder = Some f; there = None })
    last true false None a b c = refl
    last false d o a b c = absurd (false≢true a)
    last b true o a h c = absurd (false≢true (sym h))
    last b d (Some i) a h c = cc

    checked : (Place → Option TreeError) → Result Place TreeError → Option TreeError
    checked checks r = elim r [ Err e ↦ Some e | Ok place ↦ checks place ]

-- a node more in the opening is one more among what stands
pub kept_put : (s stands : FileSystem) (f : ℕ) (name : List ℕ) (made : Node) → IsKept s [] stands → FitsNode made → lookup s.names f name ≡ None
    → IsKept (after_change s (Makes f name made)) [] (after_change stands (Makes f name made))
kept_put s stands f name made kept fits free = record {
  stands_is = ap (λ (t : FileSystem). after_change t (Makes f name made)) kept.stands_is ∙ standing_change s (Makes f name made) free;
  sound = sound_change s (Makes f name made) kept.sound fits;
  fits = tt;
  tree = λ t. t;
}

-- nothing but a full mount refuses a file besides
pub file_refused : (s : FileSystem) (path : Route) (count : ℕ) → (is_none (put_refusal s path) && is_full s path count) ≡ false → put_file_refusal s path count ≡ put_refusal s path
file_refused s path count h = go (put_refusal s path) (is_full s path count) h
  where
    go : (o : Option TreeError) (full : Bool) → (is_none o && full) ≡ false → (if is_some o then o else if full then Some NoSpace else None) ≡ o
    go None true h = absurd (false≢true (sym h))
    go None false h = refl
    go (Some e) full h = refl

pub file_full : (s : FileSystem) (path : Route) (count : ℕ) → (is_none (put_refusal s path) && is_full s path count) ≡ true → put_file_refusal s path count ≡ Some NoSpace
file_full s path count h = go (put_refusal s path) (is_full s path count) h
  where
    go : (o : Option TreeError) (full : Bool) → (is_none o && full) ≡ true → (if is_some o then o else if full then Some NoSpace else None) ≡ Some NoSpace
    go None true h = refl
    go None false h = absurd (false≢true h)
    go (Some e) full h = absurd (false≢true h)

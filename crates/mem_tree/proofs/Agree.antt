-- A file system with the names alone that lead to a node refuses, and does, what it does with all its names.
use Rattle.std.proofs.Common.{◌≡◌, ℕ, ℤ, ◌+◌, ◌-◌, zero, suc, Bool, true, false, not, ◌&&◌, ◌||◌, List, [], ◌∷◌, length, refl, sym, ◌∙◌, ap, subst, inl, inr, ◌⊎◌, Option, Some, None, Result, Ok, Err, cond}
use Rattle.std.specs.Prelude.{◌==◌, is_some, is_none, unwrap_or, option_and_then, max, nat_lt, if◌then◌else◌}
use Rattle.std.specs.List.{list_any}
use Rattle.std.specs.Option.{option_map_or}
use Rattle.std.specs.Str.{bytes_eq}
use Rattle.std.proofs.lemmas.Slice.Eq.{bytes_eq-Decides}
use Rattle.std.proofs.lemmas.Bool.{and_parts, and_from, false≢true, true≢false, eqb-true, eq-eqb}
use Rattle.mc_text.specs.Routes.{Route, same_path, is_prefix}
use Rattle.tree_trait.specs.declared.file_system.NameEdit.{NameEdit}
use Rattle.tree_trait.specs.declared.file_system.FileSystem.{FileSystem}
use Rattle.tree_trait.specs.declared.calls.TreeError.{TreeError}
use Rattle.tree_trait.specs.declared.calls.TreeError.TheVariants.{Missing, NotFolder, Denied, Exists, IsFolder, NotEmpty, IntoItself, Mounted, CrossMount, NoSpace, Special}
use Rattle.tree_trait.specs.FileSystem.{lookup, find, node, is_of, starts_mount}
use Rattle.tree_trait.specs.Calls.{Call, Stat, ListFolder, ReadAt, ReadLink, MakeFile, WriteAt, SetMode, MakeFolder, MakeLink, Rename, RemoveFile, RemoveFolder, SyncFile, SyncFolder}
use Rattle.tree_trait.specs.Refusals.{step, and_then, reached_node, Place, last_step, walk, after_walk, first_of, has_entries, is_empty, holder_in, lies_on, used_by, is_file, is_folder, is_mount, lacks, mount_here, mount_of, same_mount, holder, no_room, capacity_of, thing, folder_of, missing, exists, a_folder, no_folder, a_special, denied_access, rename_refusal, refusal_of}
use Rattle.tree_trait.specs.Change.{Change, change_of, of_name, found_node, Makes, Moves, Removes, Sets, Writes, Syncs, Nothing, overwritten_bytes, edit}
use Rattle.mem_tree.specs.Live.{without_name, if_leading, leading, standing}
use Rattle.mem_tree.proofs.Leading.{lookup_leading, same_key, own_key, lookup_out, lookup_other}

module _ (s : FileSystem) where
  pub find_standing : (path : Route) → find (standing s) path ≡ find s path
  find_standing [] = refl
  find_standing (name ∷ folder) = rw (find_standing folder) (go (find s folder))
    where
      go : (o : Option ℕ) → option_and_then (λ f. lookup (leading s.names) f name) o ≡ option_and_then (λ f. lookup s.names f name) o
      go None = refl
      go (Some f) = lookup_leading s.names f name

  pub found_standing : (path : Route) → found_node (standing s) path ≡ found_node s path
  found_standing path = ap (λ o. unwrap_or o 0) (find_standing path)

  step_standing : (name : List ℕ) (f : ℕ) → step (standing s) name f ≡ step s name f
  step_standing name f = ap (λ o. let r : Result ℕ TreeError = cond (not (is_folder (node s f))) (Err NotFolder) (cond (lacks 0o100 (node s f)) (Err Denied) (elim o [ None ↦ Err Missing | Some i ↦ Ok i ])) in r) (lookup_leading s.names f name)

  reached_standing : (path : Route) → reached_node (standing s) path ≡ reached_node s path
  reached_standing [] = refl
  reached_standing (name ∷ folder) = rw (reached_standing folder) (go (reached_node s folder))
    where
      go : (r : Result ℕ TreeError) → and_then (step (standing s) name) r ≡ and_then (step s name) r
      go (Ok f) = step_standing name f
      go (Err e) = refl

  last_standing : (name : List ℕ) (f : ℕ) → last_step (standing s) name f ≡ last_step s name f
  last_standing name f = ap (λ o. let r : Result Place TreeError = cond (not (is_folder (node s f))) (Err NotFolder) (cond (lacks 0o100 (node s f)) (Err Denied) (Ok (record { holder = Some f; there = o }))) in r) (lookup_leading s.names f name)

  pub walk_standing : (path : Route) → walk (standing s) path ≡ walk s path
  walk_standing [] = refl
  walk_standing (name ∷ folder) = rw (reached_standing folder) (go (reached_node s folder))
    where
      go : (r : Result ℕ TreeError) → and_then (last_step (standing s) name) r ≡ and_then (last_step s name) r
      go (Ok f) = last_standing name f
      go (Err e) = refl

  -- where the checks say the same, so do the walk and they
  checked : (path : Route) (here there : Place → Option TreeError) → ((p : Place) → here p ≡ there p) → after_walk (standing s) path here ≡ after_walk s path there
  checked path here there same = ap (λ (r : Result Place TreeError). let o : Option TreeError = elim r [ Err e ↦ Some e | Ok place ↦ here place ] in o) (walk_standing path) ∙ go (walk s path)
    where
      go : (r : Result Place TreeError) → (let o : Option TreeError = elim r [ Err e ↦ Some e | Ok place ↦ here place ] in o) ≡ (let o : Option TreeError = elim r [ Err e ↦ Some e | Ok place ↦ there place ] in o)
      go (Ok p) = same p
      go (Err e) = refl

pub same_bool : (a b : Bool) → (a ≡ true → b ≡ true) → (b ≡ true → a ≡ true) → a ≡ b
same_bool true true f g = refl
same_bool true false f g = sym (f refl)
same_bool false true f g = g refl
same_bool false false f g = refl

or_left : (a b : Bool) → a ≡ true → (a || b) ≡ true
or_left true b h = refl
or_left false b h = absurd (false≢true h)

or_right : (a b : Bool) → b ≡ true → (a || b) ≡ true
or_right true b h = refl
or_right false b h = h

or_parts : (a b : Bool) → (a || b) ≡ true → (a ≡ true) ⊎ (b ≡ true)
or_parts true b h = inl refl
or_parts false b h = inr h

neither : (a b : Bool) → (a || b) ≡ false → (a ≡ false) × (b ≡ false)
neither true b h = absurd (true≢false h)
neither false b h = (refl, h)

and_false : (a : Bool) → (a && false) ≡ false
and_false true = refl
and_false false = refl

-- which edits of a folder have names that lead to a node
module _ (names : List NameEdit) (f : ℕ) where
  abbrev holds : NameEdit → Bool
  holds e = (e.folder == f) && is_some (lookup names f e.name)

  held_name : (es : List NameEdit) (n : List ℕ) → is_some (lookup es f n) ≡ true → is_some (lookup names f n) ≡ true → list_any holds es ≡ true
  held_name [] n h leads = absurd (false≢true h)
  held_name (e ∷ es) n h leads = go (is_of f n e) refl h (held_name es n)
    where
      go : (b : Bool) → is_of f n e ≡ b → is_some (cond b e.to (lookup es f n)) ≡ true → (is_some (lookup es f n) ≡ true → is_some (lookup names f n) ≡ true → list_any holds es ≡ true) → (holds e || list_any holds es) ≡ true
      go true is h ih =
          let key = same_key f n e is in
          or_left (holds e) (list_any holds es) (and_from _ _ (and_parts _ _ is).0 (subst (λ m. is_some (lookup names f m) ≡ true) (sym key.1) leads))
      go false is h ih = or_right (holds e) (list_any holds es) (ih h leads)

  name_held : (es : List NameEdit) → list_any holds es ≡ true → (n : List ℕ) × (is_some (lookup names f n) ≡ true)
  name_held [] h = absurd (false≢true h)
  name_held (e ∷ es) h = elim (or_parts (holds e) (list_any holds es) h) [ inl here ↦ (e.name, (and_parts _ _ here).1) | inr later ↦ name_held es later ]

entries_standing : (s : FileSystem) (f : ℕ) → has_entries (standing s) f ≡ has_entries s f
entries_standing s f = same_bool (has_entries (standing s) f) (has_entries s f)
    (λ h. let n = name_held (leading s.names) f (leading s.names) h in
    let leads : is_some (lookup s.names f n.0) ≡ true = subst (λ o. is_some o ≡ true) (lookup_leading s.names f n.0) n.1 in
    held_name s.names f s.names n.0 leads leads)
    (λ h. let n = name_held s.names f s.names h in
    let leads : is_some (lookup (leading s.names) f n.0) ≡ true = subst (λ o. is_some o ≡ true) (sym (lookup_leading s.names f n.0)) n.1 in
    held_name (leading s.names) f (leading s.names) n.0 leads leads)

-- what is one name's is the other's
turn_key : (f g : ℕ) (n m : List ℕ) → ((f == g) && bytes_eq n m) ≡ true → ((g == f) && bytes_eq m n) ≡ true
turn_key f g n m h =
    let p = and_parts (f == g) (bytes_eq n m) h in
    and_from (g == f) (bytes_eq m n) (eq-eqb g f (sym (eqb-true f g p.0))) ((bytes_eq-Decides m n).1 (sym ((bytes_eq-Decides n m).0 p.1)))

-- the folder whose name leads to a node
module _ (names : List NameEdit) (i : ℕ) where
  abbrev hits : ℕ → List ℕ → Bool
  hits f n = (unwrap_or (lookup names f n) 0 == i) && is_some (lookup names f n)

  abbrev outside : (ℕ → List ℕ → Bool) → List NameEdit → List NameEdit
  outside dead [] = []
  outside dead (e ∷ es) = if dead e.folder e.name then outside dead es else e ∷ outside dead es

  abbrev or_key : (ℕ → List ℕ → Bool) → NameEdit → ℕ → List ℕ → Bool
  or_key dead e g m = dead g m || ((g == e.folder) && bytes_eq m e.name)

  outside_without : (dead : ℕ → List ℕ → Bool) (k : NameEdit) (es : List NameEdit) → outside dead (without_name k.folder k.name es) ≡ outside (or_key dead k) es
  outside_without dead k [] = refl
  outside_without dead k (e ∷ es) = go (dead e.folder e.name) refl (is_of k.folder k.name e) refl (outside_without dead k es)
    where
      go : (d : Bool) → dead e.folder e.name ≡ d → (b : Bool) → is_of k.folder k.name e ≡ b → outside dead (without_name k.folder k.name es) ≡ outside (or_key dead k) es
          → outside dead (cond b (without_name k.folder k.name es) (e ∷ without_name k.folder k.name es)) ≡ cond (d || b) (outside (or_key dead k) es) (e ∷ outside (or_key dead k) es)
      go true is true key ih = ih
      go true is false key ih = rw is ih
      go false is true key ih = ih
      go false is false key ih = rw is (ap (λ xs. e ∷ xs) ih)

  abbrev Misses : (ℕ → List ℕ → Bool) → Type 0
  Misses dead = (f : ℕ) (n : List ℕ) → dead f n ≡ true → hits f n ≡ false

  abbrev Rest : (ℕ → List ℕ → Bool) → List NameEdit → Type 0
  Rest dead es = (f : ℕ) (n : List ℕ) → dead f n ≡ false → lookup es f n ≡ None → hits f n ≡ false

  holder_outside : (es : List NameEdit) (dead : ℕ → List ℕ → Bool) → Misses dead → Rest dead es → holder_in names (outside dead (leading es)) i ≡ holder_in names es i
  holder_outside [] dead misses rest = refl
  holder_outside (e ∷ es) dead misses rest = go (hits e.folder e.name) refl (dead e.folder e.name) refl e.to refl (holder_outside es (or_key dead e))
    where
      next : List NameEdit
      next = without_name e.folder e.name (leading es)

      misses_more : hits e.folder e.name ≡ false → Misses (or_key dead e)
      misses_more miss f n h = elim (or_parts (dead f n) ((f == e.folder) && bytes_eq n e.name) h) [
        | inl old ↦ misses f n old
        | inr key ↦
            let p = and_parts (f == e.folder) (bytes_eq n e.name) key in
            subst (λ g. hits g n ≡ false) (sym (eqb-true f e.folder p.0)) (subst (λ m. hits e.folder m ≡ false) (sym ((bytes_eq-Decides n e.name).0 p.1)) miss)
      ]

      rest_more : Rest (or_key dead e) es
      rest_more f n h none =
          let p = neither (dead f n) ((f == e.folder) && bytes_eq n e.name) h in
          rest f n p.0 (other (is_of f n e) refl)
        where
          other : (b : Bool) → is_of f n e ≡ b → cond b e.to (lookup es f n) ≡ None
          other true is = absurd (true≢false (sym (turn_key e.folder f e.name n is) ∙ (neither (dead f n) ((f == e.folder) && bytes_eq n e.name) h).1))
          other false is = none

      go : (h : Bool) → hits e.folder e.name ≡ h → (d : Bool) → dead e.folder e.name ≡ d → (o : Option ℕ) → e.to ≡ o
          → (Misses (or_key dead e) → Rest (or_key dead e) es → holder_in names (outside (or_key dead e) (leading es)) i ≡ holder_in names es i)
          → holder_in names (outside dead (cond (is_some e.to) (e ∷ without_name e.folder e.name (leading es)) (without_name e.folder e.name (leading es)))) i ≡ cond h (Some e.folder) (holder_in names es i)
      go true hit true is o to ih = absurd (true≢false (sym hit ∙ misses e.folder e.name is))
      go true hit false is None to ih = absurd (true≢false (sym hit ∙ rest e.folder e.name is (rw (own_key e) to)))
      go true hit false is (Some j) to ih = rw to (rw is (rw hit refl))
      go false hit true is None to ih = rw to (rw (outside_without dead e (leading es)) (ih (misses_more hit) rest_more))
      go false hit true is (Some j) to ih = rw to (rw is (rw (outside_without dead e (leading es)) (ih (misses_more hit) rest_more)))
      go false hit false is None to ih = rw to (rw (outside_without dead e (leading es)) (ih (misses_more hit) rest_more))
      go false hit false is (Some j) to ih = rw to (rw is (rw hit (rw (outside_without dead e (leading es)) (ih (misses_more hit) rest_more))))

  outside_none : (es : List NameEdit) → outside (λ f n. false) es ≡ es
  outside_none [] = refl
  outside_none (e ∷ es) = ap (λ xs. e ∷ xs) (outside_none es)

  holder_leading : holder_in names (leading names) i ≡ holder_in names names i
  holder_leading =
      ap (λ es. holder_in names es i) (sym (outside_none (leading names)))
      ∙ holder_outside names (λ f n. false) (λ f n h. absurd (false≢true h)) (λ f n h none. rw none (and_false (0 == i)))

same_holder : (s : FileSystem) (es : List NameEdit) (i : ℕ) → holder_in (leading s.names) es i ≡ holder_in s.names es i
same_holder s [] i = refl
same_holder s (e ∷ es) i = rw (lookup_leading s.names e.folder e.name) (ap (λ o. if unwrap_or (lookup s.names e.folder e.name) 0 == i && is_some (lookup s.names e.folder e.name) then Some e.folder else o) (same_holder s es i))

holder_standing : (s : FileSystem) (i : ℕ) → holder_in (leading s.names) (leading s.names) i ≡ holder_in s.names s.names i
holder_standing s i = same_holder s (leading s.names) i ∙ holder_leading s.names i

lies_standing : (height : ℕ) (s : FileSystem) (mount i : ℕ) → lies_on height (standing s) mount i ≡ lies_on height s mount i
lies_standing zero s mount i = refl
lies_standing (suc height) s mount i = rw (holder_standing s i) (ap (λ b. if starts_mount s i then i == mount else b) (go (holder_in s.names s.names i) (lies_standing height s mount)))
  where
    go : (o : Option ℕ) → ((f : ℕ) → lies_on height (standing s) mount f ≡ lies_on height s mount f) → option_map_or (lies_on height (standing s) mount) o false ≡ option_map_or (lies_on height s mount) o false
    go None ih = refl
    go (Some f) ih = ih f

used_standing : (count : ℕ) (s : FileSystem) (mount : ℕ) → used_by count (standing s) mount ≡ used_by count s mount
used_standing zero s mount = refl
used_standing (suc i) s mount = rw (lies_standing (suc (length s.nodes)) s mount i) (ap (λ u. (if is_file (node s i) && lies_on (suc (length s.nodes)) s mount i then length (node s i).bytes else 0) + u) (used_standing i s mount))

pub mount_standing : (s : FileSystem) (path : Route) → mount_of (standing s) path ≡ mount_of s path
mount_standing s [] = refl
mount_standing s (name ∷ folder) = rw (find_standing s (name ∷ folder)) (rw (mount_standing s folder) (go (find s (name ∷ folder))))
  where
    go : (o : Option ℕ) → mount_here (standing s) o (mount_of s folder) ≡ mount_here s o (mount_of s folder)
    go None = refl
    go (Some i) = refl

empty_standing : (s : FileSystem) (p : Place) → is_empty (standing s) p ≡ is_empty s p
empty_standing s p = rw (entries_standing s (unwrap_or p.there (length s.nodes))) refl

room_standing : (s : FileSystem) (path : Route) (p : Place) (offset count : ℕ) → no_room (standing s) path p offset count ≡ no_room s path p offset count
room_standing s path p offset count = rw (mount_standing s path) (rw (used_standing (length s.nodes) s (mount_of s path)) refl)

same_mount_standing : (s : FileSystem) (from to : Route) → same_mount (standing s) from to ≡ same_mount s from to
same_mount_standing s from to = rw (mount_standing s (holder from)) (rw (mount_standing s (holder to)) refl)

rename_standing : (s : FileSystem) (from to : Route) (a b : Place) → rename_refusal (standing s) from to a b ≡ rename_refusal s from to a b
rename_standing s from to a b = rw (same_mount_standing s from to) (rw (empty_standing s b) refl)

pub refusal_standing : (s : FileSystem) (call : Call) → refusal_of (standing s) call ≡ refusal_of s call
refusal_standing s (Stat path) = checked s path _ _ (λ p. refl)
refusal_standing s (ListFolder path) = checked s path _ _ (λ p. refl)
refusal_standing s (ReadAt path offset count) = checked s path _ _ (λ p. refl)
refusal_standing s (ReadLink path) = checked s path _ _ (λ p. refl)
refusal_standing s (MakeFile path mode) = checked s path _ _ (λ p. refl)
refusal_standing s (WriteAt path offset bytes) = checked s path _ _ (λ p. rw (room_standing s path p offset (length bytes)) refl)
refusal_standing s (SetMode path mode) = checked s path _ _ (λ p. refl)
refusal_standing s (MakeFolder path mode) = checked s path _ _ (λ p. refl)
refusal_standing s (MakeLink path text) = checked s path _ _ (λ p. refl)
refusal_standing s (Rename from to) = checked s from _ _ (λ a. checked s to _ _ (λ b. rename_standing s from to a b))
refusal_standing s (RemoveFile path) = checked s path _ _ (λ p. refl)
refusal_standing s (RemoveFolder path) = checked s path _ _ (λ p. rw (empty_standing s p) refl)
refusal_standing s (SyncFile path) = checked s path _ _ (λ p. refl)
refusal_standing s (SyncFolder path) = checked s path _ _ (λ p. refl)

named_standing : (s : FileSystem) (path : Route) (change : ℕ → List ℕ → Change) → of_name (standing s) path change ≡ of_name s path change
named_standing s [] change = refl
named_standing s (name ∷ folder) change = ap (λ f. change f name) (found_standing s folder)

pub change_standing : (s : FileSystem) (call : Call) (time : ℤ) → change_of (standing s) call time ≡ change_of s call time
change_standing s (Stat path) time = refl
change_standing s (ListFolder path) time = refl
change_standing s (ReadAt path offset count) time = refl
change_standing s (ReadLink path) time = refl
change_standing s (MakeFile path mode) time = named_standing s path _
change_standing s (WriteAt path offset bytes) time = rw (found_standing s path) refl
change_standing s (SetMode path mode) time = rw (found_standing s path) refl
change_standing s (MakeFolder path mode) time = named_standing s path _
change_standing s (MakeLink path text) time = named_standing s path _
change_standing s (Rename from to) time = rw (found_standing s from) (rw (find_standing s to) (go (same_path from to)))
  where
    same : (from to : Route) → of_name (standing s) from (λ f old. of_name (standing s) to (λ g new. Moves f old g new (found_node s from) (find s to))) ≡ of_name s from (λ f old. of_name s to (λ g new. Moves f old g new (found_node s from) (find s to)))
    same from to = named_standing s from _ ∙ go2 from
      where
        go2 : (path : Route) → of_name s path (λ f old. of_name (standing s) to (λ g new. Moves f old g new (found_node s from) (find s to))) ≡ of_name s path (λ f old. of_name s to (λ g new. Moves f old g new (found_node s from) (find s to)))
        go2 [] = refl
        go2 (name ∷ up) = named_standing s to _

    go : (b : Bool) → cond b Nothing (of_name (standing s) from (λ f old. of_name (standing s) to (λ g new. Moves f old g new (found_node s from) (find s to)))) ≡ cond b Nothing (of_name s from (λ f old. of_name s to (λ g new. Moves f old g new (found_node s from) (find s to))))
    go true = refl
    go false = same from to
change_standing s (RemoveFile path) time = rw (found_standing s path) (named_standing s path _)
change_standing s (RemoveFolder path) time = rw (found_standing s path) (named_standing s path _)
change_standing s (SyncFile path) time = rw (found_standing s path) refl
change_standing s (SyncFolder path) time = rw (found_standing s path) refl

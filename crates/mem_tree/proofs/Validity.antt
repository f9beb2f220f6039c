-- A call that isn't refused makes a change that leaves each node fit, and of a tree a tree.
use Rattle.std.proofs.Common.{◌≡◌, ℕ, ℤ, ◌+◌, ◌-◌, ◌^◌, ◌≤◌, Bool, true, false, not, ◌&&◌, ◌||◌, List, [], ◌∷◌, ◌++◌, length, take, drop, refl, sym, ◌∙◌, ap, subst, Option, Some, None, Ok, Err, cond, arith, length-append, length-take, length-drop}
use Rattle.std.specs.Bool.{⊤}
use Rattle.std.specs.Prelude.{pos, unwrap_or, is_none, is_some, replicate, min}
use Rattle.std.proofs.lemmas.List.{length-replicate}
use Rattle.std.proofs.lemmas.Bool.{false≢true, true≢false}
use Rattle.mc_text.specs.Routes.{Route, same_path}
use Rattle.mc_text.specs.declared.kind.Kind.{Kind}
use Rattle.mc_text.specs.declared.kind.Kind.TheVariants.{File, Folder, Link, Other}
use Rattle.tree_trait.specs.declared.file_system.Node.{Node}
use Rattle.tree_trait.specs.declared.file_system.FileSystem.{FileSystem}
use Rattle.tree_trait.specs.declared.calls.TreeError.{TreeError}
use Rattle.tree_trait.specs.declared.calls.TreeError.TheVariants.{Missing, Exists, IsFolder, Special, NoSpace}
use Rattle.tree_trait.specs.Calls.{Call, Stat, ListFolder, ReadAt, ReadLink, MakeFile, WriteAt, SetMode, MakeFolder, MakeLink, Rename, RemoveFile, RemoveFolder, SyncFile, SyncFolder}
use Rattle.tree_trait.specs.FileSystem.{lookup, find, node}
use Rattle.tree_trait.specs.Refusals.{Place, walk, after_walk, first_of, is_file, is_folder, is_link, file_kind, folder_kind, link_kind, lacks, thing, folder_of, missing, exists, a_folder, a_special, denied_access, no_room, rename_refusal, refusal_of}
use Rattle.tree_trait.specs.Change.{Change, Nothing, Makes, Moves, Removes, Sets, Writes, Syncs, after_change, change_of, torn_write, of_name, found_node, overwritten_bytes}
use Rattle.tree_trait.specs.Shape.{IsTree}
use Rattle.tree_trait.proofs.Walking.{passed_walk, check_passes, some_there, ok_same, walk-find, last_place, IsLast}
use Rattle.tree_trait.proofs.Kept.{tree_made, tree_moved, tree_removed, tree_set}
use Rattle.mem_tree.specs.Sound.{FitsNode, IsLink, FitsChange}
use Rattle.mem_tree.proofs.Standing.{IsNew}

-- what the caller sees to
abbrev pub FitsCall : Call → Type 0
FitsCall (Stat path) = ⊤
FitsCall (ListFolder path) = ⊤
FitsCall (ReadAt path offset count) = ⊤
FitsCall (ReadLink path) = ⊤
FitsCall (MakeFile path mode) = mode ≤ 0o7777
FitsCall (WriteAt path offset bytes) = offset + length bytes ≤ 2 ^ 63
FitsCall (SetMode path mode) = mode ≤ 0o7777
FitsCall (MakeFolder path mode) = mode ≤ 0o7777
FitsCall (MakeLink path text) = IsLink text
FitsCall (Rename from to) = ⊤
FitsCall (RemoveFile path) = ⊤
FitsCall (RemoveFolder path) = ⊤
FitsCall (SyncFile path) = ⊤
FitsCall (SyncFolder path) = ⊤

pub record IsValid (s : FileSystem) (c : Change) : Type 0 where
  pub fits : FitsChange s c
  pub new : IsNew s c
  pub tree : IsTree s → IsTree (after_change s c)

valid_nothing : (s : FileSystem) → IsValid s Nothing
valid_nothing s = record { fits = tt; new = tt; tree = λ t. t }

is_false : (o : Option ℕ) → is_some o ≡ false → o ≡ None
is_false None h = refl
is_false (Some i) h = absurd (true≢false h)

-- a making in a folder where the name is new
valid_made : (s : FileSystem) (path : Route) (made : Node) (rest : Place → Option TreeError) → FitsNode made
    → after_walk s path (λ p. cond (is_some p.there) (Some Exists) (rest p)) ≡ None
    → IsValid s (of_name s path (λ f name. Makes f name made))
valid_made s [] made rest fits h = valid_nothing s
valid_made s (name ∷ up) made rest fits h =
    let w = passed_walk (walk s (name ∷ up)) (λ p. cond (is_some p.there) (Some Exists) (rest p)) h in
    let last = last_place s name up w.0 w.1 in
    let a = check_passes (is_some w.0.there) Exists (rest w.0) w.2 in
    record {
      fits = fits;
      new = sym last.there ∙ is_false w.0.there a.0;
      tree = λ t. tree_made s (found_node s up) name made t last.is_one;
    }

-- what a check of a thing that is there speaks of
there_is : (s : FileSystem) (path : Route) (p : Place) → walk s path ≡ Ok p → is_none p.there ≡ false → thing s p ≡ node s (found_node s path)
there_is s path p at h =
    let i = some_there p.there h in
    let same = walk-find s path p at in
    ap (λ o. node s (unwrap_or o (length s.nodes))) i.1 ∙ sym (ap (λ o. node s (unwrap_or o 0)) (same ∙ i.1))

not_link : (k : Kind) → folder_kind k ≡ false → (not (file_kind k) && not (folder_kind k)) ≡ false → link_kind k ≡ false
not_link File a b = refl
not_link Folder a b = refl
not_link Link a b = absurd (true≢false b)
not_link Other a b = refl

length_over : (old : List ℕ) (offset : ℕ) (bytes : List ℕ) → length old ≤ 2 ^ 63 → offset + length bytes ≤ 2 ^ 63 → length (overwritten_bytes old offset bytes) ≤ 2 ^ 63
length_over old offset bytes a b =
    let prefix = take offset (old ++ replicate (offset - length old) 0) in
    let back = drop (offset + length bytes) old in
    let e1 : length (prefix ++ bytes ++ back) ≡ length (prefix ++ bytes) + length back = length-append (prefix ++ bytes) back in
    let e2 : length (prefix ++ bytes) ≡ length prefix + length bytes = length-append prefix bytes in
    let e3 : length prefix ≡ min offset (length (old ++ replicate (offset - length old) 0)) = length-take offset (old ++ replicate (offset - length old) 0) in
    let e4 : length back ≡ length old - (offset + length bytes) = length-drop (offset + length bytes) old in
    omega (arith, e1, e2, e3, e4, a, b)

-- a write to what is a file
valid_write : (s : FileSystem) (path : Route) (offset : ℕ) (bytes : List ℕ) (new : List ℕ) (mtime : ℤ) → length new ≤ 2 ^ 63 → refusal_of s (WriteAt path offset bytes) ≡ None
    → IsValid s (Writes (found_node s path) new mtime)
valid_write s path offset bytes new mtime short h =
    let w = passed_walk (walk s path) (λ p. first_of (missing p ∷ a_folder s p ∷ a_special s p ∷ denied_access 0o200 (thing s p) ∷ (no_room s path p offset (length bytes), NoSpace) ∷ [])) h in
    let a = check_passes (is_none w.0.there) Missing _ w.2 in
    let b = check_passes (is_folder (thing s w.0)) IsFolder _ a.1 in
    let c = check_passes (not (is_file (thing s w.0)) && not (is_folder (thing s w.0))) Special _ b.1 in
    let link : is_link (thing s w.0) ≡ false = not_link (thing s w.0).kind b.0 c.0 in
    record {
      fits = (short, subst (λ (n : Node). is_link n ≡ false) (there_is s path w.0 w.1 a.0) link);
      new = tt;
      tree = λ t. tree_set s (found_node s path) (record (node s (found_node s path)) { bytes = new; mtime = mtime }) t refl;
    }

valid_removed : (s : FileSystem) (path : Route) (i : ℕ) → IsValid s (of_name s path (λ f name. Removes f name i))
valid_removed s [] i = valid_nothing s
valid_removed s (name ∷ up) i = record { fits = tt; new = tt; tree = tree_removed s (found_node s up) name i }

-- a move of what is there into a folder
valid_moved : (s : FileSystem) (from to : Route) → refusal_of s (Rename from to) ≡ None
    → IsValid s (of_name s from (λ f old. of_name s to (λ g new. Moves f old g new (found_node s from) (find s to))))
valid_moved s [] to h = valid_nothing s
valid_moved s (old ∷ up) [] h = valid_nothing s
valid_moved s (old ∷ up) (new ∷ over) h =
    let from : Route = old ∷ up in
    let to : Route = new ∷ over in
    let w = passed_walk (walk s from) (λ a. after_walk s to (λ b. rename_refusal s from to a b)) h in
    let v = passed_walk (walk s to) (λ b. rename_refusal s from to w.0 b) w.2 in
    let a = check_passes (is_none w.0.there) Missing _ v.2 in
    let i = some_there w.0.there a.0 in
    let first = last_place s old up w.0 w.1 in
    let last = last_place s new over v.0 v.1 in
    let is : found_node s from ≡ i.0 = ap (λ o. unwrap_or o 0) (walk-find s from w.0 w.1 ∙ i.1) in
    record {
      fits = tt;
      new = tt;
      tree = λ t. tree_moved s (found_node s up) old (found_node s over) new (found_node s from) (find s to) t (sym first.there ∙ i.1 ∙ ap (λ k. Some k) (sym is)) last.is_one;
    }

pub valid_call : (s : FileSystem) (call : Call) (time : ℤ) → ((i : ℕ) → FitsNode (node s i)) → FitsCall call → refusal_of s call ≡ None → IsValid s (change_of s call time)
valid_call s (Stat path) time sound fits h = valid_nothing s
valid_call s (ListFolder path) time sound fits h = valid_nothing s
valid_call s (ReadAt path offset count) time sound fits h = valid_nothing s
valid_call s (ReadLink path) time sound fits h = valid_nothing s
valid_call s (MakeFile path mode) time sound fits h = valid_made s path _ (λ p. first_of (denied_access 0o200 (folder_of s p) ∷ [])) (record { mode = fits; size = omega arith; link = λ h. absurd (false≢true h) }) h
valid_call s (WriteAt path offset bytes) time sound fits h = valid_write s path offset bytes _ time (length_over (node s (found_node s path)).bytes offset bytes (sound (found_node s path)).size fits) h
valid_call s (SetMode path mode) time sound fits h = record { fits = fits; new = tt; tree = λ t. tree_set s (found_node s path) (record (node s (found_node s path)) { mode = mode }) t refl }
valid_call s (MakeFolder path mode) time sound fits h = valid_made s path _ (λ p. first_of (denied_access 0o200 (folder_of s p) ∷ [])) (record { mode = fits; size = omega arith; link = λ h. absurd (false≢true h) }) h
valid_call s (MakeLink path text) time sound fits h = valid_made s path _ (λ p. first_of (denied_access 0o200 (folder_of s p) ∷ [])) (record { mode = omega arith; size = (let short = fits.says.short in omega (arith, short)); link = λ h. fits }) h
valid_call s (Rename from to) time sound fits h = go (same_path from to) (valid_moved s from to h)
  where
    go : (b : Bool) → IsValid s (of_name s from (λ f old. of_name s to (λ g new. Moves f old g new (found_node s from) (find s to)))) → IsValid s (cond b Nothing (of_name s from (λ f old. of_name s to (λ g new. Moves f old g new (found_node s from) (find s to)))))
    go true v = valid_nothing s
    go false v = v
valid_call s (RemoveFile path) time sound fits h = valid_removed s path (found_node s path)
valid_call s (RemoveFolder path) time sound fits h = valid_removed s path (found_node s path)
valid_call s (SyncFile path) time sound fits h = record { fits = tt; new = tt; tree = λ t. t }
valid_call s (SyncFolder path) time sound fits h = record { fits = tt; new = tt; tree = λ t. t }

pub valid_torn : (s : FileSystem) (call : Call) → refusal_of s call ≡ None → IsValid s (torn_write s call [])
valid_torn s (WriteAt path offset bytes) h = valid_write s path offset bytes [] (pos 0) (omega arith) h
valid_torn s (Stat path) h = valid_nothing s
valid_torn s (ListFolder path) h = valid_nothing s
valid_torn s (ReadAt path offset count) h = valid_nothing s
valid_torn s (ReadLink path) h = valid_nothing s
valid_torn s (MakeFile path mode) h = valid_nothing s
valid_torn s (SetMode path mode) h = valid_nothing s
valid_torn s (MakeFolder path mode) h = valid_nothing s
valid_torn s (MakeLink path text) h = valid_nothing s
valid_torn s (Rename from to) h = valid_nothing s
valid_torn s (RemoveFile path) h = valid_nothing s
valid_torn s (RemoveFolder path) h = valid_nothing s
valid_torn s (SyncFile path) h = valid_nothing s
valid_torn s (SyncFolder path) h = valid_nothing s

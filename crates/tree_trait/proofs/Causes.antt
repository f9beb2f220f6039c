-- No check of a call is a fault or want of memory.
use Rattle.std.proofs.Common.{◌≡◌, ℕ, Bool, true, false, not, List, [], ◌∷◌, subst, Option, Some, None, Result, Ok, Err, cond, arith}
use Rattle.std.specs.Bool.{⊤}
use Rattle.tree_trait.specs.declared.file_system.FileSystem.{FileSystem}
use Rattle.tree_trait.specs.declared.calls.TreeError.{TreeError}
use Rattle.tree_trait.specs.declared.calls.TreeError.TheVariants.{Missing, NotFolder, Denied, IsFolder, NotEmpty, IntoItself, Mounted, CrossMount, NoSpace, Special, Fault, Memory}
use Rattle.tree_trait.specs.Calls.{Call, Stat, ListFolder, ReadAt, ReadLink, MakeFile, WriteAt, SetMode, MakeFolder, MakeLink, Rename, RemoveFile, RemoveFolder, SyncFile, SyncFolder}
use Rattle.mc_text.specs.Routes.{Route, same_path, is_prefix}
use Rattle.tree_trait.specs.FileSystem.{lookup, node}
use Rattle.std.specs.Prelude.{is_none, is_some, ◌||◌, ◌&&◌, if◌then◌else◌, length}
use Rattle.tree_trait.specs.Refusals.{is_folder, is_link, lacks, step, and_then, reached_node, Place, last_step, walk, after_walk, first_of, thing, folder_of, is_empty, is_mount, no_room, same_mount, missing, exists, a_folder, no_folder, a_special, denied_access, rename_refusal, refusal_of}
use Rattle.tree_trait.specs.Answers.{IsCause, Reads, HasCause}
use Rattle.tree_trait.specs.Change.{CallLog, current}

-- the error of a refusal, if there is one, is a cause
abbrev pub Blames : {A : Type 0} → Result A TreeError → Type 0
Blames (Ok x) = ⊤
Blames (Err e) = IsCause e

abbrev pub Names : Option TreeError → Type 0
Names None = ⊤
Names (Some e) = IsCause e

cond_blames : (A : Type 0) (b : Bool) (e : TreeError) (rest : Result A TreeError) → IsCause e → Blames rest → Blames (cond b (Err e) rest)
cond_blames A true e rest c h = c
cond_blames A false e rest c h = h

two_blame : (A : Type 0) (a b : Bool) (rest : Result A TreeError) → Blames rest → Blames (cond a (Err NotFolder) (cond b (Err Denied) rest))
two_blame A a b rest h = cond_blames A a NotFolder (cond b (Err Denied) rest) tt (cond_blames A b Denied rest tt h)

entry_blames : (o : Option ℕ) → Blames (let r : Result ℕ TreeError = elim o [ None ↦ Err Missing | Some i ↦ Ok i ] in r)
entry_blames None = tt
entry_blames (Some i) = tt

step_blames : (s : FileSystem) (name : List ℕ) (f : ℕ) → Blames (step s name f)
step_blames s name f = two_blame ℕ (not (is_folder (node s f))) (lacks 0o100 (node s f)) (let r : Result ℕ TreeError = elim (lookup s.names f name) [ None ↦ Err Missing | Some i ↦ Ok i ] in r) (entry_blames (lookup s.names f name))

last_blames : (s : FileSystem) (name : List ℕ) (f : ℕ) → Blames (last_step s name f)
last_blames s name f = two_blame Place (not (is_folder (node s f))) (lacks 0o100 (node s f)) (Ok (record { holder = Some f; there = lookup s.names f name })) tt

then_blames : (A B : Type 0) (next : A → Result B TreeError) (r : Result A TreeError) → ((x : A) → Blames (next x)) → Blames r → Blames (and_then next r)
then_blames A B next (Ok x) f h = f x
then_blames A B next (Err e) f h = h

pub reached_blames : (s : FileSystem) (path : Route) → Blames (reached_node s path)
reached_blames s [] = tt
reached_blames s (name ∷ folder) = then_blames ℕ ℕ (step s name) (reached_node s folder) (step_blames s name) (reached_blames s folder)

pub walk_blames : (s : FileSystem) (path : Route) → Blames (walk s path)
walk_blames s [] = tt
walk_blames s (name ∷ folder) = then_blames ℕ Place (last_step s name) (reached_node s folder) (last_blames s name) (reached_blames s folder)

after_names : (r : Result Place TreeError) (checks : Place → Option TreeError) → ((p : Place) → Names (checks p)) → Blames r
    → Names (let o : Option TreeError = elim r [ Err e ↦ Some e | Ok place ↦ checks place ] in o)
after_names (Ok p) checks f h = f p
after_names (Err e) checks f h = h

-- each error of these checks is a cause
abbrev pub AllCauses : List (Bool × TreeError) → Type 0
AllCauses [] = ⊤
AllCauses (check ∷ checks) = IsCause check.1 × AllCauses checks

pick : (b : Bool) (e : TreeError) (rest : Option TreeError) → IsCause e → Names rest → Names (cond b (Some e) rest)
pick true e rest c h = c
pick false e rest c h = h

pub first_names : (checks : List (Bool × TreeError)) → AllCauses checks → Names (first_of checks)
first_names [] h = tt
first_names (check ∷ checks) h = pick check.0 check.1 (first_of checks) h.0 (first_names checks h.1)

cond_causes : (b : Bool) (xs ys : List (Bool × TreeError)) → AllCauses xs → AllCauses ys → AllCauses (cond b xs ys)
cond_causes true xs ys a b = a
cond_causes false xs ys a b = b

listed : (s : FileSystem) (path : Route) (checks : Place → List (Bool × TreeError)) → ((p : Place) → AllCauses (checks p)) → Names (after_walk s path (λ p. first_of (checks p)))
listed s path checks h = after_names (walk s path) (λ p. first_of (checks p)) (λ p. first_names (checks p) (h p)) (walk_blames s path)

rename_names : (s : FileSystem) (from to : Route) (a b : Place) → Names (rename_refusal s from to a b)
rename_names s from to a b =
    pick (is_none a.there) Missing (first_of rest) tt (first_names rest (tt, cond_causes (same_path from to) [] more tt (tt, (tt, (tt, (tt, (tt, (tt, tt))))))))
  where
    more : List (Bool × TreeError)
    more = (is_prefix from to, IntoItself) ∷ (not (same_mount s from to), CrossMount) ∷ (lacks 0o200 (folder_of s a) || lacks 0o200 (folder_of s b), Denied) ∷ (is_folder (thing s b) && not (is_folder (thing s a)), IsFolder) ∷ (is_some b.there && (is_folder (thing s a) && not (is_folder (thing s b))), NotFolder) ∷ (is_folder (thing s b) && not (is_empty s b), NotEmpty) ∷ []

    rest : List (Bool × TreeError)
    rest = (is_mount s a || is_mount s b, Mounted) ∷ (if same_path from to then [] else more)

pub refusal_names : (s : FileSystem) (call : Call) → Names (refusal_of s call)
refusal_names s (Stat path) = listed s path (λ p. missing p ∷ []) (λ p. (tt, tt))
refusal_names s (ListFolder path) = listed s path (λ p. missing p ∷ no_folder s p ∷ denied_access 0o400 (thing s p) ∷ []) (λ p. (tt, (tt, (tt, tt))))
refusal_names s (ReadAt path offset count) = listed s path (λ p. missing p ∷ a_folder s p ∷ a_special s p ∷ denied_access 0o400 (thing s p) ∷ []) (λ p. (tt, (tt, (tt, (tt, tt)))))
refusal_names s (ReadLink path) = listed s path (λ p. missing p ∷ (not (is_link (thing s p)), Special) ∷ []) (λ p. (tt, (tt, tt)))
refusal_names s (MakeFile path mode) = listed s path (λ p. exists p ∷ denied_access 0o200 (folder_of s p) ∷ []) (λ p. (tt, (tt, tt)))
refusal_names s (WriteAt path offset bytes) = listed s path (λ p. missing p ∷ a_folder s p ∷ a_special s p ∷ denied_access 0o200 (thing s p) ∷ (no_room s path p offset (length bytes), NoSpace) ∷ []) (λ p. (tt, (tt, (tt, (tt, (tt, tt))))))
refusal_names s (SetMode path mode) = listed s path (λ p. missing p ∷ a_special s p ∷ []) (λ p. (tt, (tt, tt)))
refusal_names s (MakeFolder path mode) = listed s path (λ p. exists p ∷ denied_access 0o200 (folder_of s p) ∷ []) (λ p. (tt, (tt, tt)))
refusal_names s (MakeLink path text) = listed s path (λ p. exists p ∷ denied_access 0o200 (folder_of s p) ∷ []) (λ p. (tt, (tt, tt)))
refusal_names s (Rename from to) =
    after_names (walk s from) (λ a. after_walk s to (λ b. rename_refusal s from to a b)) (λ a. after_names (walk s to) (λ b. rename_refusal s from to a b) (λ b. rename_names s from to a b) (walk_blames s to)) (walk_blames s from)
refusal_names s (RemoveFile path) = listed s path (λ p. missing p ∷ a_folder s p ∷ denied_access 0o200 (folder_of s p) ∷ []) (λ p. (tt, (tt, (tt, tt))))
refusal_names s (RemoveFolder path) = listed s path (λ p. missing p ∷ no_folder s p ∷ (is_mount s p, Mounted) ∷ (not (is_empty s p), NotEmpty) ∷ denied_access 0o200 (folder_of s p) ∷ []) (λ p. (tt, (tt, (tt, (tt, (tt, tt))))))
refusal_names s (SyncFile path) = listed s path (λ p. missing p ∷ a_folder s p ∷ a_special s p ∷ []) (λ p. (tt, (tt, (tt, tt))))
refusal_names s (SyncFolder path) = listed s path (λ p. missing p ∷ no_folder s p ∷ []) (λ p. (tt, (tt, tt)))

pub refusal_of-cause : (s : FileSystem) (call : Call) (e : TreeError) → refusal_of s call ≡ Some e → IsCause e
refusal_of-cause s call e h = subst Names h (refusal_names s call)

-- a refusal of a reading call
pub Reads-err : (A : Type 0) (t : CallLog) (call : Call) (P : A → Type 0) (e : TreeError) → refusal_of (current t) call ≡ Some e → Reads {A = A} t call (Err e) P
Reads-err A t call P Fault h = absurd (refusal_of-cause (current t) call Fault h)
Reads-err A t call P Memory h = absurd (refusal_of-cause (current t) call Memory h)
Reads-err A t call P e h = h

pub err_same : (T : Type 0) (x y : TreeError) → (let r : Result T TreeError = Err x in r) ≡ Err y → x ≡ y
err_same T x y h = cc

-- a refusal needs no fault
pub HasCause-err : (T : Type 0) (n : ℕ) (e : TreeError) → IsCause e → HasCause {T = T} Fault n n (Err e)
HasCause-err T n e cause = record { later = omega arith; risen = λ is. absurd (subst IsCause (err_same T e Fault is) cause) }

-- where the walk is refused, so is the call
pub walk_refuses : (s : FileSystem) (path : Route) (e : TreeError) (checks : Place → Option TreeError) → walk s path ≡ Err e → after_walk s path checks ≡ Some e
walk_refuses s path e checks h = stops (walk s path) h
  where
    stops : (r : Result Place TreeError) → r ≡ Err e → (let o : Option TreeError = elim r [ Err e ↦ Some e | Ok place ↦ checks place ] in o) ≡ Some e
    stops (Ok p) h = cc
    stops (Err d) h = cc

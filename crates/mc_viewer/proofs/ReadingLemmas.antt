-- What a tree that is known says of a file that is viewed.
use Rattle.std.proofs.Common.{◌≡◌, ℕ, ◌≤◌, Bool, true, false, is_none, List, [], ◌∷◌, ◌++◌, length, take, drop, min, Option, Some, None, Result, Ok, Err, refl, sym, ap, ◌∙◌, arith, ⊎_elim, subst, length-drop, IfErr, IsErrAnd}
use Rattle.std.proofs.lemmas.Bool.{cases_Bool, cond-true, cond-false}
use Rattle.std.proofs.lemmas.List.{take_min, take_all, take-append-le, drop_all}
use Rattle.mc_text.specs.Routes.{Route}
use Rattle.tree_trait.specs.declared.file_system.FileSystem.{FileSystem}
use Rattle.tree_trait.specs.declared.calls.TreeError.{TreeError}
use Rattle.tree_trait.specs.declared.calls.TreeError.TheVariants as tree
use Rattle.tree_trait.specs.Calls.{Stat, ReadAt}
use Rattle.tree_trait.specs.FileSystem.{node}
use Rattle.tree_trait.specs.Change.{CallLog, current, found_node}
use Rattle.tree_trait.specs.Refusals.{refusal_of, walk, first_of, Place, missing, a_folder, a_special, denied_access, thing}
use Rattle.tree_trait.specs.Answers.{Reads, IsRead}
use Rattle.mc_viewer.specs.declared.subject.Subject.{Subject}
use Rattle.mc_viewer.specs.declared.subject.Subject.TheVariants.{File, Output}
use Rattle.mc_viewer.specs.declared.error.ViewError.{ViewError}
use Rattle.mc_viewer.specs.Viewing.{held_bytes, refused_with, IsReadable, IsRefused, AsTheTreeSays}

-- the log of a tree that is known, and what it holds at a path
pub record Known (contents : Option CallLog) (path : Route) (bytes : List ℕ) : Type 0 where
  pub log : CallLog
  pub is : contents ≡ Some log
  pub holds : bytes ≡ (node (current log) (found_node (current log) path)).bytes

pub known-file : (contents : Option CallLog) (path : Route) (bytes : List ℕ) → held_bytes contents (File path) ≡ Some bytes → Known contents path bytes
unfolding held_bytes
known-file None path bytes is = absurd (cc)
known-file (Some log) path bytes is = record { log = log; is = refl; holds = cc }

-- bytes that were written over as many others
pub written-over : (len : ℕ) (into items : List ℕ) → length into ≡ len → length items ≤ length into
    → take len (into ++ drop (length into) items) ≡ into
written-over len into items same few =
    ap (λ (l : List ℕ). take len (into ++ l)) (drop_all (length into) items few)
    ∙ take-append-le len into [] (omega arith) ∙ take_all len into (omega arith)

-- a read gives what is asked for, as far as there is any
pub read-is : (bytes : List ℕ) (at count : ℕ) (room into : List ℕ) (read : ℕ) → length room ≡ count → IsRead bytes at room into read
    → take read into ≡ take count (drop at bytes)
read-is bytes at count room into read len is =
    let few : read ≡ min count (length (drop at bytes)) = omega (arith, is.count_is, length-drop at bytes) in
    is.read ∙ ap (λ n. take n (drop at bytes)) few ∙ take_min count (drop at bytes)

-- a refusal of a read is the one that the tree gives
pub refused-read : (log : CallLog) (path : Route) (at count : ℕ) (e : TreeError) (P : ℕ → Type 0)
    → Reads {A = ℕ} log (ReadAt path at count) (Err e) P → AsTheTreeSays log (File path) (refused_with e)
unfolding IsRefused
refused-read log path at count tree.Missing P h = h
refused-read log path at count tree.NotFolder P h = h
refused-read log path at count tree.Denied P h = h
refused-read log path at count tree.Exists P h = h
refused-read log path at count tree.IsFolder P h = h
refused-read log path at count tree.NotEmpty P h = h
refused-read log path at count tree.IntoItself P h = h
refused-read log path at count tree.Mounted P h = h
refused-read log path at count tree.CrossMount P h = h
refused-read log path at count tree.NoSpace P h = h
refused-read log path at count tree.Special P h = h
refused-read log path at count tree.Fault P h = tt
refused-read log path at count tree.Memory P h = tt

-- a file that was read can be read
pub readable-file : (log : CallLog) (path : Route) → refusal_of (current log) (ReadAt path 0 0) ≡ None → IsReadable log (File path)
unfolding IsReadable
readable-file log path is = is

-- an output can be read
pub readable-output : (log : CallLog) (subject : Subject) (out : List ℕ) → subject ≡ Output out → IsReadable log subject
unfolding IsReadable
readable-output log subject out is = subst (IsReadable log) (sym is) tt

-- a path that can't be looked at can't be read
stat_then_read : (s : FileSystem) (path : Route) (e : TreeError) → refusal_of s (Stat path) ≡ Some e → refusal_of s (ReadAt path 0 0) ≡ Some e
stat_then_read s path e is = go (walk s path) (λ p. a_folder s p ∷ a_special s p ∷ denied_access 0o400 (thing s p) ∷ []) is
  where
    go : (r : Result Place TreeError) (more : Place → List (Bool × TreeError))
        → elim r [ Err f ↦ Some f | Ok place ↦ first_of (missing place ∷ []) ] ≡ Some e
        → elim r [ Err f ↦ Some f | Ok place ↦ first_of (missing place ∷ more place) ] ≡ Some e
    go (Err f) more h = h
    go (Ok place) more h =
        ⊎_elim (λ (gone : is_none place.there ≡ true). cond-true _ _ _ gone ∙ sym (cond-true _ _ _ gone) ∙ h)
        (λ (there : is_none place.there ≡ false). absurd (let none = sym (cond-false _ _ _ there) ∙ h in cc)) (cases_Bool (is_none place.there))

pub refused-stat : (log : CallLog) (path : Route) (A : Type 0) (e : TreeError) (P : A → Type 0)
    → Reads {A = A} log (Stat path) (Err e) P → AsTheTreeSays log (File path) (refused_with e)
unfolding IsRefused
refused-stat log path A tree.Missing P h = stat_then_read (current log) path tree.Missing h
refused-stat log path A tree.NotFolder P h = stat_then_read (current log) path tree.NotFolder h
refused-stat log path A tree.Denied P h = stat_then_read (current log) path tree.Denied h
refused-stat log path A tree.Exists P h = stat_then_read (current log) path tree.Exists h
refused-stat log path A tree.IsFolder P h = stat_then_read (current log) path tree.IsFolder h
refused-stat log path A tree.NotEmpty P h = stat_then_read (current log) path tree.NotEmpty h
refused-stat log path A tree.IntoItself P h = stat_then_read (current log) path tree.IntoItself h
refused-stat log path A tree.Mounted P h = stat_then_read (current log) path tree.Mounted h
refused-stat log path A tree.CrossMount P h = stat_then_read (current log) path tree.CrossMount h
refused-stat log path A tree.NoSpace P h = stat_then_read (current log) path tree.NoSpace h
refused-stat log path A tree.Special P h = stat_then_read (current log) path tree.Special h
refused-stat log path A tree.Fault P h = tt
refused-stat log path A tree.Memory P h = tt

-- the error that a function gives on
pub refused-said : {A : Type 0} (log : CallLog) (path : Route) (e : TreeError) (r : Result A ViewError)
    → IsErrAnd r (λ error. error ≡ refused_with e) → AsTheTreeSays log (File path) (refused_with e) → IfErr r (AsTheTreeSays log (File path))
refused-said log path e (Ok x) is h = tt
refused-said log path e (Err error) is h = subst (AsTheTreeSays log (File path)) (sym is) h

-- an output is what is held
pub held-output : (contents : Option CallLog) (subject : Subject) (out bytes : List ℕ) → subject ≡ Output out → held_bytes contents subject ≡ Some bytes → out ≡ bytes
unfolding held_bytes
held-output contents subject out bytes is known =
    let e : held_bytes contents (Output out) ≡ Some bytes = ap (held_bytes contents) (sym is) ∙ known in cc

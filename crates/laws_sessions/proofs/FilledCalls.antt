-- The calls that a job makes in the folders that it fills: whatever they are answered, these stay such folders.
use Rattle.std.proofs.Common.{◌≡◌, ℕ, false, List, [], ◌∷◌, refl, sym, ◌∙◌, ap, subst, Some, None, Result, Ok, Err, cond}
use Rattle.std.specs.Prelude.{⊤, option_and_then, unwrap_or}
use Rattle.std.proofs.lemmas.Bool.{false_from_ne_true}
use Rattle.mc_text.specs.Routes.{Route, same_path}
use Rattle.tree_trait.specs.declared.calls.TreeError.{TreeError}
use Rattle.tree_trait.specs.declared.calls.TreeError.TheVariants.{Fault, Memory}
use Rattle.tree_trait.specs.declared.file_system.FileSystem.{FileSystem}
use Rattle.tree_trait.specs.Answers.{Performs}
use Rattle.tree_trait.specs.Calls.{Call, Stat, ListFolder, ReadAt, ReadLink, MakeFile, WriteAt, SetMode, MakeFolder, MakeLink, Rename, RemoveFile, RemoveFolder, SyncFile, SyncFolder}
use Rattle.tree_trait.specs.Change.{Change, Makes, Moves, Nothing, Removes, CallLog, change_of, current, found_node, of_name, torn_write, with_change}
use Rattle.tree_trait.specs.CrashImages.{Among, says}
use Rattle.tree_trait.specs.FileSystem.{find, lookup, node}
use Rattle.tree_trait.specs.Refusals.{after_walk, is_folder, refusal_of, rename_refusal, walk}
use Rattle.tree_trait.specs.Shape.{IsRemovable, IsTree}
use Rattle.tree_trait.proofs.Visible.{same_path-true}
use Rattle.tree_trait.proofs.Walking.{last_place, passed_walk, removable}
use Rattle.job_reports.proofs.CallAnswers.{IsDoneCall, done_call, some_log}
use Rattle.job_reports.proofs.PermittedCalls.{making_passes}
use Rattle.laws_sessions.proofs.Untouched.{IsBare}
use Rattle.laws_sessions.proofs.FilledFolders.{IsFilling, IsOff, filling_made, filling_placed, filling_quiet, filling_removed}

-- the path is none of what is yet to be met in this folder
abbrev pub IsNoneOf : Route → List (List ℕ) → Route → Type 0
IsNoneOf up coming path = (k : List ℕ) → path ≡ k ∷ up → Among coming k → ⊥

-- a part, which is no folder, is placed beside itself, where no folder stands
pub record PlacesBeside (s : FileSystem) (up : Route) (coming : List (List ℕ)) (from to : Route) : Type 0 where
  pub folder : Route
  pub part : List ℕ
  pub target : List ℕ
  pub i : ℕ
  pub from_is : from ≡ part ∷ folder
  pub to_is : to ≡ target ∷ folder
  pub apart : part ≡ target → ⊥
  pub leads : find s (part ∷ folder) ≡ Some i
  pub file : is_folder (node s i) ≡ false
  pub bare : IsBare s (target ∷ folder)
  pub part_off : IsNoneOf up coming from
  pub target_off : IsNoneOf up coming to

-- What a call may change, as long as it is none of what is yet to be met in this folder. Folders aren't removed.
abbrev pub MayFill : FileSystem → Route → List (List ℕ) → Call → Type 0
MayFill s up coming (MakeFile path mode) = IsNoneOf up coming path
MayFill s up coming (MakeFolder path mode) = IsNoneOf up coming path
MayFill s up coming (MakeLink path text) = IsNoneOf up coming path
MayFill s up coming (RemoveFile path) = IsNoneOf up coming path
MayFill s up coming (Rename from to) = PlacesBeside s up coming from to
MayFill s up coming (WriteAt path offset bytes) = ⊤
MayFill s up coming (SetMode path mode) = ⊤
MayFill s up coming (SyncFile path) = ⊤
MayFill s up coming (SyncFolder path) = ⊤
MayFill s up coming (RemoveFolder path) = ⊥
MayFill s up coming (Stat path) = ⊤
MayFill s up coming (ListFolder path) = ⊤
MayFill s up coming (ReadAt path offset count) = ⊤
MayFill s up coming (ReadLink path) = ⊤

-- what a fault leaves names nothing
torn_names : (s : FileSystem) (call : Call) (left : List ℕ) (n g : ℕ) (m : List ℕ) → says (torn_write s call left) n g m ≡ None
torn_names s (Stat path) left n g m = refl
torn_names s (ListFolder path) left n g m = refl
torn_names s (ReadAt path offset count) left n g m = refl
torn_names s (ReadLink path) left n g m = refl
torn_names s (MakeFile path mode) left n g m = refl
torn_names s (WriteAt path offset bytes) left n g m = refl
torn_names s (SetMode path mode) left n g m = refl
torn_names s (MakeFolder path mode) left n g m = refl
torn_names s (MakeLink path text) left n g m = refl
torn_names s (Rename from to) left n g m = refl
torn_names s (RemoveFile path) left n g m = refl
torn_names s (RemoveFolder path) left n g m = refl
torn_names s (SyncFile path) left n g m = refl
torn_names s (SyncFolder path) left n g m = refl

off_of : (q up : Route) (k : List ℕ) (coming : List (List ℕ)) (path : Route) → path ≡ k ∷ q → IsNoneOf up coming path → IsOff q k up coming
off_of q up k coming path is off same among = off k (is ∙ ap (λ (r : Route). k ∷ r) same) among

other_path : (part target : List ℕ) (q : Route) → (part ≡ target → ⊥) → same_path (part ∷ q) (target ∷ q) ≡ false
other_path part target q apart = false_from_ne_true _ (λ h. let e : (part ∷ q) ≡ target ∷ q = same_path-true (part ∷ q) (target ∷ q) h in apart cc)

module _ (log now : CallLog) (tree : IsTree (current log)) (up : Route) (coming : List (List ℕ)) (filling : IsFilling log up coming) where
  -- the log has a change more that names nothing
  quiet_after : (c : Change) → ((n g : ℕ) (m : List ℕ) → says c n g m ≡ None) → now ≡ with_change log c → IsFilling now up coming
  quiet_after c none is = subst (λ (l : CallLog). IsFilling l up coming) (sym is) (filling_quiet log c tree none up coming filling)

  -- a call that was refused
  pub filling_refused : (call : Call) (e : TreeError) → Performs {A = Unit {0}} log call (Err e) (Some now) → IsFilling now up coming
  filling_refused call Fault h = quiet_after (torn_write (current log) call h.1.0) (torn_names (current log) call h.1.0) (some_log now _ h.1.1)
  filling_refused call Memory h = subst (λ (l : CallLog). IsFilling l up coming) (sym (some_log now log h)) filling
  filling_refused call e h = quiet_after Nothing (λ n g m. refl) (some_log now _ h.1)

  made_in : (path : Route) (mode : ℕ) (made : _) → refusal_of (current log) (MakeFile path mode) ≡ None
      → now ≡ with_change log (of_name (current log) path (λ f name. Makes f name made)) → IsNoneOf up coming path → IsFilling now up coming
  made_in [] mode made permits is off = quiet_after Nothing (λ n g m. refl) is
  made_in (k ∷ q) mode made permits is off =
      let passes = making_passes (current log) k q mode permits in
      subst (λ (l : CallLog). IsFilling l up coming) (sym is)
      (filling_made log tree q (found_node (current log) q) passes.folder k made passes.none up coming (off_of q up k coming (k ∷ q) refl off) filling)

  removed_in : (path : Route) → IsDoneCall log (RemoveFile path) now → IsNoneOf up coming path → IsFilling now up coming
  removed_in path d off = at (removable (current log) path tree d.permits) d.time d.is
    where
      at : IsRemovable (current log) path → (time : _) → now ≡ with_change log (change_of (current log) (RemoveFile path) time) → IsFilling now up coming
      at r time is =
          let leads_there : find (current log) (r.name ∷ r.up) ≡ Some r.i = rw r.folder r.leads in
          let change : change_of (current log) (RemoveFile path) time ≡ Removes r.f r.name r.i =
          ap (λ p. change_of (current log) (RemoveFile p) time) r.path_is
          ∙ (ap (λ f. Removes f r.name (found_node (current log) (r.name ∷ r.up))) (ap (λ o. unwrap_or o 0) r.folder) ∙ ap (λ k. Removes r.f r.name k) (ap (λ o. unwrap_or o 0) leads_there)) in
          subst (λ (l : CallLog). IsFilling l up coming) (sym (is ∙ ap (with_change log) change))
          (filling_removed log tree r.up r.f r.folder r.name r.i r.leads r.no_folder up coming (off_of r.up up r.name coming path r.path_is off) filling)

  placed_in : (from to : Route) → IsDoneCall log (Rename from to) now → PlacesBeside (current log) up coming from to → IsFilling now up coming
  placed_in from to d p = at (subst (λ r. refusal_of (current log) (Rename r (p.target ∷ p.folder)) ≡ None) p.from_is (subst (λ r. refusal_of (current log) (Rename from r) ≡ None) p.to_is d.permits))
    where
      at : refusal_of (current log) (Rename (p.part ∷ p.folder) (p.target ∷ p.folder)) ≡ None → IsFilling now up coming
      at permits =
          let w = passed_walk (walk (current log) (p.part ∷ p.folder)) (λ a. after_walk (current log) (p.target ∷ p.folder) (λ b. rename_refusal (current log) (p.part ∷ p.folder) (p.target ∷ p.folder) a b)) permits in
          let v = passed_walk (walk (current log) (p.target ∷ p.folder)) (λ b. rename_refusal (current log) (p.part ∷ p.folder) (p.target ∷ p.folder) w.0 b) w.2 in
          let l = last_place (current log) p.target p.folder v.0 v.1 in
          let f = found_node (current log) p.folder in
          let part_leads = sym (ap (option_and_then (λ k. lookup (current log).names k p.part)) l.folder) ∙ p.leads in
          let target_bare : (j : ℕ) → lookup (current log).names f p.target ≡ Some j → is_folder (node (current log) j) ≡ false =
          λ j leads. p.bare j (ap (option_and_then (λ k. lookup (current log).names k p.target)) l.folder ∙ leads) in
          let change : change_of (current log) (Rename from to) d.time ≡ Moves f p.part f p.target p.i (find (current log) (p.target ∷ p.folder)) =
          ap (λ r. change_of (current log) (Rename r to) d.time) p.from_is
          ∙ (ap (λ r. change_of (current log) (Rename (p.part ∷ p.folder) r) d.time) p.to_is
          ∙ (ap (λ b. cond b Nothing (Moves f p.part f p.target (found_node (current log) (p.part ∷ p.folder)) (find (current log) (p.target ∷ p.folder)))) (other_path p.part p.target p.folder p.apart)
          ∙ ap (λ k. Moves f p.part f p.target k (find (current log) (p.target ∷ p.folder))) (ap (λ o. unwrap_or o 0) p.leads))) in
          subst (λ (l : CallLog). IsFilling l up coming) (sym (d.is ∙ ap (with_change log) change))
          (filling_placed log tree p.folder f l.folder p.part p.i part_leads p.file p.target (find (current log) (p.target ∷ p.folder)) target_bare up coming
          (off_of p.folder up p.target coming to p.to_is p.target_off) (off_of p.folder up p.part coming from p.from_is p.part_off) filling)

  -- a call that was done
  pub filling_done : (call : Call) → Performs {A = Unit {0}} log call (Ok tt) (Some now) → MayFill (current log) up coming call → IsFilling now up coming
  filling_done (MakeFile path mode) h off = let d = done_call log (MakeFile path mode) now h in made_in path mode _ d.permits d.is off
  filling_done (MakeFolder path mode) h off = let d = done_call log (MakeFolder path mode) now h in made_in path mode _ d.permits d.is off
  filling_done (MakeLink path text) h off = let d = done_call log (MakeLink path text) now h in made_in path 0 _ d.permits d.is off
  filling_done (RemoveFile path) h off = removed_in path (done_call log (RemoveFile path) now h) off
  filling_done (Rename from to) h places = placed_in from to (done_call log (Rename from to) now h) places
  filling_done (WriteAt path offset bytes) h may = let d = done_call log (WriteAt path offset bytes) now h in quiet_after _ (λ n g m. refl) d.is
  filling_done (SetMode path mode) h may = let d = done_call log (SetMode path mode) now h in quiet_after _ (λ n g m. refl) d.is
  filling_done (SyncFile path) h may = let d = done_call log (SyncFile path) now h in quiet_after _ (λ n g m. refl) d.is
  filling_done (SyncFolder path) h may = let d = done_call log (SyncFolder path) now h in quiet_after _ (λ n g m. refl) d.is
  filling_done (RemoveFolder path) h never = absurd never
  filling_done (Stat path) h may = let d = done_call log (Stat path) now h in quiet_after _ (λ n g m. refl) d.is
  filling_done (ListFolder path) h may = let d = done_call log (ListFolder path) now h in quiet_after _ (λ n g m. refl) d.is
  filling_done (ReadAt path offset count) h may = let d = done_call log (ReadAt path offset count) now h in quiet_after _ (λ n g m. refl) d.is
  filling_done (ReadLink path) h may = let d = done_call log (ReadLink path) now h in quiet_after _ (λ n g m. refl) d.is

  -- a call, whatever its answer
  pub filling_call : (call : Call) (answer : Result (Unit {0}) TreeError) → Performs {A = Unit {0}} log call answer (Some now) → MayFill (current log) up coming call → IsFilling now up coming
  filling_call call (Ok tt) h may = filling_done call h may
  filling_call call (Err e) h may = filling_refused call e h

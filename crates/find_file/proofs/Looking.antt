-- Steps at a task: what a look, a read or a listing brings, and what is told where it was refused.
use Rattle.std.proofs.Common.{◌≡◌, ◌≢◌, ℕ, ◌+◌, ◌^◌, ◌<◌, ◌≤◌, Bool, true, false, not, cond, List, [], ◌∷◌, ◌++◌, length, map, flat_map, refl, sym, ap, subst, ◌∙◌, arith}
use Rattle.std.specs.Prelude.{◌&&◌, Option, Some, None, Result, Ok, Err, IfOk, IfErr}
use Rattle.std.proofs.lemmas.List.Folds.{flat_map-map}
use Rattle.mc_text.specs.declared.error.NoMemory.{NoMemory}
use Rattle.mc_text.specs.declared.kind.Kind.{Kind}
use Rattle.mc_text.specs.declared.kind.Kind.TheVariants as kinds
use Rattle.mc_text.specs.Routes.{Route, spelled_route}
use Rattle.tagging.specs.Patterns.{is_found}
use Rattle.tree_trait.specs.declared.file_system.FileSystem.{FileSystem}
use Rattle.tree_trait.specs.declared.calls.TreeError.{TreeError}
use Rattle.tree_trait.specs.declared.calls.TreeError.TheVariants.{Missing, NotFolder, Denied, Exists, IsFolder, NotEmpty, IntoItself, Mounted, CrossMount, NoSpace, Special, Fault, Memory}
use Rattle.tree_trait.specs.declared.calls.Children.{Children}
use Rattle.tree_trait.specs.Calls.{Call, Stat, ListFolder, ReadAt}
use Rattle.tree_trait.specs.FileSystem.{node}
use Rattle.tree_trait.specs.Change.{CallLog, current, found_node}
use Rattle.tree_trait.specs.Refusals.{refusal_of}
use Rattle.tree_trait.specs.Answers.{Reads, HasCause, IsListing, IsAscending}
use Rattle.find_file.specs.declared.found.Found.{Found}
use Rattle.find_file.specs.declared.found.Found.TheVariants.{Path, Skipped}
use Rattle.find_file.specs.declared.search.Search.{Search}
use Rattle.find_file.specs.declared.walk.Walk.{Walk}
use Rattle.find_file.specs.declared.walk.Task.{Task}
use Rattle.find_file.specs.declared.walk.Task.TheVariants.{Look, List as ListTask}
use Rattle.find_file.specs.FoundList.Turn.{At, Tells}
use Rattle.find_file.specs.FoundList.{Turn, is_by_name, holds, brings, path_if, turns_of_bytes, read_turns, by_kind, look_turns, child, names_in, turns_below}
use Rattle.find_file.specs.Folders.{OpenFolder, child_of}
use Rattle.find_file.specs.Walks.{of_child, of_children, of_folder, of_folders, of_task, left_in, rank_of_folder, rank_of_folders, rank_of, rank}
use Rattle.find_file.specs.Telling.{place_of, call_of, Leads, Leaves, Advances, Steps, StandsAt, Works, with_task}
use Rattle.find_file.proofs.InOrder.{listed_names}
use Rattle.find_file.proofs.Levels.{turns_below_is}
use Rattle.find_file.proofs.Ranking.{rank-done, rank-in}
use Rattle.find_file.proofs.Standing.{left-at, rank-at, leads-now}

-- what reading a file brings, by whether it has bytes
no-bytes : (s : FileSystem) (search : Search) (path : Route) (bytes : List ℕ) → 0 ≡ length bytes → turns_of_bytes s search path bytes ≡ []
no-bytes s search path [] none = refl
no-bytes s search path (byte ∷ bytes) none = absurd (omega (arith, none))

some-bytes : (s : FileSystem) (search : Search) (path : Route) (bytes : List ℕ) → 0 < length bytes
    → turns_of_bytes s search path bytes ≡ brings (refusal_of s (ReadAt path 0 0)) path (path_if (holds search.content bytes) path)
some-bytes s search path [] more = absurd (omega (arith, more))
some-bytes s search path (byte ∷ bytes) more = refl

-- what a look at a thing brings, by its kind
pub look-kind : (s : FileSystem) (search : Search) (is_named : Bool) (path : Route) (below : List Turn) (kind : Kind)
    → refusal_of s (Stat path) ≡ None → (node s (found_node s path)).kind ≡ kind → look_turns s search is_named path below ≡ At path ∷ by_kind kind s search is_named path below
look-kind s search is_named path below kind stands is =
    ap (λ o. At path ∷ brings o path (by_kind (node s (found_node s path)).kind s search is_named path below)) stands
    ∙ ap (λ k. At path ∷ by_kind k s search is_named path below) is

module _ (s : FileSystem) (search : Search) (old : Walk) (none : old.task ≡ None) where
  abbrev pub rest : List Turn
  rest = of_folder s search old.inner ++ of_folders s search old.around.nearest

  left-old : (new : Walk) → new ≡ old → left_in s search new ≡ rest
  left-old new same = ap (λ (w : Walk). left_in s search w) same ∙ ap (λ t. of_task s search t ++ rest) none

  -- a refusal
  skips : (task : Task) (call : Call) (e : TreeError) (all : List Turn) → of_task s search (Some task) ≡ At (place_of task) ∷ brings (refusal_of s call) (place_of task) all
      → refusal_of s call ≡ Some e → Leads (of_task s search (Some task) ++ rest) (Tells (Skipped (place_of task) e) ∷ left_in s search old)
  skips task call e all is refused = record {
    past = place_of task ∷ [];
    is = ap (λ l. l ++ rest) (is ∙ ap (λ o. At (place_of task) ∷ brings o (place_of task) all) refused)
        ∙ ap (λ l. At (place_of task) ∷ Tells (Skipped (place_of task) e) ∷ l) (sym (left-old old refl));
  }

-- what a look at a thing comes to, where it isn't refused
module _ (s : FileSystem) (search : Search) (old : Walk) (none : old.task ≡ None) (path : Route) (is_named : Bool) where
  abbrev pub at_look : List Turn
  at_look = left_in s search (with_task old (Look path is_named))

  looked-on : (told : List Turn) (new : Walk) → new ≡ old → look_turns s search is_named path (turns_below s search path) ≡ At path ∷ told
      → Leads at_look (told ++ left_in s search new)
  looked-on told new same is = record {
    past = path ∷ [];
    is = ap (λ l. l ++ rest s search old none) is ∙ ap (λ l. At path ∷ (told ++ l)) (sym (left-old s search old none new same));
  }

  -- a folder is listed next, or passed over
  pub looked-into : (new : Walk) → refusal_of s (Stat path) ≡ None → (node s (found_node s path)).kind ≡ kinds.Folder
      → new ≡ cond search.recursive (with_task old (ListTask path)) old → Leads at_look (left_in s search new)
  looked-into new stands kind is = go search.recursive refl is
    where
      looks : look_turns s search is_named path (turns_below s search path) ≡ At path ∷ cond search.recursive (turns_below s search path) []
      looks = look-kind s search is_named path (turns_below s search path) kinds.Folder stands kind

      go : (b : Bool) → search.recursive ≡ b → new ≡ cond b (with_task old (ListTask path)) old → Leads at_look (left_in s search new)
      go true goes same = record {
        past = path ∷ [];
        is = ap (λ l. l ++ rest s search old none) (looks ∙ ap (λ b. At path ∷ cond b (turns_below s search path) []) goes)
            ∙ ap (λ (w : Walk). At path ∷ left_in s search w) (sym same);
      }
      go false stays same = looked-on [] new same (looks ∙ ap (λ b. At path ∷ cond b (turns_below s search path) []) stays)

  -- what is no file and no folder brings nothing
  pub looked-past : (kind : Kind) (new : Walk) → refusal_of s (Stat path) ≡ None → (node s (found_node s path)).kind ≡ kind
      → by_kind kind s search is_named path (turns_below s search path) ≡ [] → new ≡ old → Leads at_look (left_in s search new)
  looked-past kind new stands is nothing same =
      looked-on [] new same (look-kind s search is_named path (turns_below s search path) kind stands is ∙ ap (λ l. At path ∷ l) nothing)

  module _ (stands : refusal_of s (Stat path) ≡ None) (kind : (node s (found_node s path)).kind ≡ kinds.File) (new : Walk) (same : new ≡ old) where
    looks-at-file : look_turns s search is_named path (turns_below s search path) ≡ At path ∷ cond (is_named && not (is_by_name search)) (read_turns s search path) []
    looks-at-file = look-kind s search is_named path (turns_below s search path) kinds.File stands kind

    -- a file that isn't read
    pub unread-file : (is_named && not (is_by_name search)) ≡ false → Leads at_look (left_in s search new)
    unread-file unasked = looked-on [] new same (looks-at-file ∙ ap (λ b. At path ∷ cond b (read_turns s search path) []) unasked)

    module _ (asks : (is_named && not (is_by_name search)) ≡ true) where
      -- one without bytes, which isn't read either
      pub empty-file : 0 ≡ length (node s (found_node s path)).bytes → Leads at_look (left_in s search new)
      empty-file none = looked-on [] new same
          (looks-at-file ∙ ap (λ b. At path ∷ cond b (read_turns s search path) []) asks
          ∙ ap (λ l. At path ∷ l) (no-bytes s search path (node s (found_node s path)).bytes none))

    module _ (asks : (is_named && not (is_by_name search)) ≡ true) (more : 0 < length (node s (found_node s path)).bytes) (allowed : refusal_of s (ReadAt path 0 0) ≡ None) where
      looks-in-file : (b : Bool) → b ≡ holds search.content (node s (found_node s path)).bytes → look_turns s search is_named path (turns_below s search path) ≡ At path ∷ path_if b path
      looks-in-file b is =
          looks-at-file ∙ ap (λ b. At path ∷ cond b (read_turns s search path) []) asks
          ∙ ap (λ l. At path ∷ l) (some-bytes s search path (node s (found_node s path)).bytes more)
          ∙ ap (λ o. At path ∷ brings o path (path_if (holds search.content (node s (found_node s path)).bytes) path)) allowed
          ∙ ap (λ b. At path ∷ path_if b path) (sym is)

      -- one that holds the content, and one that doesn't
      pub read-holds : true ≡ holds search.content (node s (found_node s path)).bytes → Leads at_look (Tells (Path path) ∷ left_in s search new)
      read-holds is = looked-on (Tells (Path path) ∷ []) new same (looks-in-file true is)

      pub read-lacks : false ≡ holds search.content (node s (found_node s path)).bytes → Leads at_look (left_in s search new)
      read-lacks is = looked-on [] new same (looks-in-file false is)

module _ (log : CallLog) (search : Search) (old : Walk) (none : old.task ≡ None) where
  refuses : (A : Type 0) (P : A → Type 0) (task : Task) (call : Call) (e : TreeError) (all : List Turn)
      → of_task (current log) search (Some task) ≡ At (place_of task) ∷ brings (refusal_of (current log) call) (place_of task) all
      → (refusal_of (current log) call ≡ None → refusal_of (current log) (call_of task) ≡ None)
      → Reads {A = A} log call (Err e) P → e ≢ Memory
      → Advances (current log) search (of_task (current log) search (Some task) ++ rest (current log) search old none) (Ok (Some (Skipped (place_of task) e))) (left_in (current log) search old)
  refuses A P task call Fault all is allowed h some = record {
    task = task;
    place = refl;
    allowed = allowed h;
    missing = leads-now (of_task (current log) search (Some task) ++ rest (current log) search old none) (of_task (current log) search (Some task) ++ left_in (current log) search old)
        (ap (λ l. of_task (current log) search (Some task) ++ l) (sym (left-old (current log) search old none old refl)));
  }
  refuses A P task call Memory all is allowed h some = absurd (some refl)
  refuses A P task call Missing all is allowed h some = skips (current log) search old none task call Missing all is h
  refuses A P task call NotFolder all is allowed h some = skips (current log) search old none task call NotFolder all is h
  refuses A P task call Denied all is allowed h some = skips (current log) search old none task call Denied all is h
  refuses A P task call Exists all is allowed h some = skips (current log) search old none task call Exists all is h
  refuses A P task call IsFolder all is allowed h some = skips (current log) search old none task call IsFolder all is h
  refuses A P task call NotEmpty all is allowed h some = skips (current log) search old none task call NotEmpty all is h
  refuses A P task call IntoItself all is allowed h some = skips (current log) search old none task call IntoItself all is h
  refuses A P task call Mounted all is allowed h some = skips (current log) search old none task call Mounted all is h
  refuses A P task call CrossMount all is allowed h some = skips (current log) search old none task call CrossMount all is h
  refuses A P task call NoSpace all is allowed h some = skips (current log) search old none task call NoSpace all is h
  refuses A P task call Special all is allowed h some = skips (current log) search old none task call Special all is h

  pub refused : (A : Type 0) (P : A → Type 0) (task : Task) (call : Call) (e : TreeError) (all : List Turn) (new : Walk) (r : Result (Option Found) NoMemory)
      → of_task (current log) search (Some task) ≡ At (place_of task) ∷ brings (refusal_of (current log) call) (place_of task) all
      → (refusal_of (current log) call ≡ None → refusal_of (current log) (call_of task) ≡ None)
      → Reads {A = A} log call (Err e) P
      → IfOk r (λ told. (told ≡ Some (Skipped (place_of task) e)) × (e ≢ Memory) × (new ≡ old))
      → IfErr r (λ _. (e ≡ Memory) × (new ≡ with_task old task))
      → Steps (current log) search (with_task old task) r new
  refused A P task call e all new (Ok told) is allowed h ok err =
      subst (λ t. Advances (current log) search (left_in (current log) search (with_task old task)) (Ok t) (left_in (current log) search new)) (sym ok.0)
      (subst (λ (w : Walk). Advances (current log) search (left_in (current log) search (with_task old task)) (Ok (Some (Skipped (place_of task) e))) (left_in (current log) search w)) (sym ok.2)
      (refuses A P task call e all is allowed h ok.1))
  refused A P task call e all new (Err x) is allowed h ok err =
      leads-now (left_in (current log) search (with_task old task)) (left_in (current log) search new) (ap (λ (w : Walk). left_in (current log) search w) (sym err.1))

-- ---- how many steps are left, and why a path was skipped

-- a walk that is as it was, and one with a task
pub stays-at : (old new : Walk) → old.task ≡ None → new ≡ old → StandsAt new None old.inner old.around.nearest
stays-at old new none same = record {
  task_is = ap (λ (w : Walk). w.task) same ∙ none;
  inner_is = ap (λ (w : Walk). w.inner) same;
  around_is = ap (λ (w : Walk). w.around.nearest) same;
}

pub waits-at : (old new : Walk) (task : Task) → new ≡ with_task old task → StandsAt new (Some task) old.inner old.around.nearest
waits-at old new task same = record {
  task_is = ap (λ (w : Walk). w.task) same;
  inner_is = ap (λ (w : Walk). w.inner) same;
  around_is = ap (λ (w : Walk). w.around.nearest) same;
}

few_more : (a b c : ℕ) → a ≡ b → b < c → a < c
few_more a b c same less = omega (arith, same, less)

module _ (task : Task) (old new : Walk) (before after : ℕ) where
  pub works-silent : before ≤ after → rank new < rank (with_task old task) → Leaves old task (Ok None) new → Works task old new before after (Ok None)
  works-silent later fewer leaves = record {
    falls = λ _. fewer;
    reason = record { later = later; risen = λ h. absurd (cc); no_want = λ h. absurd (cc) };
    not_end = λ h. absurd (cc);
    leaves = leaves;
  }

  pub works-waits : (e : NoMemory) → before ≤ after → StandsAt new (Some task) old.inner old.around.nearest → Works task old new before after (Err e)
  works-waits e later waits = record {
    falls = λ none. absurd (cc);
    reason = record { later = later; risen = λ h. absurd (cc); no_want = λ h. absurd (cc) };
    not_end = λ h. absurd (cc);
    leaves = waits;
  }

  -- a task that is done
  done : StandsAt new None old.inner old.around.nearest → rank new < rank (with_task old task)
  done stands =
      few_more (rank new) (rank_of None old.inner old.around.nearest) (rank (with_task old task))
      (rank-at new None old.inner old.around.nearest stands) (rank-done task old.inner old.around.nearest)

  pub works-refused : (A : Type 0) (e : TreeError) (r : Result (Option Found) NoMemory) → HasCause {T = A} Fault before after (Err e)
      → IfOk r (λ told. (told ≡ Some (Skipped (place_of task) e)) × (e ≢ Memory) × (new ≡ old)) → IfErr r (λ _. (e ≡ Memory) × (new ≡ with_task old task))
      → old.task ≡ None → Works task old new before after r
  works-refused A e (Ok told) cause ok err none =
      let stands : StandsAt new None old.inner old.around.nearest = stays-at old new none ok.2 in
      subst (λ t. Works task old new before after (Ok t)) (sym ok.0) (record {
        falls = λ _. done stands;
        reason = record {
          later = cause.later;
          risen = λ h. cause.risen (let is : e ≡ Fault = cc in ap (λ x. let r : Result A TreeError = Err x in r) is);
          no_want = λ h. ok.1 (let is : e ≡ Memory = cc in is);
        };
        not_end = λ h. absurd (cc);
        leaves = (refl, stands);
      })
  works-refused A e (Err x) cause ok err none = works-waits x cause.later (waits-at old new task err.1)

-- ---- a folder that was listed

pub brings-children : (s : FileSystem) (search : Search) (folder : Route) (children : Children) → length (spelled_route folder) ≤ 4096
    → refusal_of s (ListFolder folder) ≡ None → IsListing s (found_node s folder) children → IsAscending children.names
    → turns_below s search folder ≡ At folder ∷ of_children s search folder (map (child_of search.name) children.names)
brings-children s search folder children short stands listing up =
    turns_below_is s search folder short
    ∙ (ap (λ o. At folder ∷ brings o folder (flat_map (λ name. child s search (is_found search.name name) name folder (turns_below s search (name ∷ folder))) (names_in s folder))) stands
    ∙ (ap (λ names. At folder ∷ flat_map (λ name. child s search (is_found search.name name) name folder (turns_below s search (name ∷ folder))) names) (sym (listed_names s folder children up listing))
    ∙ ap (λ l. At folder ∷ l) (sym (flat_map-map (of_child s search folder) (child_of search.name) children.names))))

module _ (search : Search) (old new : Walk) (folder : Route) (names : List (List ℕ)) where
  abbrev pub Entered : Option Found → Type 0
  Entered told = (told ≡ None) × StandsAt new None (record { path = folder; children = map (child_of search.name) names }) (old.inner ∷ old.around.nearest)

  abbrev pub Waits : Type 0
  Waits = StandsAt new (Some (ListTask folder)) old.inner old.around.nearest

  pub enters : (s : FileSystem) (r : Result (Option Found) NoMemory) → turns_below s search folder ≡ At folder ∷ of_children s search folder (map (child_of search.name) names)
      → IfOk r Entered → IfErr r (λ _. Waits) → Steps s search (with_task old (ListTask folder)) r new
  enters s (Ok told) is ok err =
      subst (λ t. Advances s search (left_in s search (with_task old (ListTask folder))) (Ok t) (left_in s search new)) (sym ok.0) (record {
        past = folder ∷ [];
        is = ap (λ l. l ++ (of_folder s search old.inner ++ of_folders s search old.around.nearest)) is
            ∙ ap (λ l. At folder ∷ l) (sym (left-at new None (record { path = folder; children = map (child_of search.name) names }) (old.inner ∷ old.around.nearest) s search ok.1));
      })
  enters s (Err x) is ok err =
      leads-now (left_in s search (with_task old (ListTask folder))) (left_in s search new)
      (sym (left-at new (Some (ListTask folder)) old.inner old.around.nearest s search err))

  pub works-enters : (r : Result (Option Found) NoMemory) (before after : ℕ) → before ≤ after → IfOk r Entered → IfErr r (λ _. Waits)
      → IfOk r (λ _. length new.inner.children ≤ 2 ^ 64) → Works (ListTask folder) old new before after r
  works-enters (Ok told) before after later ok err few =
      subst (λ t. Works (ListTask folder) old new before after (Ok t)) (sym ok.0)
      (works-silent (ListTask folder) old new before after later
      (few_more (rank new) (rank_of None (record { path = folder; children = map (child_of search.name) names }) (old.inner ∷ old.around.nearest)) (rank (with_task old (ListTask folder)))
      (rank-at new None (record { path = folder; children = map (child_of search.name) names }) (old.inner ∷ old.around.nearest) ok.1)
      (rank-in folder (length (map (child_of search.name) names)) (rank_of_folder old.inner + rank_of_folders old.around.nearest)
      (subst (λ (f : OpenFolder). length f.children ≤ 2 ^ 64) ok.1.inner_is few)))
      (ok.1.task_is, ap (λ (f : OpenFolder). f.path) ok.1.inner_is, ok.1.around_is))
  works-enters (Err x) before after later ok err few = works-waits (ListTask folder) old new before after x later err

-- ---- each call of the tree

module _ (log : CallLog) (search : Search) (old : Walk) (none : old.task ≡ None) (A : Type 0) (P : A → Type 0) (e : TreeError) (new : Walk) (r : Result (Option Found) NoMemory) where
  pub list-refused : (folder : Route) → length (spelled_route folder) ≤ 4096 → Reads {A = A} log (ListFolder folder) (Err e) P
      → IfOk r (λ told. (told ≡ Some (Skipped folder e)) × (e ≢ Memory) × (new ≡ old)) → IfErr r (λ _. (e ≡ Memory) × (new ≡ with_task old (ListTask folder)))
      → Steps (current log) search (with_task old (ListTask folder)) r new
  list-refused folder short h ok err =
      refused log search old none A P (ListTask folder) (ListFolder folder) e
      (flat_map (λ name. child (current log) search (is_found search.name name) name folder (turns_below (current log) search (name ∷ folder))) (names_in (current log) folder))
      new r (turns_below_is (current log) search folder short) (λ allowed. allowed) h ok err

  pub look-refused : (path : Route) (is_named : Bool) → Reads {A = A} log (Stat path) (Err e) P
      → IfOk r (λ told. (told ≡ Some (Skipped path e)) × (e ≢ Memory) × (new ≡ old)) → IfErr r (λ _. (e ≡ Memory) × (new ≡ with_task old (Look path is_named)))
      → Steps (current log) search (with_task old (Look path is_named)) r new
  look-refused path is_named h ok err =
      refused log search old none A P (Look path is_named) (Stat path) e
      (by_kind (node (current log) (found_node (current log) path)).kind (current log) search is_named path (turns_below (current log) search path))
      new r refl (λ allowed. allowed) h ok err

  pub read-refused : (path : Route) (is_named : Bool) → refusal_of (current log) (Stat path) ≡ None → (node (current log) (found_node (current log) path)).kind ≡ kinds.File
      → (is_named && not (is_by_name search)) ≡ true → 0 < length (node (current log) (found_node (current log) path)).bytes
      → Reads {A = A} log (ReadAt path 0 0) (Err e) P
      → IfOk r (λ told. (told ≡ Some (Skipped path e)) × (e ≢ Memory) × (new ≡ old)) → IfErr r (λ _. (e ≡ Memory) × (new ≡ with_task old (Look path is_named)))
      → Steps (current log) search (with_task old (Look path is_named)) r new
  read-refused path is_named stands kind asks more h ok err =
      refused log search old none A P (Look path is_named) (ReadAt path 0 0) e
      (path_if (holds search.content (node (current log) (found_node (current log) path)).bytes) path) new r
      (look-kind (current log) search is_named path (turns_below (current log) search path) kinds.File stands kind ∙ ap (λ b. At path ∷ cond b (read_turns (current log) search path) []) asks
      ∙ ap (λ l. At path ∷ l) (some-bytes (current log) search path (node (current log) (found_node (current log) path)).bytes more))
      (λ allowed. stands) h ok err

-- the tests of a reading
pub asked : (is_named by_name : Bool) → is_named ≡ true → by_name ≡ false → (is_named && not by_name) ≡ true
asked true true h k = cc
asked true false h k = refl
asked false by_name h k = cc

pub unasked : (is_named by_name : Bool) → is_named ≡ false → (is_named && not by_name) ≡ false
unasked true by_name h = cc
unasked false by_name h = refl

pub needless : (is_named by_name : Bool) → by_name ≡ true → (is_named && not by_name) ≡ false
needless true true h = refl
needless true false h = cc
needless false by_name h = refl

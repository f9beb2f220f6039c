-- What a copy of folders has done after it passes something over, or takes something up anew.
use Rattle.std.proofs.Common.{◌≡◌, ◌⊎◌, ℕ, Bool, true, false, List, [], ◌∷◌, ◌++◌, refl, sym, ◌∙◌, ap, subst, inl, inr, Option, Some, None}
use Rattle.std.specs.Prelude.{drop}
use Rattle.mc_text.specs.Routes.{Route, is_prefix}
use Rattle.tree_trait.specs.CrashImages.{Among}
use Rattle.tree_trait.specs.FileSystem.{View}
use Rattle.job_reports.specs.declared.job.Pair.{Pair}
use Rattle.job_reports.specs.declared.report.Cause.{Cause}
use Rattle.job_reports.specs.declared.report.Did.{Did}
use Rattle.copy_file.specs.Copying.{Copying, taken_anew as file_anew_at}
use Rattle.copy_file.specs.CopySteps as file
use Rattle.copy_folders.specs.FolderCopying.{FolderCopying, skipped_stage}
use Rattle.copy_folders.specs.declared.stage.Stage.{Stage}
use Rattle.copy_folders.specs.declared.stage.Stage.TheVariants as at
use Rattle.copy_link.specs.LinkCopying.{LinkCopying, taken_anew as link_anew_at}
use Rattle.copy_link.specs.LinkSteps as link
use Rattle.copy_folders.specs.declared.level.Level.{Level}
use Rattle.copy_folders.specs.Levels.{emptied_levels, level, passed_levels as passed_level, with_copy}
use Rattle.copy_tree.specs.declared.item.ItemAtWork.{ItemAtWork}
use Rattle.copy_tree.specs.declared.item.ItemAtWork.TheVariants.{Next, File, Link, Stays}
use Rattle.copy_tree.specs.InPlace.{ItemMoved, owed_of}
use Rattle.copy_tree.specs.Skipping.{NoRoom, SkipsAt, SkipsEnd, SkipsNamed, SkipsRest, retried_at}
use Rattle.copy_tree.specs.Standing.{Seen}
use Rattle.copy_tree.specs.TreeCopySteps.{idle}
use Rattle.laws_outcomes.proofs.Accounts.{AreOpened, IsAccounted, IsDue, IsOpened, IsShown, ItemDone, TreeDone, covered_more, covered_now, passed_at, prefix_through}
use Rattle.laws_outcomes.proofs.FileWork.{file_anew, file_skips, self_prefix}
use Rattle.laws_outcomes.proofs.LinkWork.{link_anew, link_skips}
use Rattle.laws_outcomes.proofs.TreeItems.{Elsewhere, settled_file, settled_link}
use Rattle.laws_outcomes.proofs.TreeLevels.{covered_by, opened_inner, pending_or}
use Rattle.laws_sessions.proofs.Intact.{prefix_append}

-- a report of a skip, or that there was no memory for it, covers no less
more_passed : (v : View) (passed : List Route) (top : Pair) (did : Did) (inner : Level) (around : List Level) (source target : Route) → IsAccounted v passed inner around source target → IsAccounted v (passed_at top did passed) inner around source target
more_passed v passed top did inner around source target (inl covered) = inl (covered_by top did passed source covered)
more_passed v passed top did inner around source target (inr (inl pending)) = inr (inl pending)
more_passed v passed top did inner around source target (inr (inr copy)) = inr (inr copy)

module _ (v : View) (passed : List Route) (top : Pair) (old : Seen) (h : TreeDone v passed top old) where
  -- names or the mode that are due no more are those of what was passed over
  passed_done : (left : Route) (next : Level) → next.copy.source ≡ old.levels.inner.copy.source → next.copy.target ≡ old.levels.inner.copy.target → (next.copy.stage ≡ old.levels.inner.copy.stage) ⊎ (owed_of next.copy.stage ≡ None)
      → ((path : Route) → IsDue old.levels.inner path → IsDue next path ⊎ (is_prefix left path ≡ true)) → (x : Seen) → x.levels.inner ≡ next → x.levels.around ≡ old.levels.around → x.item ≡ Next → TreeDone v (left ∷ passed) top x
  passed_done left next from to stage goes x inner_is around_is item_is = record {
    things = λ rest off. subst (λ (l : Level). IsAccounted v (left ∷ passed) l x.levels.around (rest ++ top.source) (rest ++ top.target)) (sym inner_is)
        (subst (λ (ls : List Level). IsAccounted v (left ∷ passed) next ls (rest ++ top.source) (rest ++ top.target)) (sym around_is) (went (rest ++ top.source) (rest ++ top.target) (h.things rest off)));
    folders = subst (λ (l : Level). AreOpened v top.target l x.levels.around) (sym inner_is)
        (subst (λ (ls : List Level). AreOpened v top.target next ls) (sym around_is) (opened_inner v top.target old.levels.inner next old.levels.around opens h.folders));
    item = subst (λ i. ItemDone v (left ∷ passed) top.target x.levels.inner x.levels.around i) (sym item_is) tt;
  }
    where
      went : (source target : Route) → IsAccounted v passed old.levels.inner old.levels.around source target → IsAccounted v (left ∷ passed) next old.levels.around source target
      went source target (inl covered) = inl (covered_more passed left source covered)
      went source target (inr (inr copy)) = inr (inr copy)
      went source target (inr (inl pending)) = elim (pending_or old.levels.inner next old.levels.around source (goes source) pending) [
        | inl still ↦ inr (inl still)
        | inr below ↦ inl (covered_now passed left source below)
      ]

      made_then : (next.copy.stage ≡ old.levels.inner.copy.stage) ⊎ (owed_of next.copy.stage ≡ None) → IsOpened v top.target old.levels.inner → (mode : ℕ) → next.copy.stage ≡ at.Make mode → ⊥
      made_then (inl same) o mode is = o.made mode (sym same ∙ is)
      made_then (inr owes) o mode is = (let e : (let n : Option ℕ = None in n) ≡ Some mode = sym owes ∙ ap owed_of is in let f : ⊥ = cc in f)

      opens : IsOpened v top.target old.levels.inner → IsOpened v top.target next
      opens o = record {
        made = made_then stage o;
        shown = λ off. subst (λ s. IsShown v s next.copy.target) (sym from) (subst (λ t. IsShown v old.levels.inner.copy.source t) (sym to) (o.shown (subst (λ s. is_prefix top.target s ≡ false) from off)));
      }

  -- the next name is passed, with all that lies in it
  pub name_passed : (name : List ℕ) (names : List (List ℕ)) → old.levels.inner.names.names ≡ name ∷ names → (left : Bool) (new : Seen) → new ≡ record old { levels = passed_level left old.levels } → old.item ≡ Next
      → TreeDone v ((name ∷ old.levels.inner.copy.source) ∷ passed) top new
  name_passed name names names_is left new new_is none =
      passed_done (name ∷ old.levels.inner.copy.source) (let l = passed_level left old.levels in l.inner) refl refl (inl refl) goes new (ap (λ (x : Seen). x.levels.inner) new_is) (ap (λ (x : Seen). x.levels.around) new_is) (ap (λ (x : Seen). x.item) new_is ∙ none)
    where
      goes : (path : Route) → IsDue old.levels.inner path → IsDue (let l = passed_level left old.levels in l.inner) path ⊎ (is_prefix (name ∷ old.levels.inner.copy.source) path ≡ true)
      goes path (inr owed) = inl (inr owed)
      goes path (inl (other, among, below)) = by (subst (λ ns. Among ns other) names_is among)
        where
          by : (other ≡ name) ⊎ Among names other → IsDue (let l = passed_level left old.levels in l.inner) path ⊎ (is_prefix (name ∷ old.levels.inner.copy.source) path ≡ true)
          by (inl same) = inr (subst (λ n. is_prefix (n ∷ old.levels.inner.copy.source) path ≡ true) same below)
          by (inr later) = inl (inl (other, subst (λ ns. Among (drop 1 ns) other) (sym names_is) later, below))

module _ (v : View) (passed : List Route) (top : Pair) (cause : Cause) (old new : Seen) (did : Did) (h : TreeDone v passed top old) where
  elsewhere : (source : Route) → Elsewhere v (passed_at top did passed) top old.levels.inner old.levels.around source
  elsewhere source rest off apart = more_passed v passed top did old.levels.inner old.levels.around (rest ++ top.source) (rest ++ top.target) (h.things rest off)

  no_room : old.item ≡ Next → NoRoom old did new → TreeDone v (passed_at top did passed) top new
  no_room none room =
      subst (TreeDone v (passed_at top did passed) top) (sym room.1)
      (subst (λ x. TreeDone v (passed_at top x passed) top old) (sym room.0) h)

  -- the folder that is worked is covered, with all that is yet to be met in it
  module _ (none : old.item ≡ Next) where
    abbrev up : Route
    up = old.levels.inner.copy.source

    rest_passed : SkipsRest cause old did new → TreeDone v (passed_at top did passed) top new
    rest_passed (inr room) = no_room none room
    rest_passed (inl (did_is, new_is)) =
        subst (λ x. TreeDone v (passed_at top x passed) top new) (sym did_is)
        (passed_done v passed top old h up (let l = emptied_levels old.levels in l.inner) refl refl (inl refl) goes new (ap (λ (x : Seen). x.levels.inner) new_is) (ap (λ (x : Seen). x.levels.around) new_is) (ap (λ (x : Seen). x.item) new_is ∙ none))
      where
        goes : (path : Route) → IsDue old.levels.inner path → IsDue (let l = emptied_levels old.levels in l.inner) path ⊎ (is_prefix up path ≡ true)
        goes path (inl (name, among, below)) = inr (prefix_through up (name ∷ up) path (prefix_append up (name ∷ [])) below)
        goes path (inr owed) = inl (inr owed)

    skipped_none : (stage : Stage) → (skipped_stage stage ≡ stage) ⊎ (owed_of (skipped_stage stage) ≡ None)
    skipped_none (at.Make mode) = inr refl
    skipped_none (at.Fill owed) = inl refl
    skipped_none (at.Close owed) = inr refl
    skipped_none at.Done = inl refl

    end_passed : SkipsEnd cause old did new → TreeDone v (passed_at top did passed) top new
    end_passed (moved, inr (did_is, moved_is), new_is) =
        subst (λ x. TreeDone v (passed_at top x passed) top new) (sym did_is)
        (subst (TreeDone v passed top) (sym (new_is ∙ ap (λ (c : FolderCopying). (let x : Seen = record old { levels = with_copy c old.levels } in x)) moved_is)) (record { things = h.things; folders = h.folders; item = h.item }))
    end_passed (moved, inl (did_is, moved_is), new_is) =
        subst (λ x. TreeDone v (passed_at top x passed) top new) (sym did_is)
        (subst (TreeDone v (up ∷ passed) top) (sym (new_is ∙ ap (λ (c : FolderCopying). (let x : Seen = record old { levels = with_copy c old.levels } in x)) moved_is))
        (passed_done v passed top old h up (level old.levels.inner.names (record old.levels.inner.copy { stage = skipped_stage old.levels.inner.copy.stage })) refl refl (skipped_none old.levels.inner.copy.stage) goes
        (record old { levels = with_copy (record old.levels.inner.copy { stage = skipped_stage old.levels.inner.copy.stage }) old.levels }) refl refl none))
      where
        goes : (path : Route) → IsDue old.levels.inner path → IsDue (level old.levels.inner.names (record old.levels.inner.copy { stage = skipped_stage old.levels.inner.copy.stage })) path ⊎ (is_prefix up path ≡ true)
        goes path (inl ahead) = inl (inl ahead)
        goes path (inr (mode, owed, is)) = inr (subst (λ p. is_prefix up p ≡ true) (sym is) (self_prefix up))

    named_passed : (names : List (List ℕ)) → old.levels.inner.names.names ≡ names → SkipsNamed names cause old did new → TreeDone v (passed_at top did passed) top new
    named_passed [] names_is s = end_passed s
    named_passed (name ∷ names) names_is (inr (inl (long, rest))) = rest_passed rest
    named_passed (name ∷ names) names_is (inr (inr room)) = no_room none room
    named_passed (name ∷ names) names_is (inl (did_is, new_is)) = subst (λ x. TreeDone v (passed_at top x passed) top new) (sym did_is) (name_passed v passed top old h name names names_is true new new_is none)

  pub skips_done : (item : ItemAtWork) → old.item ≡ item → ItemMoved top item → SkipsAt item cause old did new → TreeDone v (passed_at top did passed) top new
  skips_done Next is m s = named_passed is old.levels.inner.names.names refl s
  skips_done (File f) is m (moved, skips, stands) =
      let d = subst (λ i. ItemDone v passed top.target old.levels.inner old.levels.around i) is h.item in
      let paths = file_paths f moved skips in
      subst (TreeDone v (passed_at top did passed) top) (sym stands)
      (settled_file v (passed_at top did passed) top (idle old) f.source f.target m d.1 (elsewhere f.source) h.folders refl moved paths.0 paths.1 (file_skips v passed top old.levels.around cause f moved did skips d.2))
    where
      file_paths : (f moved : Copying) → file.Skips cause f did moved → (moved.source ≡ f.source) × (moved.target ≡ f.target)
      file_paths f moved (inl s) = (ap (λ (x : Copying). x.source) s.1, ap (λ (x : Copying). x.target) s.1)
      file_paths f moved (inr s) = (ap (λ (x : Copying). x.source) s.1, ap (λ (x : Copying). x.target) s.1)
  skips_done (Link l) is m (moved, skips, stands) =
      let d = subst (λ i. ItemDone v passed top.target old.levels.inner old.levels.around i) is h.item in
      let paths = link_paths l moved skips in
      subst (TreeDone v (passed_at top did passed) top) (sym stands)
      (settled_link v (passed_at top did passed) top (idle old) l.source l.target m d.1 (elsewhere l.source) h.folders refl moved paths.0 paths.1 (link_skips v passed top old.levels.around cause l moved did skips d.2))
    where
      link_paths : (l moved : LinkCopying) → link.Skips cause l did moved → (moved.source ≡ l.source) × (moved.target ≡ l.target)
      link_paths l moved (inl s) = (ap (λ (x : LinkCopying). x.source) s.1, ap (λ (x : LinkCopying). x.target) s.1)
      link_paths l moved (inr s) = (ap (λ (x : LinkCopying). x.source) s.1, ap (λ (x : LinkCopying). x.target) s.1)
  skips_done (Stays part) is m s = absurd s

-- what was refused is taken up anew
pub retries_done : (v : View) (passed : List Route) (top : Pair) (c : Seen) (item : ItemAtWork) → c.item ≡ item → ItemMoved top item → TreeDone v passed top c → TreeDone v passed top (retried_at item c)
retries_done v passed top c Next is m h = h
retries_done v passed top c (File f) is m h =
    let d = subst (λ i. ItemDone v passed top.target c.levels.inner c.levels.around i) is h.item in
    settled_file v passed top (idle c) f.source f.target m d.1 (λ rest off apart. h.things rest off) h.folders refl (record f { stage = file_anew_at f.stage }) refl refl (file_anew v passed top c.levels.around f.source f.target f.stage d.2)
retries_done v passed top c (Link l) is m h =
    let d = subst (λ i. ItemDone v passed top.target c.levels.inner c.levels.around i) is h.item in
    settled_link v passed top (idle c) l.source l.target m d.1 (λ rest off apart. h.things rest off) h.folders refl (record l { stage = link_anew_at l.stage }) refl refl (link_anew v passed top c.levels.around l.source l.target l.stage d.2)
retries_done v passed top c (Stays part) is m h = h

-- What a copy of folders has done, as its open folders change; and as something comes to stand at one path.
use Rattle.std.proofs.Common.{◌≡◌, ◌⊎◌, ℕ, suc, zero, Bool, true, false, List, [], ◌∷◌, ◌++◌, refl, sym, ◌∙◌, ap, subst, inl, inr, Option, Some, None}
use Rattle.std.specs.Option.{option_map}
use Rattle.std.proofs.lemmas.Bool.{false≢true}
use Rattle.std.proofs.lemmas.List.{append_assoc, append_cancel_right}
use Rattle.mc_text.specs.Routes.{Route, is_prefix, same_path}
use Rattle.tree_trait.specs.CrashImages.{Among}
use Rattle.tree_trait.specs.FileSystem.{Value, View}
use Rattle.tree_trait.proofs.Visible.{same_path-true}
use Rattle.job_reports.specs.declared.job.Pair.{Pair}
use Rattle.job_reports.specs.declared.report.Did.{Did}
use Rattle.job_reports.specs.declared.report.Did.TheVariants.{Began, Chunk, Placed, Removed, Made, Set, Kept, Skipped, Cleaned, Barrier, Asked, Merges, Moved, Troubled, Ended}
use Rattle.copy_folders.specs.FolderCopying.{closing, is_dirty}
use Rattle.copy_folders.specs.declared.stage.Stage.{Stage}
use Rattle.copy_folders.specs.declared.stage.Stage.TheVariants as at
use Rattle.copy_folders.specs.declared.level.Level.{Level}
use Rattle.copy_folders.specs.Levels.{owed_at}
use Rattle.copy_tree.specs.declared.due.Due.TheVariants.{End}
use Rattle.copy_tree.specs.declared.item.ItemAtWork.TheVariants.{Next}
use Rattle.copy_tree.specs.InPlace.{IsMoved, owed_of}
use Rattle.copy_tree.specs.Standing.{Seen, due_at}
use Rattle.copy_tree.specs.TreeCopySteps.{LeavesAll, at_end}
use Rattle.laws_sessions.specs.Replayed.{new_folder}
use Rattle.laws_outcomes.specs.Outcomes.{as_copied}
use Rattle.laws_outcomes.proofs.Accounts.{AreOpened, IsAccounted, IsCopy, IsCovered, IsDue, IsOpened, IsPending, ItemDone, TreeDone, apart_from, covered_more, passed_at}

-- the innermost folder is another level, in which what is due is due still, or something else holds
pub pending_or : {A : Type 0} (inner new : Level) (around : List Level) (path : Route) → (IsDue inner path → IsDue new path ⊎ A) → IsPending inner around path → IsPending new around path ⊎ A
pending_or inner new [] path goes p = goes p
pending_or inner new (outer ∷ around) path goes (inl d) = elim (goes d) [ inl due ↦ inl (inl due) | inr a ↦ inr a ]
pending_or inner new (outer ∷ around) path goes (inr p) = inl (inr p)

pub pending_map : (inner new : Level) (around : List Level) (path : Route) → (IsDue inner path → IsDue new path) → IsPending inner around path → IsPending new around path
pending_map inner new [] path goes p = goes p
pending_map inner new (outer ∷ around) path goes (inl d) = inl (goes d)
pending_map inner new (outer ∷ around) path goes (inr p) = inr p

pub pending_here : (inner : Level) (around : List Level) (path : Route) → IsDue inner path → IsPending inner around path
pending_here inner [] path d = d
pending_here inner (outer ∷ around) path d = inl d

-- nothing is due in the folder that is left
pub pending_left : (inner : Level) (was : List Level) (outer : Level) (around : List Level) (path : Route) → was ≡ outer ∷ around → (IsDue inner path → ⊥) → IsPending inner was path → IsPending outer around path
pending_left inner was outer around path is none p = by (subst (λ (xs : List Level). IsPending inner xs path) is p)
  where
    by : IsDue inner path ⊎ IsPending outer around path → IsPending outer around path
    by (inl d) = absurd (none d)
    by (inr q) = q

pub accounted_map : (v : View) (passed : List Route) (inner new : Level) (around : List Level) (source target : Route) → (IsDue inner source → IsDue new source) → IsAccounted v passed inner around source target → IsAccounted v passed new around source target
accounted_map v passed inner new around source target goes (inl c) = inl c
accounted_map v passed inner new around source target goes (inr (inl p)) = inr (inl (pending_map inner new around source goes p))
accounted_map v passed inner new around source target goes (inr (inr k)) = inr (inr k)

pub opened_inner : (v : View) (top : Route) (inner new : Level) (around : List Level) → (IsOpened v top inner → IsOpened v top new) → AreOpened v top inner around → AreOpened v top new around
opened_inner v top inner new [] goes h = tt
opened_inner v top inner new (outer ∷ around) goes h = (goes h.0, h.1)

-- two paths as far below the source as below the target
pub same_rest : (top : Pair) (source target rest q : Route) → IsMoved top source target → rest ++ top.source ≡ q ++ source → rest ++ top.target ≡ q ++ target
same_rest top source target rest q m is =
    let lies : rest ++ top.source ≡ (q ++ m.rest) ++ top.source = is ∙ (ap (λ p. q ++ p) m.from ∙ sym (append_assoc q m.rest top.source)) in
    ap (λ r. r ++ top.target) (append_cancel_right rest (q ++ m.rest) top.source lies) ∙ (append_assoc q m.rest top.target ∙ ap (λ p. q ++ p) (sym m.to))

pub source_of : (top : Pair) (source target rest : Route) → IsMoved top source target → rest ++ top.target ≡ target → rest ++ top.source ≡ source
source_of top source target rest m is = ap (λ r. r ++ top.source) (append_cancel_right rest m.rest top.target (is ∙ m.to)) ∙ sym m.from

-- a view that is the same but at one path, which lies at or below the target
pub record IsChanged (v w : View) (top path : Route) : Type 0 where
  pub same : (p : Route) → same_path p path ≡ false → (w p).value ≡ (v p).value
  pub on : is_prefix top path ≡ true

module _ (v w : View) (top : Pair) (path : Route) (change : IsChanged v w top.target path) where
  pub copy_changed : (source target : Route) → is_prefix top.target source ≡ false → (target ≡ path → ⊥) → IsCopy v source target → IsCopy w source target
  copy_changed source target off other is = by (same_path target path) refl
    where
      by : (b : Bool) → same_path target path ≡ b → IsCopy w source target
      by true on = absurd (other (same_path-true target path on))
      by false apart = change.same target apart ∙ (is ∙ ap (option_map as_copied) (sym (change.same source (apart_from top.target source path off change.on))))

  -- nothing stood there, so no open folder's target is it
  module _ (free : (v path).value ≡ None) where
    one : (l : Level) → IsOpened v top.target l → IsOpened w top.target l
    one l h = record {
      made = h.made;
      shown = λ off. let s = h.shown off in record {
        x = s.x;
        stands = change.same l.copy.source (apart_from top.target l.copy.source path off change.on) ∙ s.stands;
        folder = s.folder;
        named = s.named;
        mode = s.mode;
        made = by s.mode s.made (same_path l.copy.target path) refl;
      };
    }
      where
        by : (mode : ℕ) → (v l.copy.target).value ≡ Some (record new_folder { mode = mode }) → (b : Bool) → same_path l.copy.target path ≡ b → (w l.copy.target).value ≡ Some (record new_folder { mode = mode })
        by mode is true on = absurd (let e : (let o : Option Value = None in o) ≡ Some (record new_folder { mode = mode }) = sym free ∙ (ap (λ p. (v p).value) (sym (same_path-true l.copy.target path on)) ∙ is) in let f : ⊥ = cc in f)
        by mode is false apart = change.same l.copy.target apart ∙ is

    pub opened_changed : (inner : Level) (around : List Level) → AreOpened v top.target inner around → AreOpened w top.target inner around
    opened_changed inner [] h = tt
    opened_changed inner (outer ∷ around) h = (one inner h.0, opened_changed outer around h.1)

-- a report leaves covered what is
pub covered_by : (top : Pair) (did : Did) (passed : List Route) (path : Route) → IsCovered passed path → IsCovered (passed_at top did passed) path
covered_by top (Skipped left cause) passed path c = covered_more passed left path c
covered_by top (Kept kept) passed path c = covered_more passed top.source path c
covered_by top (Merges transfer pair names) passed path c = covered_more passed pair.source path c
covered_by top did passed path c = c

-- the end of a folder is next where no name is
pub no_name : (c : Seen) (names : List (List ℕ)) → due_at names c ≡ End → names ≡ []
no_name c [] is = refl
no_name c (name ∷ names) is = absurd (let f : ⊥ = cc in f)

-- a folder that owes nothing is to be given no mode
pub none_owed : (stage : Stage) (dirty : Bool) (mode : ℕ) → owed_at (closing stage) dirty ≡ false → owed_of stage ≡ Some mode → ⊥
none_owed (at.Make other) dirty mode none is = false≢true (sym none)
none_owed (at.Fill (Some other)) dirty mode none is = false≢true (sym none)
none_owed (at.Fill None) dirty mode none is = (let f : ⊥ = cc in f)
none_owed (at.Close (Some other)) dirty mode none is = false≢true (sym none)
none_owed (at.Close None) dirty mode none is = (let f : ⊥ = cc in f)
none_owed at.Done dirty mode none is = (let f : ⊥ = cc in f)

pub closing_owed : (stage : Stage) → owed_of (closing stage) ≡ owed_of stage
closing_owed (at.Make mode) = refl
closing_owed (at.Fill owed) = refl
closing_owed (at.Close owed) = refl
closing_owed at.Done = refl

pub closing_made : (stage : Stage) (mode : ℕ) → closing stage ≡ at.Make mode → stage ≡ at.Make mode
closing_made (at.Make other) mode is = is
closing_made (at.Fill owed) mode is = absurd (let f : ⊥ = cc in f)
closing_made (at.Close owed) mode is = absurd (let f : ⊥ = cc in f)
closing_made at.Done mode is = absurd (let f : ⊥ = cc in f)

module _ (v : View) (passed : List Route) (top : Pair) where
  -- the children of the folder that is worked are decided
  pub closed_done : (c : Seen) → c.item ≡ Next → TreeDone v passed top c → TreeDone v passed top (at_end c)
  closed_done c none h = record {
    things = λ rest off. accounted_map v passed c.levels.inner (let x = at_end c in x.levels.inner) c.levels.around (rest ++ top.source) (rest ++ top.target) (due (rest ++ top.source)) (h.things rest off);
    folders = opened_inner v top.target c.levels.inner (let x = at_end c in x.levels.inner) c.levels.around (λ o. record { made = λ mode is. o.made mode (closing_made c.levels.inner.copy.stage mode is); shown = o.shown }) h.folders;
    item = subst (λ i. ItemDone v passed top.target (let x = at_end c in x.levels.inner) c.levels.around i) (sym none) tt;
  }
    where
      due : (path : Route) → IsDue c.levels.inner path → IsDue (let x = at_end c in x.levels.inner) path
      due path (inl ahead) = inl ahead
      due path (inr (mode, owed, is)) = inr (mode, closing_owed c.levels.inner.copy.stage ∙ owed, is)

  -- folders that owe nothing are left
  pub leaves_done : (n : ℕ) (old mid : Seen) → LeavesAll n old mid → TreeDone v passed top old → TreeDone v passed top mid
  leaves_done zero old mid is h = subst (TreeDone v passed top) (sym is) h
  leaves_done (suc n) old mid (last, all, none, leaves) h =
      let d = leaves_done n old last all h in
      let r = leaves.returns in
      let left = r.left in
      record {
        things = λ rest off. goes left.was (due_none (no_name last last.levels.inner.names.names leaves.next) leaves.done) rest (d.things rest off);
        folders = (subst (AreOpened v top.target last.levels.inner) left.was d.folders).1;
        item = subst (λ i. ItemDone v passed top.target mid.levels.inner mid.levels.around i) (sym (ap (λ (x : Seen). x.item) r.stands ∙ none)) tt;
      }
    where
      due_none : last.levels.inner.names.names ≡ [] → owed_at (closing last.levels.inner.copy.stage) (is_dirty last.levels.inner.copy.names) ≡ false → (path : Route) → IsDue last.levels.inner path → ⊥
      due_none empty done path (inl (name, among, below)) = subst (λ names. Among names name) empty among
      due_none empty done path (inr (mode, owed, is)) = none_owed last.levels.inner.copy.stage (is_dirty last.levels.inner.copy.names) mode done owed

      goes : last.levels.around ≡ mid.levels.inner ∷ mid.levels.around → ((path : Route) → IsDue last.levels.inner path → ⊥) → (rest : Route)
          → IsAccounted v passed last.levels.inner last.levels.around (rest ++ top.source) (rest ++ top.target) → IsAccounted v passed mid.levels.inner mid.levels.around (rest ++ top.source) (rest ++ top.target)
      goes was nothing rest (inl c) = inl c
      goes was nothing rest (inr (inl p)) =
          inr (inl (pending_left last.levels.inner last.levels.around mid.levels.inner mid.levels.around (rest ++ top.source) was (nothing (rest ++ top.source)) p))
      goes was nothing rest (inr (inr k)) = inr (inr k)

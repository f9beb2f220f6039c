-- What a copy of folders has done after a step at the end of a folder.
use Rattle.std.proofs.Common.{◌≡◌, ◌⊎◌, ℕ, Bool, true, false, List, [], ◌∷◌, ◌++◌, refl, sym, ◌∙◌, ap, subst, inl, inr, Option, Some, None}
use Rattle.std.specs.Option.{option_map}
use Rattle.std.proofs.lemmas.Bool.{both_ways}
use Rattle.mc_text.specs.Routes.{Route, is_prefix, same_path}
use Rattle.tree_trait.specs.Change.{CallLog}
use Rattle.tree_trait.specs.FileSystem.{Value, View}
use Rattle.tree_trait.proofs.Visible.{same_path-self, same_path-true}
use Rattle.job_reports.specs.Jobs.{Copies}
use Rattle.job_reports.specs.declared.job.Pair.{Pair}
use Rattle.job_reports.specs.declared.report.Did.{Did}
use Rattle.job_reports.specs.declared.report.Did.TheVariants as common
use Rattle.copy_folders.specs.FolderCopying.{FolderCopying, Tells}
use Rattle.copy_folders.specs.declared.stage.FolderDid.{FolderDid}
use Rattle.copy_folders.specs.declared.stage.FolderDid.TheVariants as folder_did
use Rattle.copy_folders.specs.declared.stage.NamesState.TheVariants.{Dirty}
use Rattle.copy_folders.specs.declared.stage.Stage.TheVariants as at
use Rattle.copy_folders.specs.declared.level.Level.{Level}
use Rattle.copy_folders.specs.Levels.{level, with_copy}
use Rattle.copy_tree.specs.declared.item.ItemAtWork.TheVariants.{Next}
use Rattle.copy_tree.specs.InPlace.{AreMoved, IsMoved, owed_of}
use Rattle.copy_tree.specs.Reports.{IsToldAs}
use Rattle.copy_tree.specs.Standing.{Seen, after_report}
use Rattle.copy_tree.specs.TreeCopySteps.{FolderEnds}
use Rattle.session_entries.specs.Moves.{moved_from}
use Rattle.laws_sessions.specs.Replayed.{new_folder, replayed_step, with_mode_of}
use Rattle.laws_outcomes.specs.Outcomes.{as_copied}
use Rattle.laws_outcomes.proofs.Accounts.{AreOpened, IsAccounted, IsCopy, IsDue, IsOpened, IsShown, ItemDone, TreeDone, apart_from, passed_at, put_same, put_value}
use Rattle.laws_outcomes.proofs.TreeFolders.{comes_from, folder_copied, on_target}
use Rattle.laws_outcomes.proofs.TreeLevels.{IsChanged, accounted_map, copy_changed, opened_inner, pending_or, same_rest, source_of}

-- the folder that is worked was made before
pub not_made : (v : View) (top : Pair) (inner : Level) (around : List Level) → AreMoved top inner around → AreOpened v top.target inner around → (mode : ℕ) → inner.copy.stage ≡ at.Make mode → ⊥
not_made v top inner [] moved h mode is = (let e : Some mode ≡ None = sym (ap owed_of is) ∙ moved.keeps in let f : ⊥ = cc in f)
not_made v top inner (outer ∷ around) moved h mode is = (let o : IsOpened v top.target inner = h.0 in o.made mode is)

abbrev folder_with : ℕ → Option Value
folder_with mode = Some (record new_folder { mode = mode })

moded : (o : Option Value) (mode : ℕ) → (other : ℕ) × (option_map (with_mode_of o) (folder_with mode) ≡ folder_with other)
moded None mode = (mode, refl)
moded (Some x) mode = (x.mode, refl)

module _ (now : CallLog) (v : View) (passed : List Route) (top : Pair) where
  abbrev Then : Did → View
  Then did = replayed_step now did (Some (Copies top.source top.target)) v

  -- a folder is given its mode
  module _ (l : Level) (m : IsMoved top l.copy.source l.copy.target) (opens : IsOpened v top.target l) where
    abbrev w : View
    w = Then (common.Set l.copy.target)

    change : IsChanged v w top.target l.copy.target
    change = record { same = λ p off. put_same v l.copy.target _ p off; on = on_target now v passed top l.copy.source l.copy.target m }

    -- a folder that was made is one still, with another mode
    value_set : (x : Value) (mode : ℕ) → (v l.copy.source).value ≡ Some x → (v l.copy.target).value ≡ folder_with mode → (w l.copy.target).value ≡ folder_with x.mode
    value_set x mode stands made =
        put_value v l.copy.target _
        ∙ (ap (λ p. option_map (with_mode_of (v p).value) (v l.copy.target).value) (comes_from now v passed top l.copy.source l.copy.target m)
        ∙ (ap (λ o. option_map (with_mode_of o) (v l.copy.target).value) stands
        ∙ ap (option_map (with_mode_of (Some x))) made))

    pub set_copied : is_prefix top.target l.copy.source ≡ false → IsCopy w l.copy.source l.copy.target
    set_copied off =
        let s = opens.shown off in
        value_set s.x s.mode s.stands s.made
        ∙ (ap Some (sym (folder_copied (let x : Value = s.x in x.kind) s.x s.folder s.named))
        ∙ ap (option_map as_copied) (sym (change.same l.copy.source (apart_from top.target l.copy.source l.copy.target off change.on) ∙ s.stands)))

    one_set : (o : Level) → (is_prefix top.target o.copy.source ≡ false → IsShown v o.copy.source o.copy.target) → is_prefix top.target o.copy.source ≡ false → IsShown w o.copy.source o.copy.target
    one_set o shown off = by (same_path o.copy.target l.copy.target) refl
      where
        stands_still : (x : Value) → (v o.copy.source).value ≡ Some x → (w o.copy.source).value ≡ Some x
        stands_still x is = change.same o.copy.source (apart_from top.target o.copy.source l.copy.target off change.on) ∙ is

        by : (b : Bool) → same_path o.copy.target l.copy.target ≡ b → IsShown w o.copy.source o.copy.target
        by false apart = let s = shown off in record { x = s.x; stands = stands_still s.x s.stands; folder = s.folder; named = s.named; mode = s.mode; made = change.same o.copy.target apart ∙ s.made }
        by true same =
            let s = shown off in
            let here : o.copy.target ≡ l.copy.target = same_path-true o.copy.target l.copy.target same in
            let made : (v l.copy.target).value ≡ folder_with s.mode = ap (λ p. (v p).value) (sym here) ∙ s.made in
            let mode_now = moded (v (moved_from top.source top.target l.copy.target)).value s.mode in
            record {
              x = s.x;
              stands = stands_still s.x s.stands;
              folder = s.folder;
              named = s.named;
              mode = mode_now.0;
              made = ap (λ p. (w p).value) here ∙ (put_value v l.copy.target _ ∙ (ap (option_map (with_mode_of (v (moved_from top.source top.target l.copy.target)).value)) made ∙ mode_now.1));
            }

    all_set : (inner : Level) (around : List Level) → AreOpened v top.target inner around → AreOpened w top.target inner around
    all_set inner [] h = tt
    all_set inner (outer ∷ around) h = (
      (let o : IsOpened v top.target inner = h.0 in record { made = o.made; shown = one_set inner o.shown }),
      all_set outer around h.1,
    )

    -- what is due then, but for the folder itself
    abbrev given : Level
    given = level l.names (record l.copy { stage = at.Close None; names = Dirty })

    set_due : (path : Route) → IsDue l path → IsDue given path ⊎ (path ≡ l.copy.source)
    set_due path (inl ahead) = inl (inl ahead)
    set_due path (inr (mode, owed, is)) = inr is

    set_thing : (around : List Level) (rest : Route) → is_prefix top.target (rest ++ top.source) ≡ false → IsAccounted v passed l around (rest ++ top.source) (rest ++ top.target)
        → IsAccounted w passed given around (rest ++ top.source) (rest ++ top.target)
    set_thing around rest off a = by (same_path (rest ++ top.target) l.copy.target) refl
      where
        itself : rest ++ top.source ≡ l.copy.source → rest ++ top.target ≡ l.copy.target → IsAccounted w passed given around (rest ++ top.source) (rest ++ top.target)
        itself from to = inr (inr (subst (λ p. IsCopy w p (rest ++ top.target)) (sym from) (subst (λ t. IsCopy w l.copy.source t) (sym to) (set_copied (subst (λ p. is_prefix top.target p ≡ false) from off)))))

        other : (rest ++ top.target ≡ l.copy.target → ⊥) → IsAccounted v passed l around (rest ++ top.source) (rest ++ top.target) → IsAccounted w passed given around (rest ++ top.source) (rest ++ top.target)
        other apart (inl covered) = inl covered
        other apart (inr (inr copy)) = inr (inr (copy_changed v w top l.copy.target change (rest ++ top.source) (rest ++ top.target) off apart copy))
        other apart (inr (inl pending)) = elim (pending_or l given around (rest ++ top.source) (set_due (rest ++ top.source)) pending) [
          | inl still ↦ inr (inl still)
          | inr is ↦ absurd (apart (same_rest top l.copy.source l.copy.target rest [] m is))
        ]

        by : (b : Bool) → same_path (rest ++ top.target) l.copy.target ≡ b → IsAccounted w passed given around (rest ++ top.source) (rest ++ top.target)
        by true same = let to = same_path-true (rest ++ top.target) l.copy.target same in itself (source_of top l.copy.source l.copy.target rest m to) to
        by false apart = other (λ to. both_ways _ apart (subst (λ p. same_path (rest ++ top.target) p ≡ true) to (same_path-self (rest ++ top.target)))) a

  -- the step at the end of a folder, whose children are decided
  module _ (old new : Seen) (did : Did) (before after : Option CallLog) (h : TreeDone v passed top old) (none : old.item ≡ Next) (moved : AreMoved top old.levels.inner old.levels.around) (e : FolderEnds old new did before after) where
    abbrev Ended_at : Did → FolderCopying → Seen
    Ended_at d c = record old { stage = after_report d old.stage; levels = with_copy c old.levels }

    kept : (d : Did) (c : FolderCopying) → c.source ≡ old.levels.inner.copy.source → c.target ≡ old.levels.inner.copy.target → c.stage ≡ old.levels.inner.copy.stage → TreeDone v passed top (Ended_at d c)
    kept d c from to stage = record {
      things = λ rest off. accounted_map v passed old.levels.inner (level old.levels.inner.names c) old.levels.around (rest ++ top.source) (rest ++ top.target) (due (rest ++ top.source)) (h.things rest off);
      folders = opened_inner v top.target old.levels.inner (level old.levels.inner.names c) old.levels.around (λ o. record {
        made = λ mode is. o.made mode (sym stage ∙ is);
        shown = λ off. subst (λ s. IsShown v s c.target) (sym from) (subst (λ t. IsShown v old.levels.inner.copy.source t) (sym to) (o.shown (subst (λ s. is_prefix top.target s ≡ false) from off)));
      }) h.folders;
      item = subst (λ i. ItemDone v passed top.target (level old.levels.inner.names c) old.levels.around i) (sym none) tt;
    }
      where
        due : (path : Route) → IsDue old.levels.inner path → IsDue (level old.levels.inner.names c) path
        due path (inl (name, among, below)) = inl (name, among, subst (λ s. is_prefix (name ∷ s) path ≡ true) (sym from) below)
        due path (inr (mode, owed, is)) = inr (mode, ap owed_of stage ∙ owed, is ∙ sym from)

    given_mode : (around : List Level) → old.levels.around ≡ around → (mode : ℕ) → old.levels.inner.copy.stage ≡ at.Close (Some mode)
        → TreeDone (Then (common.Set old.levels.inner.copy.target)) passed top (Ended_at (common.Set old.levels.inner.copy.target) (record old.levels.inner.copy { stage = at.Close None; names = Dirty }))
    given_mode [] is mode stage = (let k = subst (AreMoved top old.levels.inner) is moved in absurd (let x : Some mode ≡ None = sym (ap owed_of stage) ∙ k.keeps in let f : ⊥ = cc in f))
    given_mode (outer ∷ around) is mode stage =
        let m = (subst (AreMoved top old.levels.inner) is moved).0 in
        let o = (subst (AreOpened v top.target old.levels.inner) is h.folders).0 in
        let l = old.levels.inner in
        record {
          things = λ rest off. set_thing l m o old.levels.around rest off (h.things rest off);
          folders = opened_inner (Then (common.Set l.copy.target)) top.target l (given l m o) old.levels.around (λ x. record { made = λ other is. (let f : ⊥ = cc in f); shown = x.shown }) (all_set l m o l old.levels.around h.folders);
          item = subst (λ i. ItemDone (Then (common.Set l.copy.target)) passed top.target (given l m o) old.levels.around i) (sym none) tt;
        }

    by_report : (report : FolderDid) (d : Did) → IsToldAs report d → (c : FolderCopying) → Tells old.levels.inner.copy report c → TreeDone (Then d) (passed_at top d passed) top (Ended_at d c)
    by_report (folder_did.Made path) d says c (mode, stage, path_is, new_is) = absurd (not_made v top old.levels.inner old.levels.around moved h.folders mode stage)
    by_report (folder_did.Set path) d says c (mode, stage, path_is, new_is) =
        subst (λ x. TreeDone (Then x) (passed_at top x passed) top (Ended_at x c)) (sym (says ∙ ap common.Set path_is))
        (subst (λ x. TreeDone (Then (common.Set old.levels.inner.copy.target)) passed top (Ended_at (common.Set old.levels.inner.copy.target) x)) (sym new_is) (given_mode old.levels.around refl mode stage))
    by_report folder_did.Barrier d says c (stage, dirty, new_is) =
        subst (λ x. TreeDone (Then x) (passed_at top x passed) top (Ended_at x c)) (sym says)
        (kept common.Barrier c (ap (λ (x : FolderCopying). x.source) new_is) (ap (λ (x : FolderCopying). x.target) new_is) (ap (λ (x : FolderCopying). x.stage) new_is))
    by_report (folder_did.Troubled trouble) d says c (barrier, new_is) =
        subst (λ x. TreeDone (Then x) (passed_at top x passed) top (Ended_at x c)) (sym says)
        (kept (common.Troubled trouble) c (ap (λ (x : FolderCopying). x.source) new_is) (ap (λ (x : FolderCopying). x.target) new_is) (ap (λ (x : FolderCopying). x.stage) new_is))
    by_report folder_did.Closed d says c t = absurd says

    pub ends_done : TreeDone (Then did) (passed_at top did passed) top new
    ends_done = subst (TreeDone (Then did) (passed_at top did passed) top) (sym e.stands) (by_report e.report did e.says e.moved e.tells)

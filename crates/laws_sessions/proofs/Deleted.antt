-- A removal keeps what is known, of a file and of an empty folder.
use Rattle.std.proofs.Common.{◌≡◌, ◌⊎◌, ℕ, Bool, true, false, not, ◌&&◌, ◌||◌, List, [], ◌∷◌, refl, sym, ◌∙◌, ap, subst, inl, inr, Option, Some, None, Ok, cond}
use Rattle.std.proofs.lemmas.Bool.{both_ways, false≢true, false_from_ne_true, or_left, or_right, or_parts}
use Rattle.mc_text.specs.Routes.{Route, same_path}
use Rattle.tree_trait.specs.declared.file_system.FileSystem.{FileSystem}
use Rattle.tree_trait.specs.FileSystem.{Value, Spot, View, find, node, starts_mount, view_with, visible_tree}
use Rattle.tree_trait.specs.Shape.{IsTree, IsRemovable}
use Rattle.tree_trait.specs.declared.calls.TreeError.TheVariants.{NotFolder, Mounted}
use Rattle.tree_trait.specs.Refusals.{is_folder, refusal_of}
use Rattle.tree_trait.specs.Calls.{RemoveFile, RemoveFolder}
use Rattle.tree_trait.specs.Change.{Nothing, Removes, CallLog, current, with_change, change_of, found_node}
use Rattle.tree_trait.specs.CrashImages.{Among}
use Rattle.tree_trait.specs.Answers.{Performs}
use Rattle.tree_trait.proofs.Visible.{same_path-self, same_path-true}
use Rattle.tree_trait.proofs.Walking.{check_passes, removable}
use Rattle.laws_crash.specs.Guarded.{Marks}
use Rattle.job_reports.specs.declared.report.Did.TheVariants.{Removed}
use Rattle.job_reports.specs.Jobs.{folder_changed}
use Rattle.job_reports.specs.Paths.{folder_of}
use Rattle.job_reports.proofs.CallAnswers.{done_call, IsDoneCall}
use Rattle.copy_move.specs.declared.work.Work.{Work}
use Rattle.copy_move.specs.declared.run.Course.{Course}
use Rattle.laws_sessions.specs.Doubt.{is_joint, way_waits}
use Rattle.laws_sessions.proofs.Calming.{nothing_known}
use Rattle.laws_sessions.proofs.Changing.{IsHollow, hollow_file, removed_known}
use Rattle.laws_sessions.proofs.Emptied.{IsEmptied, emptied}
use Rattle.laws_sessions.proofs.Knowing.{IsCalmPath, IsKept, IsKnown, HistoryFacts, held, settled_marks}
use Rattle.laws_sessions.proofs.JobKnows.{WorkKnows, work_settled, work_still}
use Rattle.laws_sessions.proofs.OwnNames.{may_change}
use Rattle.laws_sessions.proofs.Resting.{IsOfFiles, IsSureFolder, bare_unjoined, folder_at}
use Rattle.laws_sessions.proofs.Restless.{IsUnjoined}
use Rattle.laws_sessions.proofs.Sources.{item_in}
use Rattle.laws_sessions.proofs.Stepped.{StepRan, comes_none, comes_one, folders_by, said_after}

-- no mount begins at what is no folder
pub file_no_mount : (s : FileSystem) → IsTree s → (i : ℕ) → is_folder (node s i) ≡ false → starts_mount s i ≡ false
file_no_mount s tree i bare = false_from_ne_true _ (λ on. both_ways _ bare (tree.mounts i on))

pub put_off : (v : View) (path : Route) (new : Option Value) (p : Route) → same_path p path ≡ false → view_with v path new p ≡ v p
put_off v path new p off = ap (λ b. cond b (record (v p) { value = new }) (v p)) off

pub put_at : (v : View) (path : Route) (new : Option Value) → view_with v path new path ≡ record (v path) { value = new }
put_at v path new = ap (λ b. cond b (record (v path) { value = new }) (v path)) (same_path-self path)

-- a call that changed nothing: what is known holds on
pub comes_refused : (told : HistoryFacts) (dirty : List Route) (marks : Marks) (log now : CallLog) (course : Course) (work : Work) → IsKept told dirty marks log → WorkKnows told dirty marks log course work
    → (now ≡ log) ⊎ (now ≡ with_change log Nothing) → StepRan told told dirty log now (λ m. WorkKnows told dirty m now course work)
comes_refused told dirty marks log now course work kept knows (inl same) =
    comes_none told told dirty log now (λ m. WorkKnows told dirty m now course work) marks same kept (subst (λ (l : CallLog). WorkKnows told dirty marks l course work) (sym same) knows)
comes_refused told dirty marks log now course work kept knows (inr more) =
    comes_one told told dirty dirty marks marks log now Nothing (λ m. WorkKnows told dirty m now course work) kept more
    (subst (λ (l : CallLog). IsKnown told dirty marks l) (sym more) (nothing_known told dirty marks log kept.known))
    (work_settled now marks told dirty course work (work_still told dirty marks log now course work kept.known.guarded.tree (Nothing, more, inl refl) knows))

pub either : (a b : Bool) → (a || b) ≡ true → (a ≡ true) ⊎ (b ≡ true)
either true b h = inl refl
either false b h = inr h

-- of two that both hold, the second of which denies something
both_hold : (a b : Bool) → (a && not b) ≡ true → (a ≡ true) × (b ≡ false)
both_hold true false h = (refl, refl)
both_hold true true h = absurd (false≢true h)
both_hold false b h = absurd (false≢true h)

-- the root isn't removed
root_stays : (s : FileSystem) → IsTree s → refusal_of s (RemoveFolder []) ≡ None → ⊥
root_stays s tree h =
    let a = check_passes (not (is_folder (node s 0))) NotFolder _ h in
    let b = check_passes (starts_mount s 0) Mounted _ a.1 in
    false≢true (sym b.0 ∙ tree.mounted)

-- a removal that was done: what stood there holds nothing, no mount begins at it, and the log then
pub record IsRemoval (log now : CallLog) (path : Route) : Type 0 where
  pub r : IsHollow (current log) path
  pub k : ℕ
  pub mountless : starts_mount (current log) (let h : IsHollow (current log) path = r in h.i) ≡ false
  pub now_is : now ≡ with_change log (Removes (let h : IsHollow (current log) path = r in h.f) (let h : IsHollow (current log) path = r in h.name) k)

-- of a file
pub removal_done : (log now : CallLog) (path : Route) → IsTree (current log) → Performs {A = Unit {0}} log (RemoveFile path) (Ok tt) (Some now) → IsRemoval log now path
removal_done log now path tree done =
    let d = done_call log (RemoveFile path) now done in
    at (removable (current log) path tree d.permits) d
  where
    at : IsRemovable (current log) path → IsDoneCall log (RemoveFile path) now → IsRemoval log now path
    at r d = record {
      r = hollow_file (current log) path tree r;
      k = found_node (current log) path;
      mountless = file_no_mount (current log) tree r.i r.no_folder;
      now_is = d.is ∙ ap (with_change log) (
          ap (λ p. change_of (current log) (RemoveFile p) d.time) r.path_is
          ∙ (ap (λ f. Removes f r.name (found_node (current log) (r.name ∷ r.up))) (ap (λ o. Rattle.std.specs.Prelude.unwrap_or o 0) r.folder)
          ∙ ap (λ p. Removes r.f r.name (found_node (current log) p)) (sym r.path_is))
          );
    }

-- of a folder
pub folder_removed : (log now : CallLog) (path : Route) → IsTree (current log) → Performs {A = Unit {0}} log (RemoveFolder path) (Ok tt) (Some now) → IsRemoval log now path
folder_removed log now [] tree done =
    let d = done_call log (RemoveFolder []) now done in
    absurd (root_stays (current log) tree d.permits)
folder_removed log now (name ∷ up) tree done =
    let d = done_call log (RemoveFolder (name ∷ up)) now done in
    at (emptied (current log) name up d.permits) d
  where
    at : IsEmptied (current log) (name ∷ up) → IsDoneCall log (RemoveFolder (name ∷ up)) now → IsRemoval log now (name ∷ up)
    at e d =
        let h = e.hollow in
        record {
          r = h;
          k = found_node (current log) (name ∷ up);
          mountless = e.no_mount;
          now_is = d.is ∙ ap (with_change log) (
              ap (λ p. change_of (current log) (RemoveFolder p) d.time) h.path_is
              ∙ (ap (λ f. Removes f h.name (found_node (current log) (h.name ∷ h.up))) (ap (λ o. Rattle.std.specs.Prelude.unwrap_or o 0) h.folder)
              ∙ ap (λ p. Removes h.f h.name (found_node (current log) p)) (sym h.path_is))
              );
        }

-- it leads there
pub removal_leads : (log now : CallLog) (path : Route) (it : IsRemoval log now path) → find (current log) path ≡ Some (let h = (let i : IsRemoval log now path = it in i.r) in h.i)
removal_leads log now path it =
    ap (find (current log)) it.r.path_is ∙ (ap (Rattle.std.specs.Prelude.option_and_then (λ f. Rattle.tree_trait.specs.FileSystem.lookup (current log).names f it.r.name)) it.r.folder ∙ it.r.leads)

-- for a file no renaming waits, as it does for a folder and another one
pub file_unjoined : (log now : CallLog) (path : Route) (it : IsRemoval log now path) → IsTree (current log) → IsOfFiles log → folder_at (current log) path ≡ false → (g : ℕ) → is_joint (let h = (let i : IsRemoval log now path = it in i.r) in h.i) g log.changes ≡ false
file_unjoined log now path it tree files bare g =
    bare_unjoined log tree files it.r.i g (sym (ap (λ o. Rattle.std.specs.Option.option_map_or (λ j. is_folder (node (current log) j)) o false) (removal_leads log now path it)) ∙ bare)

-- A thing is removed, of which a job knows that nothing was done there yet, that the folder in which it changes names is on the disk, and that which holds the thing, that its own
-- paths are calm, and that no mode of the thing waits, nor a renaming for it and another folder.
pub removes_thing : (told : HistoryFacts) (dirty dirty_after : List Route) (marks : Marks) (log now : CallLog) (path : Route) (work : Work) (knows : Marks → Type 0) → IsKept told dirty marks log → told.part ≡ None
    → (marks.aside path ≡ false → marks.was path ≡ find (current log) path) → IsSureFolder log (folder_changed (item_in work)) → way_waits log (folder_of path) ≡ false → ((p : Route) → may_change (item_in work) p ≡ true → IsCalmPath marks log p)
    → ((i : ℕ) → find (current log) path ≡ Some i → starts_mount (current log) i ≡ false → marks.modes i ≡ None) → IsUnjoined log path → Among dirty_after (folder_of path)
    → ((q : Route) → Among dirty q → same_path q path ≡ false → Among dirty_after q)
    → IsRemoval log now path → knows (settled_marks now marks) → StepRan told (said_after now (Removed path) work told) dirty_after log now knows
removes_thing told dirty dirty_after marks log now path work knows kept none was firm sure calm no_mode apart listed more it known_of =
    comes_one told (said_after now (Removed path) work told) dirty dirty_after marks marks log now (Removes it.r.f it.r.name it.k) knows kept it.now_is
    (subst (λ (l : CallLog). IsKnown (said_after now (Removed path) work told) dirty_after marks l) (sym it.now_is)
    (removed_known told (said_after now (Removed path) work told) dirty dirty_after marks log kept.known path it.r it.k (record {
      named = kept.known.aside;
      off = λ p off. (put_off told.tree path None p off, put_off told.earlier path (told.tree path).value p off, no_part p);
      left = λ p off among. Rattle.laws_sessions.proofs.Calming.still_listed path p told.left among off;
      gone = put_at told.tree path None ∙ ap (λ b. (let s : Spot = record { value = None; is_mount = b } in s)) mountless;
      was = λ out. ap (held (current log)) (was out) ∙ (sym (ap (λ (s : Spot). s.value) shown) ∙ sym (ap (λ (s : Spot). s.value) (put_at told.earlier path (told.tree path).value)));
      part = none;
      doubts = λ n p h. or_left _ _ h;
      spared = λ n p off. (or_parts (told.written n p) (same_path p path) off).0;
      folders = folder_said;
      modes = λ p h. h;
      calm = λ p h. elim (either (may_change (item_in work) p) (told.calm p) h) [ inl here ↦ inr (calm p here) | inr before ↦ inl before ];
      doubted = λ n. or_right _ _ (same_path-self path);
    }) was kept.roams (ap (λ q. way_waits log (folder_of q)) (sym it.r.path_is) ∙ sure) (no_mode it.r.i (removal_leads log now path it) it.mountless) (λ g. apart it.r.i g (removal_leads log now path it)) (subst (λ q. Among dirty_after (folder_of q)) it.r.path_is listed) more))
    known_of
  where
    no_part : (p : Route) → told.part ≡ Some p → ⊥
    no_part p is = let e : (let o : Option Route = None in o) ≡ Some p = sym none ∙ is in cc

    -- a folder that is said to be on the disk then was said so before, or it is the one in which the job changes names
    folder_said : (p : Route) → folders_by (Removed path) (folder_changed (item_in work)) told.folders p ≡ true → (same_path p path ≡ false) × ((told.folders p ≡ true) ⊎ IsSureFolder log p)
    folder_said p there =
        let both = both_hold (same_path p (folder_changed (item_in work)) || told.folders p) (same_path p path) there in (
          both.1,
          elim (either (same_path p (folder_changed (item_in work))) (told.folders p) both.0) [
            | inl same ↦ inr (subst (λ q. IsSureFolder log q) (sym (same_path-true p (folder_changed (item_in work)) same)) firm)
            | inr before ↦ inl before
          ],
        )

    shown : told.tree path ≡ visible_tree (current log) path
    shown = sym (kept.known.shows path (no_part path))

    mountless : (told.tree path).is_mount ≡ false
    mountless = ap (λ (s : Spot). s.is_mount) shown ∙ (ap (λ o. Rattle.std.specs.Option.option_map_or (starts_mount (current log)) o false) (removal_leads log now path it) ∙ it.mountless)

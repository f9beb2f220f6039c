-- A step of a deletion, as its machine makes it.
use Rattle.std.proofs.Common.{◌≡◌, ◌⊎◌, ℕ, suc, zero, ◌+◌, ◌-◌, ◌<◌, ◌≤◌, Bool, true, false, not, List, [], ◌∷◌, length, refl, sym, ◌∙◌, ap, subst, inl, inr, Option, Some, None, Ok, Err, arith}
use Rattle.std.specs.Prelude.{if◌then◌else◌, slice_get}
use Rattle.std.proofs.lemmas.Bool.{and_parts, or_left, true≢false, false≢true}
use Rattle.mc_text.specs.Routes.{Route, is_prefix, parent_of, same_path}
use Rattle.tree_trait.specs.declared.calls.TreeError.{TreeError}
use Rattle.tree_trait.specs.Calls.{RemoveFile, RemoveFolder}
use Rattle.tree_trait.specs.Change.{CallLog}
use Rattle.tree_trait.specs.Answers.{IfKnown, Performs}
use Rattle.tree_trait.specs.CrashImages.{Among}
use Rattle.tree_trait.proofs.Visible.{same_path-self}
use Rattle.job_reports.specs.declared.report.Cause.{Cause}
use Rattle.job_reports.specs.declared.report.Trouble.{Trouble}
use Rattle.job_reports.specs.declared.report.Ending.{Ending}
use Rattle.job_reports.specs.declared.report.Ending.TheVariants.{Finished, Aborted, Killed, NoMemory}
use Rattle.job_reports.specs.declared.report.Did.{Did}
use Rattle.job_reports.specs.declared.report.Did.TheVariants.{Began, Chunk, Placed, Removed, Made, Set, Kept, Skipped, Cleaned, Barrier, Asked, Merges, Moved, Troubled, Ended}
use Rattle.job_reports.specs.Paths.{folder_of, without}
use Rattle.job_reports.specs.Reports.{IsFault, TellsFault}
use Rattle.job_reports.specs.Stops.{cause_of, out_of_memory_at, sync_answer}
use Rattle.job_reports.specs.declared.report.StepResult.{StepResult}
use Rattle.job_answers.specs.Skipping.{holds, is_passed_over, kind_in, passed_cause}
use Rattle.job_answers.specs.declared.replies.Replies.{Replies}
use Rattle.job_answers.specs.declared.skips.Skips.{Skips as Kinds}
use Rattle.delete_job.specs.declared.deletion.Stage.{Stage}
use Rattle.delete_job.specs.declared.deletion.Stage.TheVariants.{Begin, Going, Sync}
use Rattle.delete_job.specs.declared.deletion.Deletion.{Deletion}
use Rattle.delete_job.specs.Descending.{Descends, Enters}
use Rattle.job_unsynced.specs.Folders.{IsOwn, is_of, joined_folders}
use Rattle.delete_job.specs.Inside.{IsInside}
use Rattle.delete_job.specs.Standing.{End, DeletionItem, Thing, after_item, at_barrier, item}
use Rattle.delete_job.specs.TreeDeletionSteps.{IsProgress, KeepsRest, LastSteps, RemovalLeaves, Skips, SyncSteps, Syncs, TakesOff, Tries, WorkCalls, WorkLeaves, WorkSteps, Works, after_try as machine_try, next_try, path_of, removal_of}
use Rattle.delete_job.proofs.Staying.{descends_inside, item_inside, skip_falls, skip_inside, skip_less, work_inside}
use Rattle.delete_job.specs.Deletions.{Deleting, DeletionCalls, DeletionLeaves, IsAtStage, IsRefused, Tells, left_in, machine_of}
use Rattle.delete_job.specs.Deletions as deletions
use Rattle.delete_job.specs.DeletionSteps.{DeletionSkips, DeletionStep, Goes, LastDeletionStep, OrPassedOver, TriesNext, after_try, is_decided, step_result}

-- a folder the fewer, where it is one of them
pub fewer : (folder : Route) (dirty : List Route) → length (without folder dirty) ≤ length dirty
fewer folder [] = omega arith
fewer folder (first ∷ rest) = go (fewer folder rest) (same_path first folder)
  where
    go : length (without folder rest) ≤ length rest → (b : Bool) → length (if not b then first ∷ without folder rest else without folder rest) ≤ length (first ∷ rest)
    go less true = omega (arith, less)
    go less false = omega (arith, less)

pub one_fewer : (folder : Route) (dirty : List Route) → Among dirty folder → length (without folder dirty) < length dirty
one_fewer folder [] among = absurd among
one_fewer folder (first ∷ rest) (inl is) =
    let same : same_path first folder ≡ true = subst (λ p. same_path p folder ≡ true) is (same_path-self folder) in
    subst (λ b. length (if not b then first ∷ without folder rest else without folder rest) < length (first ∷ rest)) (sym same) (let less = fewer folder rest in omega (arith, less))
one_fewer folder (first ∷ rest) (inr among) = go (one_fewer folder rest among) (same_path first folder)
  where
    go : length (without folder rest) < length rest → (b : Bool) → length (if not b then first ∷ without folder rest else without folder rest) < length (first ∷ rest)
    go less true = omega (arith, less)
    go less false = omega (arith, less)

stands_among : (dirty : List Route) (at : ℕ) (folder : Route) → slice_get dirty at ≡ Some folder → Among dirty folder
stands_among [] at folder h = absurd (let f : ⊥ = cc in f)
stands_among (first ∷ rest) zero folder h = inl (let e : folder ≡ first = cc in e)
stands_among (first ∷ rest) (suc at) folder h = inr (stands_among rest at folder h)

-- the machine and what is seen of it
abbrev pub seen : Deletion → ℕ → Deleting
seen m tried = record { path = m.path; stage = m.stage; depth = m.depth; place = m.walk.place; tried = tried }

folder_is : (path folder : Route) → parent_of path ≡ Some folder → folder ≡ folder_of path
folder_is [] folder h = absurd (let f : ⊥ = cc in f)
folder_is (name ∷ up) folder h = let e : up ≡ folder = cc in sym e

pub machine_is : (m : Deletion) (tried : ℕ) → parent_of m.path ≡ Some m.folder → m ≡ machine_of (seen m tried) m.walk.spare
machine_is m tried h = ap (λ f. (let d : Deletion = record m { folder = f } in d)) (folder_is m.path m.folder h)

sync_is : (stage : Stage) → at_barrier stage ≡ true → stage ≡ Sync
sync_is Sync h = refl
sync_is Begin h = absurd (false≢true h)
sync_is Going h = absurd (false≢true h)

itself : (d : Deleting) → IsAtStage d d.stage d
itself d = record { path_is = refl; stage_is = refl; tried_is = refl }

-- a report that isn't a skip tells of a fault where it is one
fault_of : (P : Did → Type 0) (did : Did) → ((path : Route) (cause : Cause) → P (Skipped path cause) → ⊥) → P did → TellsFault did → IsFault did
fault_of P (Troubled trouble) none p h = h
fault_of P (Skipped path cause) none p h = absurd (none path cause p)
fault_of P (Began part) none p h = h
fault_of P (Chunk count) none p h = h
fault_of P (Asked question) none p h = h
fault_of P (Merges transfer pair names) none p h = h
fault_of P (Moved pair) none p h = h
fault_of P (Set path) none p h = h
fault_of P (Placed path) none p h = h
fault_of P (Removed path) none p h = h
fault_of P (Made path) none p h = h
fault_of P (Kept path) none p h = h
fault_of P (Cleaned part) none p h = h
fault_of P Barrier none p h = h
fault_of P (Ended ending part) none p h = h

-- a step that syncs
module _ (m : Deletion) (tried : ℕ) (replies : Replies) (holds : parent_of m.path ≡ Some m.folder) (barrier : at_barrier m.stage ≡ true) (dirty dirty_after : List Route) (before after : Option CallLog) where
  sync_tells : (did : Did) → Syncs m did dirty dirty_after before after → Tells replies (seen m tried) did (seen m tried)
  sync_tells Barrier s = (sync_is m.stage barrier, itself (seen m tried))
  sync_tells (Troubled trouble) (e, folder, own, is, left, called) = (ap (λ (t : Trouble). t.barrier) is ∙ sym barrier, itself (seen m tried))
  sync_tells (Ended Finished part) (ending, part_is, none, same, after_is) = (sync_is m.stage barrier, part_is, itself (seen m tried))
  sync_tells (Ended Aborted part) (ending, part_is, none, same, after_is) = absurd (let f : ⊥ = cc in f)
  sync_tells (Ended Killed part) (ending, part_is, none, same, after_is) = absurd (let f : ⊥ = cc in f)
  sync_tells (Ended NoMemory part) (ending, part_is, none, same, after_is) = absurd (let f : ⊥ = cc in f)
  sync_tells (Began part) s = absurd s
  sync_tells (Chunk count) s = absurd s
  sync_tells (Asked question) s = absurd s
  sync_tells (Merges transfer pair names) s = absurd s
  sync_tells (Moved pair) s = absurd s
  sync_tells (Set path) s = absurd s
  sync_tells (Placed path) s = absurd s
  sync_tells (Made path) s = absurd s
  sync_tells (Removed path) s = absurd s
  sync_tells (Kept path) s = absurd s
  sync_tells (Skipped path cause) s = absurd s
  sync_tells (Cleaned part) s = absurd s

  sync_calls : (did : Did) → Syncs m did dirty dirty_after before after → IfKnown before (λ log. DeletionCalls did log after)
  sync_calls Barrier (folder, own, left, called) log known = (folder, called log known)
  sync_calls (Troubled trouble) (e, folder, own, is, left, called) log known = inr (e, inl (ap (λ (t : Trouble). t.cause) is), deletions.RefusedSync folder (called log known))
  sync_calls (Ended ending part) (ending_is, part_is, none, same, after_is) log known = after_is ∙ known
  sync_calls (Began part) s log known = absurd s
  sync_calls (Chunk count) s log known = absurd s
  sync_calls (Asked question) s log known = absurd s
  sync_calls (Merges transfer pair names) s log known = absurd s
  sync_calls (Moved pair) s log known = absurd s
  sync_calls (Set path) s log known = absurd s
  sync_calls (Placed path) s log known = absurd s
  sync_calls (Made path) s log known = absurd s
  sync_calls (Removed path) s log known = absurd s
  sync_calls (Kept path) s log known = absurd s
  sync_calls (Skipped path cause) s log known = absurd s
  sync_calls (Cleaned part) s log known = absurd s

  own_is : (folder : Route) → IsOwn m.folder m.path dirty folder → IsOwn (folder_of m.path) m.path dirty folder
  own_is folder own = subst (λ up. IsOwn up m.path dirty folder) (folder_is m.path m.folder holds) own

  sync_leaves : (did : Did) → Syncs m did dirty dirty_after before after → DeletionLeaves (seen m tried) did dirty dirty_after before after
  sync_leaves Barrier (folder, own, left, called) = (folder, own_is folder own, left, called)
  sync_leaves (Troubled trouble) (e, folder, own, is, left, called) = left
  sync_leaves (Ended ending part) (ending_is, part_is, none, same, after_is) = (subst (λ up. Rattle.job_unsynced.specs.Folders.NoneOf up m.path dirty) (folder_is m.path m.folder holds) none, same)
  sync_leaves (Began part) s = absurd s
  sync_leaves (Chunk count) s = absurd s
  sync_leaves (Asked question) s = absurd s
  sync_leaves (Merges transfer pair names) s = absurd s
  sync_leaves (Moved pair) s = absurd s
  sync_leaves (Set path) s = absurd s
  sync_leaves (Placed path) s = absurd s
  sync_leaves (Made path) s = absurd s
  sync_leaves (Removed path) s = absurd s
  sync_leaves (Kept path) s = absurd s
  sync_leaves (Skipped path cause) s = absurd s
  sync_leaves (Cleaned part) s = absurd s

  no_progress : (did : Did) → Syncs m did dirty dirty_after before after → is_decided did ≡ true → ⊥
  no_progress (Removed path) s h = s
  no_progress (Kept path) s h = s
  no_progress Barrier s h = false≢true h
  no_progress (Troubled trouble) s h = false≢true h
  no_progress (Ended ending part) s h = false≢true h
  no_progress (Began part) s h = s
  no_progress (Chunk count) s h = s
  no_progress (Asked question) s h = s
  no_progress (Merges transfer pair names) s h = s
  no_progress (Moved pair) s h = s
  no_progress (Set path) s h = s
  no_progress (Placed path) s h = s
  no_progress (Made path) s h = s
  no_progress (Skipped path cause) s h = s
  no_progress (Cleaned part) s h = s

  pub step_syncs : (did : Did) (calls f0 f1 : ℕ) → SyncSteps m did calls dirty dirty_after before after f0 f1 → DeletionStep replies (seen m tried) (seen m tried) did calls dirty dirty_after before after f0 f1
  step_syncs did calls f0 f1 s = record {
    goes = inr (m.walk.spare, subst (λ (x : Deletion). SyncSteps x did calls dirty dirty_after before after f0 f1) (machine_is m tried holds) s, refl);
    tells = sync_tells did s.syncs;
    called = sync_calls did s.syncs;
    leaves = sync_leaves did s.syncs;
    fewer = λ h. absurd (no_progress did s.syncs h);
    counted = s.counted;
    few = s.few;
    unknown = s.unknown;
    later = s.later;
    fault = λ h. s.fault (fault_of (λ d. Syncs m d dirty dirty_after before after) did (λ path cause x. x) s.syncs h);
  }

-- on its way down a deletion keeps its stage
pub record IsOnStage (old new : Deletion) : Type 0 where
  pub path_is : new.path ≡ old.path
  pub folder_is : new.folder ≡ old.folder
  pub stage_is : new.stage ≡ old.stage

descends_same : (contents : Option CallLog) (old mid : Deletion) (entered : List Route) → Descends contents old entered mid → IsOnStage old mid
descends_same contents old mid [] d = record { path_is = d.path_is; folder_is = d.folder_is; stage_is = d.stage_is }
descends_same contents old mid (folder ∷ before) d =
    let k = descends_same contents old d.0 before d.1 in
    let o = (let e : Enters contents d.0 folder mid = d.2 in e.opened_is) in
    record { path_is = o.path_is ∙ k.path_is; folder_is = o.folder_is ∙ k.folder_is; stage_is = o.stage_is ∙ k.stage_is }

-- a removal is of a thing, or of a folder
removal_called : (i : DeletionItem) (path : Route) (log : CallLog) (after : Option CallLog) → path ≡ path_of i → Performs {A = Unit {0}} log (removal_of i) (Ok tt) after
    → Performs {A = Unit {0}} log (RemoveFile path) (Ok tt) after ⊎ Performs {A = Unit {0}} log (RemoveFolder path) (Ok tt) after
removal_called (Thing thing) path log after is done = inl (subst (λ p. Performs {A = Unit {0}} log (RemoveFile p) (Ok tt) after) (sym is) done)
removal_called (End folder) path log after is done = inr (subst (λ p. Performs {A = Unit {0}} log (RemoveFolder p) (Ok tt) after) (sym is) done)

removal_refused : (i : DeletionItem) (log : CallLog) (e : TreeError) (after : Option CallLog) → Performs {A = Unit {0}} log (removal_of i) (Err e) after → IsRefused log e after
removal_refused (Thing thing) log e after h = deletions.RefusedFile thing h
removal_refused (End folder) log e after h = deletions.RefusedFolder folder h

removal_leaves : (i : DeletionItem) (path : Route) (dirty dirty_after : List Route) (before after : Option CallLog) → path ≡ path_of i → RemovalLeaves i path dirty dirty_after
    → IfKnown before (λ log. Performs {A = Unit {0}} log (removal_of i) (Ok tt) after)
    → ((dirty_after ≡ joined_folders (folder_of path) dirty) × IfKnown before (λ log. Performs {A = Unit {0}} log (RemoveFile path) (Ok tt) after))
    ⊎ ((dirty_after ≡ without path (joined_folders (folder_of path) dirty)) × IfKnown before (λ log. Performs {A = Unit {0}} log (RemoveFolder path) (Ok tt) after))
removal_leaves (Thing thing) path dirty dirty_after before after is leaves done = inl (leaves, λ log known. subst (λ p. Performs {A = Unit {0}} log (RemoveFile p) (Ok tt) after) (sym is) (done log known))
removal_leaves (End folder) path dirty dirty_after before after is leaves done = inr (leaves, λ log known. subst (λ p. Performs {A = Unit {0}} log (RemoveFolder p) (Ok tt) after) (sym is) (done log known))

-- a step that works
module _ (m new : Deletion) (tried : ℕ) (replies : Replies) (holds : parent_of m.path ≡ Some m.folder) (inside : IsInside m) (going : at_barrier m.stage ≡ false) where
  module _ (mid : Deletion) (on : IsOnStage m mid) (within : IsInside mid) where
    work_tells : (did : Did) → Works mid did new → Tells replies (seen m tried) did (seen new tried)
    work_tells (Removed path) (path_is, bare, d) = (
      going,
      subst (λ p. is_prefix p path ≡ true) on.path_is (subst (λ p. is_prefix mid.path p ≡ true) (sym path_is) (item_inside mid within)),
      record { path_is = d.path_is ∙ on.path_is; stage_is = d.stage_is ∙ ap (λ p. after_item p path Going) on.path_is; tried_is = refl },
    )
    work_tells (Kept path) (path_is, spared, d) = (
      going,
      record { path_is = d.path_is ∙ on.path_is; stage_is = d.stage_is ∙ (ap (λ p. after_item p path mid.stage) on.path_is ∙ ap (after_item m.path path) on.stage_is); tried_is = refl },
    )
    work_tells (Troubled trouble) (barrier, a) = (barrier ∙ sym going, record { path_is = a.path_is ∙ on.path_is; stage_is = a.stage_is ∙ on.stage_is; tried_is = refl })
    work_tells (Began part) w = absurd w
    work_tells (Chunk count) w = absurd w
    work_tells (Asked question) w = absurd w
    work_tells (Merges transfer pair names) w = absurd w
    work_tells (Moved pair) w = absurd w
    work_tells (Set path) w = absurd w
    work_tells (Placed path) w = absurd w
    work_tells (Made path) w = absurd w
    work_tells (Skipped path cause) w = absurd w
    work_tells (Cleaned part) w = absurd w
    work_tells Barrier w = absurd w
    work_tells (Ended ending part) w = absurd w

    work_keeps : (did : Did) → Works mid did new → (new.path ≡ m.path) × (new.folder ≡ m.folder)
    work_keeps (Removed path) (path_is, bare, d) = (d.path_is ∙ on.path_is, d.folder_is ∙ on.folder_is)
    work_keeps (Kept path) (path_is, spared, d) = (d.path_is ∙ on.path_is, d.folder_is ∙ on.folder_is)
    work_keeps (Troubled trouble) (barrier, a) = (a.path_is ∙ on.path_is, a.folder_is ∙ on.folder_is)
    work_keeps (Began part) w = absurd w
    work_keeps (Chunk count) w = absurd w
    work_keeps (Asked question) w = absurd w
    work_keeps (Merges transfer pair names) w = absurd w
    work_keeps (Moved pair) w = absurd w
    work_keeps (Set path) w = absurd w
    work_keeps (Placed path) w = absurd w
    work_keeps (Made path) w = absurd w
    work_keeps (Skipped path cause) w = absurd w
    work_keeps (Cleaned part) w = absurd w
    work_keeps Barrier w = absurd w
    work_keeps (Ended ending part) w = absurd w

    work_calls : (did : Did) (log : CallLog) (after : Option CallLog) → Works mid did new → WorkCalls mid did log after → DeletionCalls did log after
    work_calls (Removed path) log after w h = removal_called (item mid) path log after w.0 h.1
    work_calls (Kept path) log after w h = h
    work_calls (Troubled trouble) log after w (inl (same, stops)) = inl same
    work_calls (Troubled trouble) log after w (inr (e, is, saw, h)) = inr (e, inl (ap (λ (t : Trouble). t.cause) is), removal_refused (item mid) log e after h)
    work_calls (Began part) log after w h = absurd w
    work_calls (Chunk count) log after w h = absurd w
    work_calls (Asked question) log after w h = absurd w
    work_calls (Merges transfer pair names) log after w h = absurd w
    work_calls (Moved pair) log after w h = absurd w
    work_calls (Set path) log after w h = absurd w
    work_calls (Placed path) log after w h = absurd w
    work_calls (Made path) log after w h = absurd w
    work_calls (Skipped path cause) log after w h = absurd w
    work_calls (Cleaned part) log after w h = absurd w
    work_calls Barrier log after w h = absurd w
    work_calls (Ended ending part) log after w h = absurd w

    work_leaves : (did : Did) (dirty dirty_after : List Route) (before after : Option CallLog) → Works mid did new → WorkLeaves (item mid) did dirty dirty_after → IfKnown before (λ log. WorkCalls mid did log after)
        → DeletionLeaves (seen m tried) did dirty dirty_after before after
    work_leaves (Removed path) dirty dirty_after before after w leaves called = removal_leaves (item mid) path dirty dirty_after before after w.0 leaves (λ log known. (called log known).1)
    work_leaves (Kept path) dirty dirty_after before after w leaves called = leaves
    work_leaves (Troubled trouble) dirty dirty_after before after w leaves called = leaves
    work_leaves (Began part) dirty dirty_after before after w leaves called = absurd w
    work_leaves (Chunk count) dirty dirty_after before after w leaves called = absurd w
    work_leaves (Asked question) dirty dirty_after before after w leaves called = absurd w
    work_leaves (Merges transfer pair names) dirty dirty_after before after w leaves called = absurd w
    work_leaves (Moved pair) dirty dirty_after before after w leaves called = absurd w
    work_leaves (Set path) dirty dirty_after before after w leaves called = absurd w
    work_leaves (Placed path) dirty dirty_after before after w leaves called = absurd w
    work_leaves (Made path) dirty dirty_after before after w leaves called = absurd w
    work_leaves (Skipped path cause) dirty dirty_after before after w leaves called = absurd w
    work_leaves (Cleaned part) dirty dirty_after before after w leaves called = absurd w
    work_leaves Barrier dirty dirty_after before after w leaves called = absurd w
    work_leaves (Ended ending part) dirty dirty_after before after w leaves called = absurd w

  module _ (did : Did) (calls : ℕ) (dirty dirty_after : List Route) (before after : Option CallLog) (f0 f1 : ℕ) (s : WorkSteps m new did calls dirty dirty_after before after f0 f1) where
    on_stage : IsOnStage m (let x : WorkSteps m new did calls dirty dirty_after before after f0 f1 = s in x.mid)
    on_stage = descends_same before m s.mid s.entered s.descends

    pub same_place : (new.path ≡ m.path) × (new.folder ≡ m.folder)
    same_place = work_keeps s.mid on_stage (descends_inside before m s.mid s.entered s.descends inside) did (let w = s.working in w.works)

    pub still_holds : parent_of new.path ≡ Some new.folder
    still_holds = ap parent_of same_place.0 ∙ (holds ∙ ap (λ f. Some f) (sym same_place.1))

    -- the same step, as it is seen
    pub on_way : WorkSteps (machine_of (seen m tried) m.walk.spare) new did calls dirty dirty_after before after f0 f1
    on_way = subst (λ (x : Deletion). WorkSteps x new did calls dirty dirty_after before after f0 f1) (machine_is m tried holds) s

    fewer_worked : (x : Did) → (IsProgress x ≡ true → left_in (seen new tried) < left_in (seen m tried)) → Works s.mid x new → is_decided x ≡ true → left_in (seen new tried) < left_in (seen m tried)
    fewer_worked (Skipped path cause) falls w h = absurd w
    fewer_worked (Removed path) falls w h = falls h
    fewer_worked (Kept path) falls w h = falls h
    fewer_worked (Troubled trouble) falls w h = falls h
    fewer_worked (Made path) falls w h = falls h
    fewer_worked (Began part) falls w h = falls h
    fewer_worked (Chunk count) falls w h = falls h
    fewer_worked (Asked question) falls w h = falls h
    fewer_worked (Merges transfer pair names) falls w h = falls h
    fewer_worked (Moved pair) falls w h = falls h
    fewer_worked (Set path) falls w h = falls h
    fewer_worked (Placed path) falls w h = falls h
    fewer_worked (Cleaned part) falls w h = falls h
    fewer_worked Barrier falls w h = falls h
    fewer_worked (Ended ending part) falls w h = falls h

    pub worked_inside : IsInside new
    worked_inside = work_inside m new did calls dirty dirty_after before after f0 f1 s inside

    -- what it tells, and what it says of the dirty folders
    pub worked_tells : Tells replies (seen m tried) did (seen new tried)
    worked_tells = work_tells s.mid on_stage (descends_inside before m s.mid s.entered s.descends inside) did (let w = s.working in w.works)

    pub worked_leaves : DeletionLeaves (seen m tried) did dirty dirty_after before after
    worked_leaves = let w = s.working in work_leaves s.mid on_stage (descends_inside before m s.mid s.entered s.descends inside) did dirty dirty_after before after w.works w.leaves w.called

    -- what was worked is reported
    pub step_works : passed_cause replies.skips did ≡ None → DeletionStep replies (seen m tried) (seen new tried) did calls dirty dirty_after before after f0 f1
    step_works none =
        let w = s.working in
        let within = descends_inside before m s.mid s.entered s.descends inside in
        record {
          goes = inl (did, new, m.walk.spare, new.walk.spare, on_way, inl (none, refl, sym (machine_is new tried still_holds)));
          tells = work_tells s.mid on_stage within did w.works;
          called = λ log known. work_calls s.mid on_stage within did log after w.works (w.called log known);
          leaves = work_leaves s.mid on_stage within did dirty dirty_after before after w.works w.leaves w.called;
          fewer = fewer_worked did s.falls w.works;
          counted = w.counted;
          few = w.few;
          unknown = w.unknown;
          later = w.later;
          fault = λ h. w.fault (fault_of (λ d. Works s.mid d new) did (λ path cause x. x) w.works h);
        }

-- a skip
module _ (cause : Cause) (m new : Deletion) (tried : ℕ) (inside : IsInside m) where
  takes_keeps : (path : Route) (mid : Deletion) → TakesOff path m mid → KeepsRest m mid
  takes_keeps path mid (inl t) = t.1.1
  takes_keeps path mid (inr (long, l)) = l.rest

  pub skip_keeps : (did : Did) → Skips cause m did new → (new.path ≡ m.path) × (new.folder ≡ m.folder)
  skip_keeps did (inl (path, did_is, (mid, takes, new_is))) =
      let k = takes_keeps path mid takes in (ap (λ (d : Deletion). d.path) new_is ∙ k.path_is, ap (λ (d : Deletion). d.folder) new_is ∙ k.folder_is)
  skip_keeps did (inr (did_is, new_is)) = (ap (λ (d : Deletion). d.path) new_is, ap (λ (d : Deletion). d.folder) new_is)

  pub skip_made : (did : Did) → parent_of m.path ≡ Some m.folder → Skips cause m did new → DeletionSkips cause (seen m tried) did (seen new tried)
  skip_made did holds s = record {
    passes =
        let k = skip_keeps did s in
        let still : parent_of new.path ≡ Some new.folder = ap parent_of k.0 ∙ (holds ∙ ap (λ f. Some f) (sym k.1)) in (
          m.walk.spare,
          new.walk.spare,
          subst (λ (x : Deletion). Skips cause x did (machine_of (seen new tried) new.walk.spare)) (machine_is m tried holds) (subst (λ (x : Deletion). Skips cause m did x) (machine_is new tried still) s),
        );
    skips = by s;
    no_more = skip_falls cause m new did s inside;
  }
    where
      by : Skips cause m did new → ((path : Route) × (did ≡ Skipped path cause) × IsAtStage (seen m tried) (after_item m.path path m.stage) (seen new tried)) ⊎ ((did ≡ Troubled (Rattle.job_reports.specs.Stops.out_of_memory_at (at_barrier m.stage))) × (seen new tried ≡ seen m tried))
      by (inl (path, did_is, (mid, takes, new_is))) =
          let k = takes_keeps path mid takes in
          inl (path, did_is, record { path_is = ap (λ (d : Deletion). d.path) new_is ∙ k.path_is; stage_is = ap (λ (d : Deletion). d.stage) new_is; tried_is = refl })
      by (inr (did_is, new_is)) = inr (did_is, ap (λ (d : Deletion). seen d tried) new_is)

-- the trouble that is passed over
passed_is : (skips : Kinds) (did : Did) (cause : Cause) → passed_cause skips did ≡ Some cause → (trouble : Trouble) × (did ≡ Troubled trouble) × (holds skips (kind_in cause) ≡ true) × (trouble.cause ≡ cause)
passed_is skips (Troubled trouble) cause is = by (is_passed_over skips trouble) refl is
  where
    by : (b : Bool) → is_passed_over skips trouble ≡ b → (let o : Option Cause = if b then Some trouble.cause else None in o) ≡ Some cause
        → (t : Trouble) × (Troubled trouble ≡ Troubled t) × (holds skips (kind_in cause) ≡ true) × (t.cause ≡ cause)
    by true h is = let same : trouble.cause ≡ cause = cc in (trouble, refl, subst (λ c. holds skips (kind_in c) ≡ true) same (and_parts (not trouble.barrier) (holds skips (kind_in trouble.cause)) h).1, same)
    by false h is = absurd (let f : ⊥ = cc in f)
passed_is skips (Removed path) cause is = absurd (let f : ⊥ = cc in f)
passed_is skips (Kept path) cause is = absurd (let f : ⊥ = cc in f)
passed_is skips (Made path) cause is = absurd (let f : ⊥ = cc in f)
passed_is skips (Began part) cause is = absurd (let f : ⊥ = cc in f)
passed_is skips (Chunk count) cause is = absurd (let f : ⊥ = cc in f)
passed_is skips (Asked question) cause is = absurd (let f : ⊥ = cc in f)
passed_is skips (Merges transfer pair names) cause is = absurd (let f : ⊥ = cc in f)
passed_is skips (Moved pair) cause is = absurd (let f : ⊥ = cc in f)
passed_is skips (Set path) cause is = absurd (let f : ⊥ = cc in f)
passed_is skips (Placed path) cause is = absurd (let f : ⊥ = cc in f)
passed_is skips (Skipped path why) cause is = absurd (let f : ⊥ = cc in f)
passed_is skips (Cleaned part) cause is = absurd (let f : ⊥ = cc in f)
passed_is skips Barrier cause is = absurd (let f : ⊥ = cc in f)
passed_is skips (Ended ending part) cause is = absurd (let f : ⊥ = cc in f)

-- it is the refusal of a removal, or comes before it
work_refusal : (mid : Deletion) (trouble : Trouble) (log : CallLog) (after : Option CallLog) → WorkCalls mid (Troubled trouble) log after → (after ≡ Some log) ⊎ ((e : TreeError) × (trouble.cause ≡ cause_of e) × IsRefused log e after)
work_refusal mid trouble log after (inl (same, stops)) = inl same
work_refusal mid trouble log after (inr (e, is, saw, h)) = inr (e, ap (λ (t : Trouble). t.cause) is, removal_refused (item mid) log e after h)

-- what is in such a trouble is passed over in the same step
module _ (m worked new : Deletion) (tried : ℕ) (replies : Replies) (names_folder : parent_of m.path ≡ Some m.folder) (inside : IsInside m) (going : at_barrier m.stage ≡ false) (did : Did) (calls : ℕ) (dirty dirty_after : List Route) (before after : Option CallLog)
    (f0 f1 : ℕ) (s : WorkSteps m worked did calls dirty dirty_after before after f0 f1) where
  within : IsInside worked
  within = worked_inside m worked tried replies names_folder inside going did calls dirty dirty_after before after f0 f1 s

  still_names : parent_of worked.path ≡ Some worked.folder
  still_names = still_holds m worked tried replies names_folder inside going did calls dirty dirty_after before after f0 f1 s

  module _ (cause : Cause) (rdid : Did) (passed : passed_cause replies.skips did ≡ Some cause) (skip : Skips cause worked rdid new) where
    trouble : (t : Trouble) × (did ≡ Troubled t) × (holds replies.skips (kind_in cause) ≡ true) × (t.cause ≡ cause)
    trouble = passed_is replies.skips did cause passed

    -- the machine stands where it stood when it met the trouble
    stands : (trouble.0.barrier ≡ at_barrier m.stage) × IsAtStage (seen m tried) m.stage (seen worked tried)
    stands = subst (λ d. Tells replies (seen m tried) d (seen worked tried)) trouble.1 (worked_tells m worked tried replies names_folder inside going did calls dirty dirty_after before after f0 f1 s)

    refusal : (log : CallLog) → before ≡ Some log → (after ≡ Some log) ⊎ ((e : TreeError) × (trouble.0.cause ≡ cause_of e) × IsRefused log e after)
    refusal log known = let w = s.working in work_refusal s.mid trouble.0 log after (subst (λ d. WorkCalls s.mid d log after) trouble.1 (w.called log known))

    same_folders : dirty_after ≡ dirty
    same_folders = subst (λ d. DeletionLeaves (seen m tried) d dirty dirty_after before after) trouble.1 (worked_leaves m worked tried replies names_folder inside going did calls dirty dirty_after before after f0 f1 s)

    apart : at_barrier worked.stage ≡ false
    apart = ap at_barrier stands.1.stage_is ∙ going

    keeps : (new.path ≡ worked.path) × (new.folder ≡ worked.folder)
    keeps = skip_keeps cause worked new tried within rdid skip

    holds_then : parent_of new.path ≡ Some new.folder
    holds_then = ap parent_of keeps.0 ∙ (still_names ∙ ap (λ f. Some f) (sym keeps.1))

    goes_on : Goes replies (seen m tried) (seen new tried) rdid calls dirty dirty_after before after f0 f1
    goes_on = inl (
      did,
      worked,
      m.walk.spare,
      new.walk.spare,
      on_way m worked tried replies names_folder inside going did calls dirty dirty_after before after f0 f1 s,
      inr (cause, passed, refl, subst (λ (x : Deletion). Skips cause worked rdid x) (machine_is new tried holds_then) skip),
    )

    -- it is reported with the cause of its trouble
    reported : (path : Route) (mid : Deletion) → rdid ≡ Skipped path cause → TakesOff path worked mid → new ≡ record mid { stage = after_item worked.path path worked.stage }
        → DeletionStep replies (seen m tried) (seen new tried) rdid calls dirty dirty_after before after f0 f1
    reported path mid is takes new_is =
        let w = s.working in
        let at = stands.1 in
        record {
          goes = goes_on;
          tells = subst (λ d. Tells replies (seen m tried) d (seen new tried)) (sym is) (
            going,
            trouble.2,
            record {
              path_is = keeps.0 ∙ at.path_is;
              stage_is = ap (λ (d : Deletion). d.stage) new_is ∙ (ap (λ p. after_item p path worked.stage) at.path_is ∙ ap (after_item m.path path) at.stage_is);
              tried_is = refl;
            },
          );
          called = λ log known. subst (λ d. DeletionCalls d log after) (sym is) (elim (refusal log known) [
            | inl same ↦ inl same
            | inr refused ↦ inr (refused.0, sym trouble.3 ∙ refused.1, refused.2)
          ]);
          leaves = subst (λ d. DeletionLeaves (seen m tried) d dirty dirty_after before after) (sym is) same_folders;
          fewer = λ h. let less = skip_less path worked mid new apart takes new_is within in let most = s.no_more in omega (arith, less, most);
          counted = w.counted;
          few = w.few;
          unknown = w.unknown;
          later = w.later;
          fault = λ h. w.fault (subst IsFault (sym trouble.1) (trouble.3 ∙ subst TellsFault is h));
        }

    -- there is no memory for that
    forgotten : rdid ≡ Troubled (out_of_memory_at (at_barrier worked.stage)) → new ≡ worked → DeletionStep replies (seen m tried) (seen new tried) rdid calls dirty dirty_after before after f0 f1
    forgotten is new_is =
        let w = s.working in
        let at = stands.1 in
        let memory : rdid ≡ Troubled (out_of_memory_at false) = is ∙ ap (λ b. Troubled (out_of_memory_at b)) apart in
        record {
          goes = goes_on;
          tells = subst (λ d. Tells replies (seen m tried) d (seen new tried)) (sym memory) (
            sym going,
            record {
              path_is = ap (λ (d : Deletion). d.path) new_is ∙ at.path_is;
              stage_is = ap (λ (d : Deletion). d.stage) new_is ∙ at.stage_is;
              tried_is = refl;
            },
          );
          called = λ log known. subst (λ d. DeletionCalls d log after) (sym memory) (elim (refusal log known) [ inl same ↦ inl same | inr refused ↦ inr (refused.0, inr refl, refused.2) ]);
          leaves = subst (λ d. DeletionLeaves (seen m tried) d dirty dirty_after before after) (sym memory) same_folders;
          fewer = λ h. absurd (false≢true (sym (ap is_decided memory) ∙ h));
          counted = w.counted;
          few = w.few;
          unknown = w.unknown;
          later = w.later;
          fault = λ h. absurd (let f : TellsFault (Troubled (out_of_memory_at false)) = subst TellsFault memory h in let no : ⊥ = cc in no);
        }

    pub passes_over : DeletionStep replies (seen m tried) (seen new tried) rdid calls dirty dirty_after before after f0 f1
    passes_over = by skip
      where
        by : Skips cause worked rdid new → DeletionStep replies (seen m tried) (seen new tried) rdid calls dirty dirty_after before after f0 f1
        by (inl (path, is, (mid, takes, new_is))) = reported path mid is takes new_is
        by (inr (is, new_is)) = forgotten is new_is

  -- either
  pub works_or_passes : (result : StepResult) → OrPassedOver replies.skips (step_result did calls) worked new result → DeletionStep replies (seen m tried) (seen new tried) result.did result.calls dirty dirty_after before after f0 f1
  works_or_passes result (inl (none, result_is, new_is)) =
      subst (λ (r : StepResult). DeletionStep replies (seen m tried) (seen new tried) r.did r.calls dirty dirty_after before after f0 f1) (sym result_is)
      (subst (λ (x : Deletion). DeletionStep replies (seen m tried) (seen x tried) did calls dirty dirty_after before after f0 f1) (sym new_is)
      (step_works m worked tried replies names_folder inside going did calls dirty dirty_after before after f0 f1 s none))
  works_or_passes result (inr (cause, passed, count, skip)) =
      subst (λ n. DeletionStep replies (seen m tried) (seen new tried) result.did n dirty dirty_after before after f0 f1) (sym count) (passes_over cause result.did passed skip)

  -- and the machine stays in the thing
  pub then_inside : (result : StepResult) → OrPassedOver replies.skips (step_result did calls) worked new result → (parent_of new.path ≡ Some new.folder) × IsInside new
  then_inside result (inl (none, result_is, new_is)) = (subst (λ (x : Deletion). parent_of x.path ≡ Some x.folder) (sym new_is) still_names, subst IsInside (sym new_is) within)
  then_inside result (inr (cause, passed, count, skip)) = (holds_then cause result.did passed skip, skip_inside cause worked new result.did skip within)

-- a last step
module _ (ending : Ending) (m : Deletion) (from next : ℕ) (holds : parent_of m.path ≡ Some m.folder) (calls : ℕ) (left : Option TreeError) (dirty dirty_after : List Route) (before after : Option CallLog) (f0 f1 : ℕ) where
  near_by : (e : Option TreeError) (at : ℕ) (folder : Route) → from ≤ at → at < length dirty → slice_get dirty at ≡ Some folder → dirty_after ≡ machine_try e folder dirty → next ≡ next_try e at
      → length dirty_after + (length dirty_after - next) < length dirty + (length dirty - from)
  near_by None at folder least few stands dirty_is next_is =
      let less = one_fewer folder dirty (stands_among dirty at folder stands) in
      let count : length dirty_after ≡ length (without folder dirty) = ap length dirty_is in
      omega (arith, least, few, less, count, next_is)
  near_by (Some e) at folder least few stands dirty_is next_is =
      let count : length dirty_after ≡ length dirty = ap length dirty_is in omega (arith, least, few, count, next_is)

  try_is : (e : Option TreeError) (folder : Route) → dirty_after ≡ machine_try e folder dirty → dirty_after ≡ after_try Barrier e folder dirty
  try_is None folder h = h
  try_is (Some e) folder h = h

  abbrev Last : Did → Type 0
  Last did = LastDeletionStep ending (seen m from) (seen m next) did calls left dirty dirty_after before after f0 f1

  tries_it : (did : Did) → LastSteps ending m from next did calls left dirty dirty_after before after f0 f1 → TriesNext ending (seen m from) (seen m next) did calls left dirty dirty_after before after f0 f1
  tries_it did s = ((m.walk.spare, subst (λ (x : Deletion). LastSteps ending x from next did calls left dirty dirty_after before after f0 f1) (machine_is m from holds) s), refl)

  by_did : (did : Did) → LastSteps ending m from next did calls left dirty dirty_after before after f0 f1 → Tries ending m from next did left dirty dirty_after before after → Last did
  by_did Barrier s (at, folder, own, stands, dirty_is, next_is, called) = record {
    tries = tries_it Barrier s;
    folder = folder;
    tells = (refl, refl);
    called = λ log known. (folder, sync_answer left, called log known);
    own = subst (λ up. is_of up m.path folder ≡ true) (folder_is m.path m.folder holds) (subst (λ f. is_of m.folder m.path f ≡ true) (let e : own.kept ≡ folder = (let a = own.stands in let b = stands in let c : Some own.kept ≡ Some folder = sym a ∙ b in cc) in e) own.is);
    dirty_is = try_is left folder dirty_is;
    synced = called;
    nearer = λ going. near_by left at folder own.least own.few stands dirty_is next_is;
    counted = s.counted;
    few = s.few;
    unknown = s.unknown;
    later = s.later;
    fault = s.fault;
  }
  by_did (Ended how part) s (none, how_is, part_is, left_is, dirty_is, next_is, after_is) = record {
    tries = tries_it (Ended how part) s;
    folder = folder_of m.path;
    tells = (how_is, part_is, refl, refl);
    called = λ log known. after_is ∙ known;
    own = or_left _ _ (same_path-self (folder_of m.path));
    dirty_is = dirty_is;
    synced = λ log known. left_is;
    nearer = λ going. absurd (true≢false going);
    counted = s.counted;
    few = s.few;
    unknown = s.unknown;
    later = s.later;
    fault = s.fault;
  }
  by_did (Began part) s t = absurd t
  by_did (Chunk count) s t = absurd t
  by_did (Asked question) s t = absurd t
  by_did (Merges transfer pair names) s t = absurd t
  by_did (Moved pair) s t = absurd t
  by_did (Set path) s t = absurd t
  by_did (Placed path) s t = absurd t
  by_did (Made path) s t = absurd t
  by_did (Removed path) s t = absurd t
  by_did (Kept path) s t = absurd t
  by_did (Skipped path cause) s t = absurd t
  by_did (Cleaned part) s t = absurd t
  by_did (Troubled trouble) s t = absurd t

  pub last_made : (did : Did) → LastSteps ending m from next did calls left dirty dirty_after before after f0 f1 → Last did
  last_made did s = by_did did s s.tries

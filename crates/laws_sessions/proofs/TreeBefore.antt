-- What is known of a copy of folders before the machine makes its step, once folders that owe nothing were left; and what the steps come to that change no
-- name: syncs, calls that are refused, and the end.
use Rattle.std.proofs.Common.{◌≡◌, ◌⊎◌, ℕ, Bool, true, false, List, refl, sym, ◌∙◌, ap, subst, inl, inr, Some, None}
use Rattle.mc_text.specs.Routes.{Route}
use Rattle.tree_trait.specs.declared.file_system.FileSystem.{FileSystem}
use Rattle.tree_trait.specs.Change.{Nothing, CallLog, current, with_change}
use Rattle.laws_crash.specs.Guarded.{Marks}
use Rattle.job_reports.specs.declared.report.Transfer.TheVariants.{ByCopy}
use Rattle.job_reports.specs.declared.report.Ending.TheVariants.{Finished}
use Rattle.job_reports.specs.declared.report.Did.{Did}
use Rattle.job_answers.specs.declared.replies.Replies.{Replies}
use Rattle.job_reports.specs.declared.report.Did.TheVariants.{Asked, Barrier, Kept, Merges, Troubled, Ended}
use Rattle.job_reports.proofs.CallAnswers.{some_log}
use Rattle.job_reports.specs.declared.report.Trouble.{Trouble}
use Rattle.copy_folders.specs.FolderCopying as folder
use Rattle.copy_folders.specs.FolderSteps.{FolderCalls, at_sync}
use Rattle.copy_folders.specs.declared.stage.FolderDid.{FolderDid}
use Rattle.copy_folders.specs.declared.stage.FolderDid.TheVariants as folder_did
use Rattle.copy_folders.specs.Levels.{is_around_dirty}
use Rattle.job_unsynced.specs.Folders.{with_change as change_list}
use Rattle.copy_tree.specs.Reports.{IsToldAs}
use Rattle.copy_tree.specs.Standing.{Seen, after_report, is_fresh}
use Rattle.copy_tree.specs.TreeCopySteps.{Finishes, FolderEnds, LeavesAll, SyncsAround, TakesAsked, TakesKept, TakesMerged, at_end}
use Rattle.copy_tree.specs.declared.item.ItemAtWork.TheVariants.{Next}
use Rattle.copy_job.specs.Marks.{folder_worked, is_dirty_after, was_dirty}
use Rattle.copy_job.specs.Standing.{SubtreeCopying}
use Rattle.copy_job.specs.Unbegun.{MayBegin}
use Rattle.copy_move.specs.Settling.{NoneOwed}
use Rattle.copy_move.specs.declared.run.Course.TheVariants.{Asking, GoesOn}
use Rattle.copy_move.specs.declared.work.Work.TheVariants.{Copy}
use Rattle.copy_move.specs.Jobs.{course_after}
use Rattle.laws_sessions.proofs.Knowing.{IsKept, HistoryFacts, settled_marks}
use Rattle.laws_sessions.proofs.Stepped.{StepRan, comes_map, comes_none, said_after}
use Rattle.laws_sessions.proofs.OwedModes.{OwedModes}
use Rattle.laws_sessions.proofs.TreeCalls.{around_comes, idle_refused, refused_end, synced_end}
use Rattle.laws_sessions.proofs.TreeGoing.{LogHas}
use Rattle.laws_sessions.proofs.TreeLeads.{log_has}
use Rattle.laws_sessions.proofs.TreeKnown.{IsCalmBut, ItemHas, TargetKnows, TreeHas, TreeStands, around_settled, LiesOutside}

-- The machine's step begins here; and a copy that has changed nothing changes something only where nothing is owed.
pub record Before (told : HistoryFacts) (dirty : List Route) (marks : Marks) (log : CallLog) (c : SubtreeCopying) (mid : Seen) : Type 0 where
  pub n : ℕ
  pub leaves : LeavesAll n c.at mid
  pub stands : TreeStands dirty c
  pub part : ItemHas told dirty marks (current log) GoesOn mid.item
  pub around : is_fresh c.at.stage ≡ false → TargetKnows told marks (current log) (record c { at = mid })
  pub begun : is_fresh c.at.stage ≡ false → TreeHas told marks log c
  pub owed : is_fresh c.at.stage ≡ true → NoneOwed (current log) (Copy c) dirty

-- What is known once something was changed: the source doesn't lie below the target, and what the machine knows of the log as the step began.
abbrev pub Had : CallLog → SubtreeCopying → Type 0
Had log c = LiesOutside c.top × LogHas c.top c.at.job log c.at

pub had_begun : (told : HistoryFacts) (dirty : List Route) (marks : Marks) (log : CallLog) (c : SubtreeCopying) (mid : Seen) → Before told dirty marks log c mid → is_fresh c.at.stage ≡ false → Had log c
had_begun told dirty marks log c mid b some = let h = b.begun some in (h.outside, log_has told dirty marks log c b.stands h)

-- What is known after a step, of the part, and of the folder around once something was changed; and the modes that are owed are, as the history tells them then.
pub record Then (told : HistoryFacts) (dirty_after : List Route) (log now : CallLog) (c : SubtreeCopying) (did : Did) (new : Seen) (m : Marks) : Type 0 where
  pub part : ItemHas (said_after now did (Copy c) told) dirty_after m (current now) (course_after did) new.item
  pub around : is_fresh (after_report did c.at.stage) ≡ false → TargetKnows (said_after now did (Copy c) told) m (current now) (record c { at = new })
  pub had : is_fresh (after_report did c.at.stage) ≡ false → Had log c
  pub modes : OwedModes told.tree new → OwedModes (let s : HistoryFacts = said_after now did (Copy c) told in s.tree) new

-- what the machine's step comes to
abbrev pub Result : HistoryFacts → List Route → List Route → CallLog → CallLog → SubtreeCopying → Did → Seen → Type 0
Result told dirty dirty_after log now c did new = StepRan told (said_after now did (Copy c) told) dirty_after log now (Then told dirty_after log now c did new)

-- a report that is no first change comes once something was changed
pub is_begun : (c : SubtreeCopying) (did : Did) → (is_fresh c.at.stage ≡ true → MayBegin did) → (MayBegin did → ⊥) → is_fresh c.at.stage ≡ false
is_begun c did first off = by (is_fresh c.at.stage) refl
  where
    by : (b : Bool) → is_fresh c.at.stage ≡ b → is_fresh c.at.stage ≡ false
    by false is = is
    by true fresh = absurd (off (first fresh))

module _ (told : HistoryFacts) (dirty dirty_after : List Route) (marks : Marks) (log now : CallLog) (kept : IsKept told dirty marks log) (c : SubtreeCopying) (mid : Seen) (b : Before told dirty marks log c mid) (none : mid.item ≡ Next) where
  abbrev Comes_to : Did → Seen → Type 0
  Comes_to did new = Result told dirty dirty_after log now c did new

  -- what is known where nothing is at work
  abbrev Idle : Seen → Marks → FileSystem → Type 0
  Idle new m s = (told.part ≡ None) × (is_fresh c.at.stage ≡ false → TargetKnows told m s (record c { at = new }))

  idle_settles : (new : Seen) (l : CallLog) (m : Marks) → Idle new m (current l) → Idle new (settled_marks l m) (current l)
  idle_settles new l m (part, around) = (part, λ some. around_settled l m told (record c { at = new }) (around some))

  no_part : told.part ≡ None
  no_part = subst (λ i. ItemHas told dirty marks (current log) GoesOn i) none b.part

  idle_now : (new : Seen) → new.item ≡ Next → Idle new marks (current log)
  idle_now new still = (no_part, λ some. elim (b.around some) [ inl calm ↦ inl calm | inr but ↦ inr (still, but.1) ])

  -- a trouble, where nothing is at work then
  pub idle_trouble : (trouble : Trouble) (new : Seen) → new.item ≡ Next → StepRan told told dirty_after log now (λ m. Idle new m (current now)) → Comes_to (Troubled trouble) new
  idle_trouble trouble new still come = comes_map told told dirty_after log now (λ m. Idle new m (current now)) (Then told dirty_after log now c (Troubled trouble) new)
      (λ m k idle. record { part = subst (λ i. ItemHas told dirty_after m (current now) (course_after (Troubled trouble)) i) (sym still) idle.0; around = idle.1; had = λ some. had_begun told dirty marks log c mid b some; modes = λ h. h }) come

  -- a call was refused, or none was made
  quiet_known : (new : Seen) → new.item ≡ Next → dirty_after ≡ dirty → (now ≡ log) ⊎ (now ≡ with_change log Nothing) → StepRan told told dirty_after log now (λ m. Idle new m (current now))
  quiet_known new still list how =
      subst (λ routes. StepRan told told routes log now (λ m. Idle new m (current now))) (sym list) (idle_refused (Idle new) (idle_settles new) told dirty marks log now kept (idle_now new still) how)

  pub idle_quiet : (trouble : Trouble) (new : Seen) → new.item ≡ Next → dirty_after ≡ dirty → (now ≡ log) ⊎ (now ≡ with_change log Nothing) → Comes_to (Troubled trouble) new
  idle_quiet trouble new still list how = idle_trouble trouble new still (quiet_known new still list how)

  -- where no call is made, and what is known of the part goes on to be known
  unmoved : (did : Did) (new : Seen) → new.item ≡ Next → dirty_after ≡ dirty → now ≡ log → ((m : Marks) → Idle new m (current now) → Then told dirty_after log now c did new m)
      → StepRan told told dirty_after log now (Then told dirty_after log now c did new)
  unmoved did new still list same then =
      comes_map told told dirty_after log now (λ m. Idle new m (current now)) (Then told dirty_after log now c did new) (λ m k idle. then m idle) (quiet_known new still list (inl same))

  -- two folders are merged: none is made
  pub merges : (replies : Replies) (did : Did) (new : Seen) → TakesMerged replies mid new did (Some log) (Some now) → dirty_after ≡ dirty → Comes_to did new
  merges replies did new t list =
      let still : new.item ≡ Next = ap (λ (x : Seen). x.item) t.stands ∙ none in
      subst (λ d. Comes_to d new) (sym t.says) (unmoved (Merges ByCopy t.pair t.names) new still list (some_log now log t.same)
      (λ m idle. record { part = subst (λ i. ItemHas told dirty_after m (current now) GoesOn i) (sym still) idle.0; around = idle.1; had = λ some. had_begun told dirty marks log c mid b some; modes = λ h. h }))

  -- what stands at the target is kept
  pub keeps : (replies : Replies) (did : Did) (new : Seen) → TakesKept replies mid new did (Some log) (Some now) → dirty_after ≡ dirty → Comes_to did new
  keeps replies did new t list =
      let still : new.item ≡ Next = ap (λ (x : Seen). x.item) t.stands ∙ none in
      subst (λ d. Comes_to d new) (sym t.says) (unmoved (Kept (let p = t.pair in p.target)) new still list (some_log now log t.same)
      (λ m idle. record { part = subst (λ i. ItemHas told dirty_after m (current now) GoesOn i) (sym still) idle.0; around = idle.1; had = λ some. had_begun told dirty marks log c mid b some; modes = λ h. h }))

  -- it is asked whether it is replaced
  pub asks : (replies : Replies) (did : Did) (new : Seen) → TakesAsked replies mid new did (Some log) (Some now) → dirty_after ≡ dirty → Comes_to did new
  asks replies did new t list =
      let still : new.item ≡ Next = ap (λ (x : Seen). x.item) t.stands ∙ none in
      subst (λ d. Comes_to d new) (sym t.says) (unmoved (Asked t.question) new still list (some_log now log t.same)
      (λ m idle. record { part = subst (λ i. ItemHas told dirty_after m (current now) Asking i) (sym still) idle.0; around = idle.1; had = λ some. had_begun told dirty marks log c mid b some; modes = λ h. h }))

  -- a sync, once something was changed
  pub idle_barrier : (new : Seen) → new.item ≡ Next → is_fresh c.at.stage ≡ false → StepRan told told dirty_after log now (λ m. Idle new m (current now)) → Comes_to Barrier new
  idle_barrier new still some come = comes_map told told dirty_after log now (λ m. Idle new m (current now)) (Then told dirty_after log now c Barrier new)
      (λ m k idle. record { part = subst (λ i. ItemHas told dirty_after m (current now) GoesOn i) (sym still) idle.0; around = λ e. idle.1 some; had = λ e. had_begun told dirty marks log c mid b some; modes = λ h. h }) come

  abbrev Listed : Did → Seen → Type 0
  Listed did new = dirty_after ≡ change_list (was_dirty mid) (is_dirty_after mid did new) (folder_worked mid) dirty

  -- the folder around is synced, or that is refused
  around_item : (did : Did) (new : Seen) → SyncsAround mid new did (Some log) (Some now) → new.item ≡ Next
  around_item did new s = ap (λ (x : Seen). x.item) s.stands ∙ none

  around_known : (did : Did) (new : Seen) → Listed did new → (s : SyncsAround mid new did (Some log) (Some now)) → StepRan told told dirty_after log now (λ m. Idle new m (current now))
  around_known did new list s = around_comes (Idle new) (idle_settles new) told dirty dirty_after marks log now kept mid new did none list s (idle_now new (around_item did new s))

  pub syncs_around : (did : Did) (new : Seen) → (is_fresh c.at.stage ≡ true → MayBegin did) → Listed did new → SyncsAround mid new did (Some log) (Some now) → Comes_to did new
  syncs_around did new first list s = by s.report s.says s.tells
    where
      come : StepRan told told dirty_after log now (λ m. Idle new m (current now))
      come = around_known did new list s

      by : (report : FolderDid) → IsToldAs report did → folder.Tells (let o = s.outer in at_sync o.copy) report (let o = s.outer in record (at_sync o.copy) { names = s.names }) → Comes_to did new
      by folder_did.Barrier is tells = subst (λ d. Comes_to d new) (sym is) (idle_barrier new (around_item did new s) (is_begun c did first (λ may. subst MayBegin is may)) come)
      by (folder_did.Troubled trouble) is tells = subst (λ d. Comes_to d new) (sym is) (idle_trouble trouble new (around_item did new s) come)
      by (folder_did.Made path) is (mode, stage, path_is, new_is) = absurd (let f : ⊥ = cc in f)
      by (folder_did.Set path) is (mode, stage, path_is, new_is) = absurd (let f : ⊥ = cc in f)
      by folder_did.Closed is tells = absurd is

  -- a trouble before any call that changes the tree, or without memory
  pub stops_before : (trouble : Trouble) (new : Seen) → new ≡ mid → dirty_after ≡ dirty → now ≡ log → Comes_to (Troubled trouble) new
  stops_before trouble new stands list same = idle_quiet trouble new (ap (λ (x : Seen). x.item) stands ∙ none) list (inl same)

  -- a folder whose children are decided is synced, or what is owed of it is refused
  module _ (did : Did) (new : Seen) (first : is_fresh c.at.stage ≡ true → MayBegin did) (list : Listed did new) (clean : is_around_dirty mid.levels.around ≡ false) (e : FolderEnds (at_end mid) new did (Some log) (Some now)) where
    ended_item : new.item ≡ Next
    ended_item = ap (λ (x : Seen). x.item) e.stands ∙ none

    pub ends_synced : did ≡ Barrier → folder.Tells (let x : Seen = at_end mid in x.levels.inner.copy) folder_did.Barrier e.moved → FolderCalls (let x : Seen = at_end mid in x.levels.inner.copy) folder_did.Barrier log (Some now) → Comes_to did new
    ends_synced is tells rows =
        subst (λ d. Comes_to d new) (sym is) (idle_barrier new ended_item (is_begun c did first (λ may. subst MayBegin is may))
        (synced_end (Idle new) (idle_settles new) told dirty dirty_after marks log now kept mid new did none list clean e (idle_now new ended_item) is tells rows))

    pub ends_refused : (trouble : Trouble) → did ≡ Troubled trouble → folder.Tells (let x : Seen = at_end mid in x.levels.inner.copy) (folder_did.Troubled trouble) e.moved
        → FolderCalls (let x : Seen = at_end mid in x.levels.inner.copy) (folder_did.Troubled trouble) log (Some now) → Comes_to did new
    ends_refused trouble is tells rows =
        subst (λ d. Comes_to d new) (sym is) (idle_trouble trouble new ended_item
        (refused_end (Idle new) (idle_settles new) told dirty dirty_after marks log now kept mid new did none list clean e (idle_now new ended_item) trouble is tells rows))

  -- all ends
  pub finishes : (did : Did) (new : Seen) → Finishes (at_end mid) new did → dirty_after ≡ dirty → now ≡ log → Comes_to did new
  finishes did new f list same =
      let still : new.item ≡ Next = ap (λ (x : Seen). x.item) f.stands ∙ none in
      subst (λ d. Comes_to d new) (sym f.says)
      (subst (λ routes. StepRan told (said_after now (Ended Finished None) (Copy c) told) routes log now (Then told routes log now c (Ended Finished None) new)) (sym list)
      (subst (λ o. StepRan told (record told { part = o }) dirty log now (Then told dirty log now c (Ended Finished None) new)) no_part
      (comes_none told told dirty log now (Then told dirty log now c (Ended Finished None) new) marks same kept (record {
        part = subst (λ i. ItemHas (said_after now (Ended Finished None) (Copy c) told) dirty marks (current now) (course_after (Ended Finished None)) i) (sym still) refl;
        around = λ some. elim (b.around some) [
          | inl calm ↦ inl calm
          | inr but ↦ inr (still, subst (λ (l : CallLog). IsCalmBut marks (current l) c.top.target) (sym same) but.1)
        ];
        had = λ some. had_begun told dirty marks log c mid b some;
        modes = λ h. h;
      }))))

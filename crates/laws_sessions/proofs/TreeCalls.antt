-- Steps of a copy of folders that change no name: syncs, and calls that were refused.
use Rattle.std.proofs.Common.{◌≡◌, ◌⊎◌, ℕ, suc, zero, Bool, true, false, List, [], refl, sym, ◌∙◌, ap, subst, inl, inr, Option, Some, None, Ok, arith}
use Rattle.std.specs.Prelude.{if◌then◌else◌}
use Rattle.mc_text.specs.Routes.{Route}
use Rattle.tree_trait.specs.declared.file_system.FileSystem.{FileSystem}
use Rattle.tree_trait.specs.Answers.{Performs}
use Rattle.tree_trait.specs.Calls.{MakeFolder, SetMode, SyncFolder}
use Rattle.tree_trait.specs.Change.{Nothing, Syncs, CallLog, current, found_node, with_change}
use Rattle.laws_crash.specs.Guarded.{Marks}
use Rattle.laws_crash.proofs.Leading.{current_more}
use Rattle.job_reports.specs.CallRuns.{AllDone, RunStops}
use Rattle.job_reports.specs.Paths.{without}
use Rattle.job_reports.specs.declared.report.Cause.{Cause}
use Rattle.job_reports.specs.declared.report.Cause.TheVariants as cause
use Rattle.job_reports.specs.declared.report.Did.{Did}
use Rattle.job_reports.specs.declared.report.Did.TheVariants as common
use Rattle.job_reports.specs.declared.report.Trouble.{Trouble}
use Rattle.job_reports.proofs.CallAnswers.{done_call}
use Rattle.job_reports.proofs.PermittedCalls.{sync_finds}
use Rattle.copy_folders.specs.FolderCopying.{FolderCopying, Tells, folder_mode, is_dirty}
use Rattle.copy_folders.specs.FolderSteps.{FolderCalls, at_sync, next_call}
use Rattle.copy_folders.specs.declared.stage.FolderDid.{FolderDid}
use Rattle.copy_folders.specs.declared.stage.FolderDid.TheVariants.{Made, Set, Barrier, Closed, Troubled}
use Rattle.copy_folders.specs.declared.stage.NamesState.{NamesState}
use Rattle.copy_folders.specs.declared.stage.NamesState.TheVariants.{Dirty, Synced}
use Rattle.copy_folders.specs.declared.stage.Stage.{Stage}
use Rattle.copy_folders.specs.declared.stage.Stage.TheVariants as at
use Rattle.copy_folders.specs.declared.level.Level.{Level}
use Rattle.copy_folders.specs.Levels.{is_around_dirty, target_around}
use Rattle.job_unsynced.specs.Folders.{with_change as change_list}
use Rattle.copy_tree.specs.Reports.{IsToldAs}
use Rattle.copy_tree.specs.Standing.{Seen}
use Rattle.copy_tree.specs.Skipping as machine
use Rattle.copy_tree.specs.TreeCopySteps.{FolderEnds, LeavesAll, SyncsAround, at_end}
use Rattle.copy_tree.specs.declared.item.ItemAtWork.TheVariants.{Next}
use Rattle.copy_job.specs.Marks.{brings_in, folder_worked, is_dirty_after, is_left_dirty, was_dirty}
use Rattle.copy_job.specs.Standing.{SubtreeCopying}
use Rattle.copy_move.specs.declared.run.Course.{Course}
use Rattle.laws_sessions.proofs.KnownParts.{may_fill}
use Rattle.laws_sessions.proofs.Calming.{cleared_known, nothing_known, refused_is}
use Rattle.laws_sessions.proofs.Knowing.{IsKept, IsKnown, HistoryFacts, settled_marks}
use Rattle.laws_sessions.proofs.QuietRuns.{row_done, row_stops}
use Rattle.laws_sessions.proofs.Stepped.{StepRan, comes_none, comes_one}
use Rattle.laws_sessions.proofs.TreeKnown.{ItemHas, TargetKnows}
use Rattle.laws_sessions.proofs.TreeSkipped.{skipped_item, skips_none}

-- a row of no calls stops nowhere
pub none_stops : {A : Type 0} (why : Cause) (path : Option Route) (log now : CallLog) → RunStops [] why path log (Some now) → A
none_stops (cause.Tree e) path log now (call, named, stop) = absurd stop
none_stops cause.Memory path log now (none, (count, few, done)) = absurd (omega (arith, few))
none_stops (cause.TargetKind kind) path log now stop = absurd stop
none_stops cause.SpecialSource path log now stop = absurd stop
none_stops cause.TooDeep path log now stop = absurd stop
none_stops (cause.Unnamed count) path log now stop = absurd stop
none_stops cause.PartTaken path log now stop = absurd stop
none_stops cause.TooLong path log now stop = absurd stop
none_stops (cause.Changed said got) path log now stop = absurd stop

-- the next call of a folder itself is refused
pub folder_refused : (target : Route) (stage : Stage) (names : NamesState) (why : Cause) (path : Option Route) (log now : CallLog) → RunStops (next_call target stage names) why path log (Some now)
    → (now ≡ log) ⊎ (now ≡ with_change log Nothing)
folder_refused target (at.Make mode) names why path log now run = elim (row_stops log now (MakeFolder target (folder_mode mode)) why path run) [
  | inl same ↦ inl same
  | inr e ↦ refused_is log now (MakeFolder target (folder_mode mode)) e.0 (λ s left. refl) e.1
]
folder_refused target (at.Close (Some mode)) names why path log now run = elim (row_stops log now (SetMode target mode) why path run) [
  | inl same ↦ inl same
  | inr e ↦ refused_is log now (SetMode target mode) e.0 (λ s left. refl) e.1
]
folder_refused target (at.Close None) Dirty why path log now run = elim (row_stops log now (SyncFolder target) why path run) [
  | inl same ↦ inl same
  | inr e ↦ refused_is log now (SyncFolder target) e.0 (λ s left. refl) e.1
]
folder_refused target (at.Close None) Synced why path log now run = none_stops why path log now run
folder_refused target (at.Fill owed) names why path log now run = none_stops why path log now run
folder_refused target at.Done names why path log now run = none_stops why path log now run

same_list : (b : Bool) (folder : Route) (dirty : List Route) → change_list b b folder dirty ≡ dirty
same_list true folder dirty = refl
same_list false folder dirty = refl

-- What is known of the tree, and with the marks that are settled, is known after a call that changes nothing of it.
module _ (Q : Marks → FileSystem → Type 0) (settles : (l : CallLog) (m : Marks) → Q m (current l) → Q (settled_marks l m) (current l)) (told : HistoryFacts) (dirty : List Route) (marks : Marks) (log now : CallLog)
    (kept : IsKept told dirty marks log) where
  abbrev Then : List Route → Type 0
  Then routes = StepRan told told routes log now (λ m. Q m (current now))

  -- a call that was refused, or none
  pub idle_refused : Q marks (current log) → (now ≡ log) ⊎ (now ≡ with_change log Nothing) → Then dirty
  idle_refused known (inl same) =
      comes_none told told dirty log now (λ m. Q m (current now)) marks same kept (subst (λ (l : CallLog). Q marks (current l)) (sym same) known)
  idle_refused known (inr more) =
      comes_one told told dirty dirty marks marks log now Nothing (λ m. Q m (current now)) kept more
      (subst (λ (l : CallLog). IsKnown told dirty marks l) (sym more) (nothing_known told dirty marks log kept.known))
      (settles now marks (subst (λ (s : FileSystem). Q marks s) (sym (ap current more ∙ current_more log Nothing)) known))

  -- the sync of a folder
  pub idle_synced : (up : Route) → Q marks (current log) → Performs {A = Unit {0}} log (SyncFolder up) (Ok tt) (Some now) → Then (without up dirty)
  idle_synced up known done =
      let d = done_call log (SyncFolder up) now done in
      let f = found_node (current log) up in
      comes_one told told dirty (without up dirty) marks marks log now (Syncs f) (λ m. Q m (current now)) kept d.is
      (subst (λ (l : CallLog). IsKnown told (without up dirty) marks l) (sym d.is) (cleared_known told dirty marks log kept.known up f (sync_finds (current log) up d.permits)))
      (settles now marks (subst (λ (s : FileSystem). Q marks s) (sym (ap current d.is ∙ current_more log (Syncs f))) known))

module _ (Q : Marks → FileSystem → Type 0) (settles : (l : CallLog) (m : Marks) → Q m (current l) → Q (settled_marks l m) (current l)) (told : HistoryFacts) (dirty dirty_after : List Route) (marks : Marks) (log now : CallLog) (kept : IsKept told dirty marks log) (old new : Seen) (did : Did) (none : old.item ≡ Next)
    (list : dirty_after ≡ change_list (was_dirty old) (is_dirty_after old did new) (folder_worked old) dirty) where
  abbrev Stands : Type 0
  Stands = StepRan told told dirty_after log now (λ m. Q m (current now))

  -- by what the list of dirty folders is then
  listed : (routes : List Route) → dirty_after ≡ routes → StepRan told told routes log now (λ m. Q m (current now)) → Stands
  listed routes is come = subst (λ xs. StepRan told told xs log now (λ m. Q m (current now))) (sym is) come

  -- the folder around is synced
  module _ (s : SyncsAround old new did (Some log) (Some now)) (known : Q marks (current log)) where
    around_list : dirty_after ≡ change_list true (is_dirty s.names) (let outer = s.outer in outer.copy.target) dirty
    around_list =
        list
        ∙ (ap (λ b. change_list (if b then true else is_dirty old.levels.inner.copy.names) (if b then is_around_dirty new.levels.around else is_left_dirty did new)
        (if b then target_around old.levels.around else old.levels.inner.copy.target) dirty) (ap (λ i. brings_in i old.levels) none ∙ s.dirty)
        ∙ (ap (λ (x : Seen). change_list true (is_around_dirty x.levels.around) (target_around old.levels.around) dirty) s.stands
        ∙ ap (λ (around : List Level). change_list true (is_dirty s.names) (target_around around) dirty) s.was))

    abbrev sync : FolderCopying
    sync = (let outer = s.outer in at_sync outer.copy)

    around_by : (report : FolderDid) → IsToldAs report did → Tells sync report (record sync { names = s.names }) → FolderCalls sync report log (Some now) → Stands
    around_by Barrier says (stage, names, new_is) rows =
        let up = (let outer = s.outer in outer.copy.target) in
        listed (without up dirty) (around_list ∙ ap (λ (x : FolderCopying). change_list true (is_dirty x.names) up dirty) new_is) (idle_synced Q settles told dirty marks log now kept up known (row_done log now (SyncFolder up) rows))
    around_by (Troubled trouble) says (barrier, new_is) stop =
        let up = (let outer = s.outer in outer.copy.target) in
        listed dirty (around_list ∙ ap (λ (x : FolderCopying). change_list true (is_dirty x.names) up dirty) new_is)
        (idle_refused Q settles told dirty marks log now kept known (folder_refused up (at.Close None) Dirty trouble.cause trouble.path log now stop))
    around_by (Made path) says (mode, stage, path_is, new_is) rows = absurd (let f : ⊥ = cc in f)
    around_by (Set path) says (mode, stage, path_is, new_is) rows = absurd (let f : ⊥ = cc in f)
    around_by Closed says tells rows = absurd says

    pub around_comes : Stands
    around_comes = around_by s.report s.says s.tells (s.called log refl)

  -- a folder whose children are decided is synced, or what is owed of it is refused
  module _ (clean : is_around_dirty old.levels.around ≡ false) (e : FolderEnds (at_end old) new did (Some log) (Some now)) (known : Q marks (current log)) where
    abbrev worked : FolderCopying
    worked = (let x : Seen = at_end old in x.levels.inner.copy)

    ends_list : is_left_dirty did new ≡ is_dirty (let m : FolderCopying = e.moved in m.names) → dirty_after ≡ change_list (is_dirty worked.names) (is_dirty (let m : FolderCopying = e.moved in m.names)) worked.target dirty
    ends_list left =
        list
        ∙ (ap (λ b. change_list (if b then true else is_dirty old.levels.inner.copy.names) (if b then is_around_dirty new.levels.around else is_left_dirty did new)
        (if b then target_around old.levels.around else old.levels.inner.copy.target) dirty) (ap (λ i. brings_in i old.levels) none ∙ clean)
        ∙ ap (λ b. change_list (is_dirty worked.names) b worked.target dirty) left)

    left_names : is_dirty new.levels.inner.copy.names ≡ is_dirty (let m : FolderCopying = e.moved in m.names)
    left_names = ap (λ (x : Seen). is_dirty x.levels.inner.copy.names) e.stands

    pub synced_end : did ≡ common.Barrier → Tells worked Barrier e.moved → FolderCalls worked Barrier log (Some now) → Stands
    synced_end is (stage, names, new_is) rows =
        let row = subst (λ n. AllDone log (next_call worked.target (at.Close None) n) (Some now)) names (subst (λ x. AllDone log (next_call worked.target x worked.names) (Some now)) stage rows) in
        listed (without worked.target dirty)
        (ends_list (ap (λ d. is_left_dirty d new) is ∙ left_names)
        ∙ (ap (λ n. change_list (is_dirty n) (is_dirty (let m : FolderCopying = e.moved in m.names)) worked.target dirty) names
        ∙ ap (λ (x : FolderCopying). change_list true (is_dirty x.names) worked.target dirty) new_is))
        (idle_synced Q settles told dirty marks log now kept worked.target known (row_done log now (SyncFolder worked.target) row))

    pub refused_end : (trouble : Trouble) → did ≡ common.Troubled trouble → Tells worked (Troubled trouble) e.moved → FolderCalls worked (Troubled trouble) log (Some now) → Stands
    refused_end trouble is (barrier, new_is) stop =
        listed dirty
        (ends_list (ap (λ d. is_left_dirty d new) is ∙ left_names)
        ∙ (ap (λ (x : FolderCopying). change_list (is_dirty worked.names) (is_dirty x.names) worked.target dirty) new_is ∙ same_list (is_dirty worked.names) worked.target dirty))
        (idle_refused Q settles told dirty marks log now kept known (folder_refused worked.target worked.stage worked.names trouble.cause trouble.path log now stop))

-- What is known of the part and of the folder around, wherever the copy stands.
abbrev pub PartAt : HistoryFacts → List Route → Marks → FileSystem → Course → SubtreeCopying → Seen → Type 0
PartAt told dirty marks s course c at = ItemHas told dirty marks s course at.item × TargetKnows told marks s (record c { at = at })

-- folders that are left make nothing of it
pub left_item : (n : ℕ) (old mid : Seen) → LeavesAll n old mid → mid.item ≡ old.item
left_item zero old mid is = ap (λ (x : Seen). x.item) is
left_item (suc n) old mid (last, all, none, one) = let r = one.returns in ap (λ (x : Seen). x.item) r.stands ∙ left_item n old last all

pub around_at : (told : HistoryFacts) (marks : Marks) (s : FileSystem) (c : SubtreeCopying) (old new : Seen) → (old.item ≡ Next → new.item ≡ Next) → TargetKnows told marks s (record c { at = old }) → TargetKnows told marks s (record c { at = new })
around_at told marks s c old new stays (inl calm) = inl calm
around_at told marks s c old new stays (inr (none, but)) = inr (stays none, but)

pub left_part : (told : HistoryFacts) (dirty : List Route) (marks : Marks) (s : FileSystem) (course : Course) (c : SubtreeCopying) (n : ℕ) (old mid : Seen) → LeavesAll n old mid → PartAt told dirty marks s course c old → PartAt told dirty marks s course c mid
left_part told dirty marks s course c n old mid l (item, around) = (
  subst (λ i. ItemHas told dirty marks s course i) (sym (left_item n old mid l)) item,
  around_at told marks s c old mid (λ none. left_item n old mid l ∙ none) around,
)

-- nor does what is passed over in the same step, which called nothing more
pub passed_part : (told : HistoryFacts) (dirty : List Route) (marks : Marks) (s : FileSystem) (course other : Course) (c : SubtreeCopying) (cause : Cause) (old new : Seen) (did : Did)
    → ((trouble : Trouble) → did ≡ common.Troubled trouble → may_fill other ≡ true → ⊥) → machine.Skips cause old did new → PartAt told dirty marks s course c old → PartAt told dirty marks s other c new
passed_part told dirty marks s course other c cause old new did off skips (item, around) = (
  skipped_item told dirty marks s course other cause did off old.item old new refl skips item,
  around_at told marks s c old new (λ none. skips_none cause old new did none skips) around,
)

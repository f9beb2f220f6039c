-- Each step of a deletion keeps what is known.
use Rattle.std.proofs.Common.{◌≡◌, ◌⊎◌, ℕ, Bool, true, false, List, [], ◌∷◌, ◌++◌, refl, sym, ◌∙◌, ap, subst, inl, inr, Option, Some, None, Ok, arith, ◌||◌, not}
use Rattle.std.specs.Prelude.{if◌then◌else◌}
use Rattle.std.proofs.lemmas.Bool.{and_from, both_ways, false≢true, or_cases, or_left}
use Rattle.mc_text.specs.Routes.{Route, is_prefix, same_path}
use Rattle.mc_text.proofs.Prefixes.{same_path-lengths}
use Rattle.tree_trait.specs.declared.calls.TreeError.{TreeError}
use Rattle.tree_trait.specs.FileSystem.{find, starts_mount}
use Rattle.tree_trait.specs.Calls.{RemoveFile, RemoveFolder, SyncFolder}
use Rattle.tree_trait.specs.Change.{Syncs, CallLog, current, found_node, with_change}
use Rattle.tree_trait.specs.CrashImages.{Among}
use Rattle.tree_trait.specs.Answers.{Performs}
use Rattle.tree_trait.proofs.Visible.{same_path-self, same_path-true}
use Rattle.laws_crash.specs.Guarded.{Marks}
use Rattle.job_answers.specs.declared.replies.Replies.{Replies}
use Rattle.job_reports.specs.declared.report.Ending.{Ending}
use Rattle.job_reports.specs.declared.report.Ending.TheVariants.{Finished, Aborted, Killed, NoMemory}
use Rattle.job_reports.specs.declared.report.Did.{Did}
use Rattle.job_reports.specs.declared.report.Did.TheVariants.{Began, Chunk, Placed, Removed, Made, Set, Kept, Skipped, Cleaned, Barrier, Asked, Merges, Moved, Troubled, Ended}
use Rattle.job_reports.specs.Paths.{folder_of, without}
use Rattle.job_reports.specs.Stops.{sync_answer}
use Rattle.job_reports.proofs.CallAnswers.{done_call, some_log}
use Rattle.job_reports.proofs.PermittedCalls.{sync_finds}
use Rattle.mode_job.specs.SettingSteps.{sync_of}
use Rattle.delete_job.specs.declared.deletion.Stage.{Stage}
use Rattle.delete_job.specs.declared.deletion.Stage.TheVariants.{Begin, Going, Sync}
use Rattle.job_unsynced.specs.Folders.{is_one_of, joined_folders}
use Rattle.delete_job.specs.Standing.{after_item, at_barrier, is_fresh}
use Rattle.copy_move.specs.declared.work.Work.{Work}
use Rattle.copy_move.specs.declared.work.Work.TheVariants.{Delete}
use Rattle.copy_move.specs.declared.run.Course.{Course}
use Rattle.copy_move.specs.declared.run.Course.TheVariants.{GoesOn, Ends}
use Rattle.delete_job.specs.Deletions.{Deleting, DeletionCalls, DeletionLeaves, IsAtStage, IsRefused, LastCalls, RefusedFile, RefusedFolder, RefusedSync, Tells, TellsTried, Winds}
use Rattle.delete_job.specs.DeletionSteps.{after_try}
use Rattle.copy_move.specs.Jobs.{course_after}
use Rattle.copy_move.specs.Settling.{NoneOwed, with_change as moves_dirty}
use Rattle.laws_sessions.proofs.Calming.{cleared_known, refused_is, still_listed, thing_done}
use Rattle.laws_sessions.proofs.Knowing.{IsCalmPath, IsKept, IsKnown, HistoryFacts, settled_marks}
use Rattle.laws_sessions.specs.Doubt.{way_waits}
use Rattle.laws_sessions.proofs.JobKnows.{AreSureWithin, AreUnjoinedWithin, HasName, IsIntact, KnowsAfter, KnowsWithin, WorkKnows, work_settled, work_still}
use Rattle.laws_sessions.proofs.Stepped.{StepRan, comes_none, comes_one, folders_by, said_after}
use Rattle.laws_sessions.proofs.Deleted.{IsRemoval, comes_refused, folder_removed, removal_done, removal_leads, removes_thing}
use Rattle.laws_sessions.proofs.Intact.{apart_after, apart_begins, calm_begins, folder_apart, folder_firm, intact_after, intact_begins, intact_was, prefix_way, removed_in, removed_sure, within_after, within_begins}
use Rattle.laws_sessions.proofs.Resting.{IsSureFolder}
use Rattle.laws_sessions.proofs.Restless.{IsUnjoined}

last_among : (up : Route) (dirty : List Route) → Among (dirty ++ up ∷ []) up
last_among up [] = inl refl
last_among up (first ∷ dirty) = inr (last_among up dirty)

among_more : (up q : Route) (dirty : List Route) → Among dirty q → Among (dirty ++ up ∷ []) q
among_more up q [] among = absurd among
among_more up q (first ∷ dirty) (inl same) = inl same
among_more up q (first ∷ dirty) (inr more) = inr (among_more up q dirty more)

is_among : (up : Route) (dirty : List Route) → is_one_of up dirty ≡ true → Among dirty up
is_among up [] h = absurd (false≢true h)
is_among up (first ∷ dirty) h = elim (or_cases (same_path first up) (is_one_of up dirty) h) [ inl same ↦ inl (sym (same_path-true first up same)) | inr more ↦ inr (is_among up dirty more) ]

-- a folder that joined is listed, and so is what was listed
pub joined_holds : (up : Route) (dirty : List Route) → Among (joined_folders up dirty) up
joined_holds up dirty = by (is_one_of up dirty) refl
  where
    by : (b : Bool) → is_one_of up dirty ≡ b → Among (if b then dirty else dirty ++ up ∷ []) up
    by true is = is_among up dirty is
    by false is = last_among up dirty

pub joined_more : (up q : Route) (dirty : List Route) → Among dirty q → Among (joined_folders up dirty) q
joined_more up q dirty among = by (is_one_of up dirty)
  where
    by : (b : Bool) → Among (if b then dirty else dirty ++ up ∷ []) q
    by true = among
    by false = among_more up q dirty among

-- the sync of what stands at a path, after which the job stands so
pub comes_synced_at : (told : HistoryFacts) (dirty : List Route) (marks : Marks) (log now : CallLog) (up : Route) (course : Course) (work : Work) (f : ℕ) → IsKept told dirty marks log
    → WorkKnows told (without up dirty) marks log course work → find (current log) up ≡ Some f → now ≡ with_change log (Syncs f)
    → StepRan told told (without up dirty) log now (λ m. WorkKnows told (without up dirty) m now course work)
comes_synced_at told dirty marks log now up course work f kept knows at is =
    comes_one told told dirty (without up dirty) marks marks log now (Syncs f) (λ m. WorkKnows told (without up dirty) m now course work) kept is
    (subst (λ (l : CallLog). IsKnown told (without up dirty) marks l) (sym is) (cleared_known told dirty marks log kept.known up f at))
    (work_settled now marks told (without up dirty) course work (work_still told (without up dirty) marks log now course work kept.known.guarded.tree (Syncs f, is, inr (f, refl)) knows))

-- the sync of a folder that was done, after which the job stands so
comes_synced : (told : HistoryFacts) (dirty : List Route) (marks : Marks) (log now : CallLog) (up : Route) (course : Course) (work : Work) → IsKept told dirty marks log
    → WorkKnows told (without up dirty) marks log course work → Performs {A = Unit {0}} log (SyncFolder up) (Ok tt) (Some now)
    → StepRan told told (without up dirty) log now (λ m. WorkKnows told (without up dirty) m now course work)
comes_synced told dirty marks log now up course work kept knows done =
    let d = done_call log (SyncFolder up) now done in
    comes_synced_at told dirty marks log now up course work (found_node (current log) up) kept knows (sync_finds (current log) up d.permits) d.is

-- the sync of a thing, by its kind
pub comes_thing_synced : (told : HistoryFacts) (dirty : List Route) (marks : Marks) (log now : CallLog) (up : Route) (course : Course) (work : Work) → IsKept told dirty marks log
    → WorkKnows told (without up dirty) marks log course work → Performs {A = Unit {0}} log (sync_of (current log) up) (Ok tt) (Some now)
    → StepRan told told (without up dirty) log now (λ m. WorkKnows told (without up dirty) m now course work)
comes_thing_synced told dirty marks log now up course work kept knows done =
    let d = thing_done log now up done in comes_synced_at told dirty marks log now up course work d.0 kept knows d.1 d.2

pub same_dirty : (b : Bool) (up : Route) (dirty : List Route) → moves_dirty b b up dirty ≡ dirty
same_dirty true up dirty = refl
same_dirty false up dirty = refl

module _ (told : HistoryFacts) (dirty dirty_after : List Route) (marks : Marks) (log now : CallLog) (kept : IsKept told dirty marks log) where
  abbrev pub Steps : Did → Course → Work → Work → Type 0
  Steps did course work new = StepRan told (said_after now did work told) dirty_after log now (KnowsAfter did (said_after now did work told) dirty_after now course new)

  -- a folder whose sync was tried
  pub tried : (up : Route) (left : Option TreeError) (course : Course) (work : Work) → ((routes : List Route) → WorkKnows told routes marks log course work)
      → Performs {A = Unit {0}} log (SyncFolder up) (sync_answer left) (Some now) → dirty_after ≡ after_try Barrier left up dirty
      → StepRan told told dirty_after log now (λ m. WorkKnows told dirty_after m now course work)
  tried up None course work knows answer is =
      subst (λ routes. StepRan told told routes log now (λ m. WorkKnows told routes m now course work)) (sym is) (comes_synced told dirty marks log now up course work kept (knows (without up dirty)) answer)
  tried up (Some e) course work knows answer is =
      subst (λ routes. StepRan told told routes log now (λ m. WorkKnows told routes m now course work)) (sym is)
      (comes_refused told dirty marks log now course work kept (knows dirty) (refused_is log now (SyncFolder up) e (λ s left. refl) answer))

  -- nothing was called
  pub stands : (course : Course) (work : Work) → WorkKnows told dirty marks log course work → dirty_after ≡ dirty → now ≡ log
      → StepRan told told dirty_after log now (λ m. WorkKnows told dirty_after m now course work)
  stands course work knows same is =
      subst (λ routes. StepRan told told routes log now (λ m. WorkKnows told routes m now course work)) (sym same)
      (comes_none told told dirty log now (λ m. WorkKnows told dirty m now course work) marks is kept (subst (λ (l : CallLog). WorkKnows told dirty marks l course work) (sym is) knows))

  -- a job without a part ends
  pub ends : (work : Work) → told.part ≡ None → dirty_after ≡ dirty → now ≡ log → StepRan told (record told { part = None }) dirty_after log now (λ m. (let o : Option Route = None in o) ≡ None)
  ends work none same is =
      subst (λ routes. StepRan told (record told { part = None }) routes log now (λ m. (let o : Option Route = None in o) ≡ None)) (sym same)
      (subst (λ o. StepRan told (record told { part = o }) dirty log now (λ m. (let o : Option Route = None in o) ≡ None)) none
      (comes_none told told dirty log now (λ m. (let o : Option Route = None in o) ≡ None) marks is kept refl))

  -- what a deletion knows that goes on, of the same path
  moved : (d new : Deleting) → new.path ≡ d.path → KnowsWithin told marks log d.path → KnowsWithin told marks log new.path
  moved d new path_is known = subst (KnowsWithin told marks log) (sym path_is) known

  -- a deletion that stands at this stage, wherever its walk is
  pub stays : (course other : Course) (d new : Deleting) (stage : Stage) → WorkKnows told dirty marks log course (Delete d) → IsAtStage d stage new → (stage ≡ Going → d.stage ≡ Going) → (routes : List Route)
      → WorkKnows told routes marks log other (Delete new)
  stays course other d new stage (name, none, known) at goes routes = (
    subst HasName (sym at.path_is) name,
    none,
    λ is. moved d new at.path_is (known (goes (sym at.stage_is ∙ is))),
  )

  pub still_going : (path : Route) (d : Deleting) → after_item d.path path d.stage ≡ Going → d.stage ≡ Going
  still_going path d is = by (same_path path d.path) is
    where
      by : (b : Bool) → (if b then Sync else d.stage) ≡ Going → d.stage ≡ Going
      by true e = absurd (let f : ⊥ = cc in f)
      by false e = e

  -- what is known where a thing is removed
  intact_now : (d : Deleting) → WorkKnows told dirty marks log GoesOn (Delete d) → at_barrier d.stage ≡ false → (is_fresh d.stage ≡ true → NoneOwed (current log) (Delete d) dirty) → IsIntact marks (current log) d.path
  intact_now d (name, none, known) going settled = by d.stage refl
    where
      by : (stage : Stage) → d.stage ≡ stage → IsIntact marks (current log) d.path
      by Begin is = intact_begins told dirty marks log kept d name (settled (ap is_fresh is))
      by Going is = (known is).intact
      by Sync is = absurd (false≢true (sym going ∙ ap at_barrier is))

  -- nor is a folder in doubt that stands there
  within_now : (d : Deleting) → WorkKnows told dirty marks log GoesOn (Delete d) → at_barrier d.stage ≡ false → (is_fresh d.stage ≡ true → NoneOwed (current log) (Delete d) dirty) → AreSureWithin log d.path
  within_now d (name, none, known) going settled = by d.stage refl
    where
      by : (stage : Stage) → d.stage ≡ stage → AreSureWithin log d.path
      by Begin is = within_begins told dirty marks log kept d name (settled (ap is_fresh is))
      by Going is = (known is).sure
      by Sync is = absurd (false≢true (sym going ∙ ap at_barrier is))

  -- none is joined with another one
  apart_now : (d : Deleting) → WorkKnows told dirty marks log GoesOn (Delete d) → at_barrier d.stage ≡ false → (is_fresh d.stage ≡ true → NoneOwed (current log) (Delete d) dirty) → AreUnjoinedWithin log d.path
  apart_now d (name, none, known) going settled = by d.stage refl
    where
      by : (stage : Stage) → d.stage ≡ stage → AreUnjoinedWithin log d.path
      by Begin is = apart_begins told dirty marks log kept d name (settled (ap is_fresh is))
      by Going is = (known is).apart
      by Sync is = absurd (false≢true (sym going ∙ ap at_barrier is))

  -- all is calm
  calm_now : (d : Deleting) → WorkKnows told dirty marks log GoesOn (Delete d) → at_barrier d.stage ≡ false → (is_fresh d.stage ≡ true → NoneOwed (current log) (Delete d) dirty) → (q : Route) → is_prefix d.path q ≡ true
      → IsCalmPath marks log q
  calm_now d (name, none, known) going settled q own = by d.stage refl
    where
      by : (stage : Stage) → d.stage ≡ stage → IsCalmPath marks log q
      by Begin is = calm_begins told dirty marks log kept d name (settled (ap is_fresh is)) q own
      by Going is = kept.known.calm q ((known is).calm q own)
      by Sync is = absurd (false≢true (sym going ∙ ap at_barrier is))

  -- so no mode of what is removed waits, at which no mount begins
  no_mode_now : (path : Route) → IsCalmPath marks log path → (i : ℕ) → find (current log) path ≡ Some i → starts_mount (current log) i ≡ false → marks.modes i ≡ None
  no_mode_now path calm i at inside = elim (calm.mode i at) [ inl none ↦ none | inr begins ↦ absurd (both_ways _ inside begins) ]

  -- the folder that holds the thing is on the disk then
  firm_now : (d : Deleting) (path : Route) → WorkKnows told dirty marks log GoesOn (Delete d) → at_barrier d.stage ≡ false → (is_fresh d.stage ≡ true → NoneOwed (current log) (Delete d) dirty)
      → is_prefix d.path path ≡ true → IsRemoval log now path → IsSureFolder log (folder_of d.path)
  firm_now d path (name, none, known) going settled within it = by d.stage refl
    where
      by : (stage : Stage) → d.stage ≡ stage → IsSureFolder log (folder_of d.path)
      by Begin is = folder_firm told dirty marks log kept d name (settled (ap is_fresh is)) (removed_in log now d.path path kept.known.guarded.tree within it)
      by Going is = kept.known.stand (folder_of d.path) (known is).folder
      by Sync is = absurd (false≢true (sym going ∙ ap at_barrier is))

  above_it : (path : Route) → IsRemoval log now path → same_path (folder_of path) path ≡ false
  above_it path it = subst (λ q. same_path (folder_of q) q ≡ false) (sym it.r.path_is) (same_path-lengths it.r.up (it.r.name ∷ it.r.up) (λ e. let n : ⊥ = absurd (omega (arith, e)) in n))

  removes : (d new : Deleting) (path : Route) (stage : Stage) → WorkKnows told dirty marks log GoesOn (Delete d) → IsIntact marks (current log) d.path → AreSureWithin log d.path → IsSureFolder log (folder_of d.path) → ((q : Route) → is_prefix d.path q ≡ true → IsCalmPath marks log q) → AreUnjoinedWithin log d.path → is_prefix d.path path ≡ true
      → IsAtStage d stage new → Among dirty_after (folder_of path) → ((q : Route) → Among dirty q → same_path q path ≡ false → Among dirty_after q) → IsRemoval log now path → Steps (Removed path) GoesOn (Delete d) (Delete new)
  removes d new path stage (name, none, known) intact sure firm calm apart within at listed more it =
      removes_thing told dirty dirty_after marks log now path (Delete d) (KnowsAfter (Removed path) (said_after now (Removed path) (Delete d) told) dirty_after now GoesOn (Delete new)) kept none
      (λ out. intact_was marks (current log) d.path path it.r.i intact within (removal_leads log now path it) out) firm way calm (no_mode_now path (calm path within)) unjoined listed more it (
        subst HasName (sym at.path_is) name,
        none,
        λ is. record {
          intact = subst (IsIntact (settled_marks now marks) (current now)) (sym at.path_is) (intact_after told dirty marks log now path d.path kept it way intact);
          sure = subst (AreSureWithin now) (sym at.path_is) (within_after log now path d.path kept.known.guarded.tree it sure);
          folder = subst (λ q. folders_by (Removed path) (folder_of d.path) told.folders (folder_of q) ≡ true) (sym at.path_is) there;
          calm = λ q own. or_left _ _ (subst (λ (p : Route). is_prefix p q ≡ true) at.path_is own);
          apart = subst (AreUnjoinedWithin now) (sym at.path_is) (apart_after log now path d.path kept.known.guarded.tree it apart);
        },
      )
    where
      way : way_waits log (folder_of path) ≡ false
      way = let around = removed_sure log now d.path path kept.known.guarded.tree within sure firm it in around.sure

      unjoined : IsUnjoined log path
      unjoined = let w = prefix_way d.path path within in subst (IsUnjoined log) (sym w.1) (apart w.0)

      there : folders_by (Removed path) (folder_of d.path) told.folders (folder_of d.path) ≡ true
      there = and_from (same_path (folder_of d.path) (folder_of d.path) || told.folders (folder_of d.path)) (not (same_path (folder_of d.path) path)) (or_left _ _ (same_path-self (folder_of d.path)))
          (ap not (folder_apart log now d.path path within it))

  refused_by : (e : TreeError) → IsRefused log e (Some now) → (now ≡ log) ⊎ (now ≡ with_change log Rattle.tree_trait.specs.Change.Nothing)
  refused_by e (RefusedFile path h) = refused_is log now (RemoveFile path) e (λ s left. refl) h
  refused_by e (RefusedFolder path h) = refused_is log now (RemoveFolder path) e (λ s left. refl) h
  refused_by e (RefusedSync folder h) = refused_is log now (SyncFolder folder) e (λ s left. refl) h

  pub deletion_tells : (replies : Replies) (d new : Deleting) (did : Did) → WorkKnows told dirty marks log GoesOn (Delete d) → Tells replies d did new → DeletionCalls did log (Some now)
      → (is_fresh d.stage ≡ true → NoneOwed (current log) (Delete d) dirty) → DeletionLeaves d did dirty dirty_after (Some log) (Some now) → Steps did (course_after did) (Delete d) (Delete new)
  deletion_tells replies d new (Removed path) knows (going, within, at) done settled (inl (leaves, called)) =
      let it = removal_done log now path kept.known.guarded.tree (called log refl) in
      removes d new path _ knows (intact_now d knows going settled) (within_now d knows going settled) (firm_now d path knows going settled within it) (calm_now d knows going settled) (apart_now d knows going settled) within at (subst (λ xs. Among xs (folder_of path)) (sym leaves) (joined_holds (folder_of path) dirty))
      (λ q among off. subst (λ xs. Among xs q) (sym leaves) (joined_more (folder_of path) q dirty among)) it
  deletion_tells replies d new (Removed path) knows (going, within, at) done settled (inr (leaves, called)) =
      let it = folder_removed log now path kept.known.guarded.tree (called log refl) in
      removes d new path _ knows (intact_now d knows going settled) (within_now d knows going settled) (firm_now d path knows going settled within it) (calm_now d knows going settled) (apart_now d knows going settled) within at
      (subst (λ xs. Among xs (folder_of path)) (sym leaves) (still_listed path (folder_of path) (joined_folders (folder_of path) dirty) (joined_holds (folder_of path) dirty) (above_it path it)))
      (λ q among off. subst (λ xs. Among xs q) (sym leaves) (still_listed path q (joined_folders (folder_of path) dirty) (joined_more (folder_of path) q dirty among) off)) it
  deletion_tells replies d new (Kept path) knows (going, at) done settled leaves = stands GoesOn (Delete new) (stays GoesOn GoesOn d new _ knows at (still_going path d) dirty) leaves (some_log now log done)
  deletion_tells replies d new (Asked question) knows tells done settled leaves = absurd tells
  deletion_tells replies d new (Merges transfer pair names) knows tells done settled leaves = absurd tells
  deletion_tells replies d new (Moved pair) knows tells done settled leaves = absurd tells
  deletion_tells replies d new Barrier knows (stage, at) done settled (folder, own, left, called) = tried folder None GoesOn (Delete new) (stays GoesOn GoesOn d new d.stage knows at (λ is. is)) (called log refl) left
  deletion_tells replies d new (Troubled trouble) knows (barrier, at) done settled leaves =
      subst (λ routes. StepRan told told routes log now (λ m. WorkKnows told routes m now (course_after (Troubled trouble)) (Delete new))) (sym leaves)
      (comes_refused told dirty marks log now (course_after (Troubled trouble)) (Delete new) kept (stays GoesOn (course_after (Troubled trouble)) d new d.stage knows at (λ is. is) dirty) (by done))
    where
      by : DeletionCalls (Troubled trouble) log (Some now) → (now ≡ log) ⊎ (now ≡ with_change log Rattle.tree_trait.specs.Change.Nothing)
      by (inl same) = inl (some_log now log same)
      by (inr (e, cause, refused)) = refused_by e refused
  deletion_tells replies d new (Ended Finished part) knows (stage, part_is, at) done settled leaves =
      subst (λ o. Steps (Ended Finished o) GoesOn (Delete d) (Delete new)) (sym part_is) (ends (Delete d) knows.1 leaves.1 (some_log now log done))
  deletion_tells replies d new (Ended Aborted part) knows tells done settled leaves = absurd tells
  deletion_tells replies d new (Ended Killed part) knows tells done settled leaves = absurd tells
  deletion_tells replies d new (Ended NoMemory part) knows tells done settled leaves = absurd tells
  deletion_tells replies d new (Began part) knows tells done settled leaves = absurd tells
  deletion_tells replies d new (Chunk count) knows tells done settled leaves = absurd tells
  deletion_tells replies d new (Set path) knows tells done settled leaves = absurd tells
  deletion_tells replies d new (Placed path) knows tells done settled leaves = absurd tells
  deletion_tells replies d new (Made made) knows tells done settled leaves = absurd tells
  deletion_tells replies d new (Skipped path cause) knows (going, passes, at) done settled leaves =
      subst (λ routes. StepRan told told routes log now (λ m. WorkKnows told routes m now GoesOn (Delete new))) (sym leaves)
      (comes_refused told dirty marks log now GoesOn (Delete new) kept (stays GoesOn GoesOn d new _ knows at (still_going path d) dirty) (by done))
    where
      by : DeletionCalls (Skipped path cause) log (Some now) → (now ≡ log) ⊎ (now ≡ with_change log Rattle.tree_trait.specs.Change.Nothing)
      by (inl same) = inl (some_log now log same)
      by (inr (e, is, refused)) = refused_by e refused
  deletion_tells replies d new (Cleaned part) knows tells done settled leaves = absurd tells

  pub deletion_winds : (d new : Deleting) (ending : Ending) (did : Did) (left : Option TreeError) (folder : Route) → WorkKnows told dirty marks log (Ends ending) (Delete d) → Winds ending d did new
      → TellsTried did left folder log (Some now) → LastCalls did log (Some now) → dirty_after ≡ after_try did left folder dirty
      → Steps did (Ends ending) (Delete d) (Delete new)
  deletion_winds d new ending Barrier left folder (name, none, known) (path_is, stage_is) answer calls leaves =
      tried folder left (Ends ending) (Delete new) (λ routes. (subst HasName (sym path_is) name, none, λ is. moved d new path_is (known (sym stage_is ∙ is)))) answer leaves
  deletion_winds d new ending (Ended how part) left folder knows (how_is, part_is, path_is, stage_is) answer calls leaves =
      subst (λ o. Steps (Ended how o) (Ends ending) (Delete d) (Delete new)) (sym part_is) (ends (Delete d) knows.1 leaves (some_log now log calls))
  deletion_winds d new ending (Began part) left folder knows tells answer calls leaves = absurd tells
  deletion_winds d new ending (Chunk count) left folder knows tells answer calls leaves = absurd tells
  deletion_winds d new ending (Set path) left folder knows tells answer calls leaves = absurd tells
  deletion_winds d new ending (Placed path) left folder knows tells answer calls leaves = absurd tells
  deletion_winds d new ending (Removed path) left folder knows tells answer calls leaves = absurd tells
  deletion_winds d new ending (Made path) left folder knows tells answer calls leaves = absurd tells
  deletion_winds d new ending (Kept path) left folder knows tells answer calls leaves = absurd tells
  deletion_winds d new ending (Asked question) left folder knows tells answer calls leaves = absurd tells
  deletion_winds d new ending (Merges transfer pair names) left folder knows tells answer calls leaves = absurd tells
  deletion_winds d new ending (Moved pair) left folder knows tells answer calls leaves = absurd tells
  deletion_winds d new ending (Skipped path cause) left folder knows tells answer calls leaves = absurd tells
  deletion_winds d new ending (Cleaned part) left folder knows tells answer calls leaves = absurd tells
  deletion_winds d new ending (Troubled trouble) left folder knows tells answer calls leaves = absurd tells

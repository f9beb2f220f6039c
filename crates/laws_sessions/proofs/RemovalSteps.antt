-- Each step of the removal of an emptied folder keeps what is known.
use Rattle.std.proofs.Common.{◌≡◌, ◌⊎◌, true, List, [], refl, sym, ◌∙◌, ap, subst, inl, inr, Option, Some, None, Ok}
use Rattle.mc_text.specs.Routes.{Route}
use Rattle.tree_trait.specs.declared.calls.TreeError.{TreeError}
use Rattle.tree_trait.specs.declared.calls.TreeError.TheVariants.{NotEmpty}
use Rattle.tree_trait.specs.Calls.{RemoveFolder, SyncFolder}
use Rattle.tree_trait.specs.Change.{Nothing, CallLog, current, with_change}
use Rattle.tree_trait.specs.CrashImages.{Among}
use Rattle.tree_trait.specs.Answers.{Performs}
use Rattle.tree_trait.proofs.Visible.{same_path-true}
use Rattle.laws_crash.specs.Guarded.{Marks}
use Rattle.job_answers.specs.declared.replies.Replies.{Replies}
use Rattle.job_reports.specs.declared.report.Cause.{Cause}
use Rattle.job_reports.specs.declared.report.Ending.{Ending}
use Rattle.job_reports.specs.declared.report.Ending.TheVariants.{Finished}
use Rattle.job_reports.specs.declared.report.Did.{Did}
use Rattle.job_reports.specs.declared.report.Did.TheVariants.{Removed, Kept, Skipped, Barrier, Troubled, Ended}
use Rattle.job_reports.specs.Paths.{folder_of}
use Rattle.job_reports.proofs.CallAnswers.{some_log}
use Rattle.job_unsynced.specs.Folders.{joined_folders}
use Rattle.emptied_job.specs.declared.removal.RemovalStage.{RemovalStage}
use Rattle.emptied_job.specs.declared.removal.RemovalStage.TheVariants as removal
use Rattle.emptied_job.specs.Removals.{LastRemovalCalls, RemovalCalls, RemovalLeaves, Removing, Stops, Tells, Winds, is_dirty, is_fresh}
use Rattle.copy_move.specs.declared.work.Work.{Work}
use Rattle.copy_move.specs.declared.work.Work.TheVariants.{RemoveEmptied}
use Rattle.copy_move.specs.declared.run.Course.{Course}
use Rattle.copy_move.specs.declared.run.Course.TheVariants.{GoesOn, Ends}
use Rattle.delete_job.specs.DeletionSteps.{after_try}
use Rattle.copy_move.specs.Jobs.{course_after}
use Rattle.copy_move.specs.Settling.{NoneOwed, with_change as moves_dirty}
use Rattle.laws_sessions.proofs.Calming.{refused_is}
use Rattle.laws_sessions.proofs.Deleted.{IsRemoval, comes_refused, folder_removed, removes_thing}
use Rattle.laws_sessions.proofs.DeletionSteps.{Steps, ends, joined_holds, joined_more, same_dirty, tried}
use Rattle.laws_sessions.proofs.Intact.{removed_in}
use Rattle.laws_sessions.proofs.JobKnows.{HasName, KnowsAfter, WorkKnows}
use Rattle.laws_sessions.proofs.Knowing.{IsCalmPath, IsKept, HistoryFacts}
use Rattle.laws_sessions.proofs.OwnNames.{may_change}
use Rattle.laws_sessions.proofs.Resting.{name_sure}
use Rattle.laws_sessions.proofs.Sources.{item_in}
use Rattle.laws_sessions.proofs.Stepped.{StepRan, said_after}
use Rattle.laws_sessions.proofs.ThingRests.{NoneWithin, around_sure, modes_within, none_in_emptied, prefix_append, sure_within, unjoined}
use Rattle.laws_sessions.proofs.WaitsAlone.{alone_calm}

module _ (told : HistoryFacts) (dirty dirty_after : List Route) (marks : Marks) (log now : CallLog) (kept : IsKept told dirty marks log) where
  abbrev In : Did → Course → Work → Work → Type 0
  In did course work new = Steps told dirty dirty_after marks log now kept did course work new

  -- The folder is removed, of which nothing waits, nor in the one that holds it.
  removes : (r new : Removing) → HasName r.path → told.part ≡ None → new.path ≡ r.path → NoneOwed (current log) (RemoveEmptied r) dirty → dirty_after ≡ joined_folders (folder_of r.path) dirty
      → Performs {A = Unit {0}} log (RemoveFolder r.path) (Ok tt) (Some now) → In (Removed r.path) GoesOn (RemoveEmptied r) (RemoveEmptied new)
  removes r new name none path_is owed routes done =
      removes_thing told dirty dirty_after marks log now r.path (RemoveEmptied r) (KnowsAfter (Removed r.path) (said_after now (Removed r.path) (RemoveEmptied r) told) dirty_after now GoesOn (RemoveEmptied new)) kept none
      (λ out. kept.was r.path out (sure_within told dirty marks log kept r.path name within []))
      (record { stands = removed_in log now r.path r.path kept.known.guarded.tree (prefix_append r.path []) it; sure = around_sure told dirty marks log kept r.path name within })
      (around_sure told dirty marks log kept r.path name within) calm
      (λ i at inside. modes_within told dirty marks log kept r.path name within [] i at)
      (unjoined told dirty marks log kept r.path name within [])
      (subst (λ xs. Among xs (folder_of r.path)) (sym routes) (joined_holds (folder_of r.path) dirty))
      (λ q among off. subst (λ xs. Among xs q) (sym routes) (joined_more (folder_of r.path) q dirty among))
      it (subst HasName (sym path_is) name, none)
    where
      within : NoneWithin (current log) r.path dirty
      within = none_in_emptied (current log) r dirty owed

      it : IsRemoval log now r.path
      it = folder_removed log now r.path kept.known.guarded.tree done

      calm : (q : Route) → may_change (item_in (RemoveEmptied r)) q ≡ true → IsCalmPath marks log q
      calm q own = subst (IsCalmPath marks log) (sym (same_path-true q r.path own)) (record {
        mode = λ i at. inl (modes_within told dirty marks log kept r.path name within [] i at);
        alone = alone_calm log r.path (name_sure log r.path (sure_within told dirty marks log kept r.path name within []));
      })

  -- what is known of it at a later stage, or in another course, whatever is dirty
  stays : (course : Course) (r new : Removing) → HasName r.path → told.part ≡ None → new.path ≡ r.path → (routes : List Route) → WorkKnows told routes marks log course (RemoveEmptied new)
  stays course r new name none path_is routes = (subst HasName (sym path_is) name, none)

  -- a call that was refused, after which it stands so
  refused_at : (course : Course) (r new : Removing) → HasName r.path → told.part ≡ None → new.path ≡ r.path → (now ≡ log) ⊎ (now ≡ with_change log Nothing) → dirty_after ≡ dirty
      → StepRan told told dirty_after log now (λ m. WorkKnows told dirty_after m now course (RemoveEmptied new))
  refused_at course r new name none path_is how routes =
      subst (λ xs. StepRan told told xs log now (λ m. WorkKnows told xs m now course (RemoveEmptied new))) (sym routes)
      (comes_refused told dirty marks log now course (RemoveEmptied new) kept (stays course r new name none path_is dirty) how)

  stops_same : (r : Removing) (stage : RemovalStage) (cause : Cause) (path : Option Route) → Stops r stage cause path log (Some now) → (now ≡ log) ⊎ (now ≡ with_change log Nothing)
  stops_same r removal.Remove cause path (inl (why, nowhere, same)) = inl (some_log now log same)
  stops_same r removal.Remove cause path (inr s) = refused_is log now (RemoveFolder r.path) s.error (λ x left. refl) s.called
  stops_same r removal.Sync cause path s = refused_is log now (SyncFolder (folder_of r.path)) s.error (λ x left. refl) s.called
  stops_same r removal.Finish cause path s = refused_is log now (SyncFolder (folder_of r.path)) s.error (λ x left. refl) s.called
  stops_same r removal.PassedOver cause path s = refused_is log now (SyncFolder (folder_of r.path)) s.error (λ x left. refl) s.called

  -- the dirty folders, from one stage to another
  module _ (r new : Removing) (leaves : dirty_after ≡ moves_dirty (is_dirty r.stage) (is_dirty new.stage) (folder_of r.path) dirty) where
    from_to : (old then : RemovalStage) → r.stage ≡ old → new.stage ≡ then → dirty_after ≡ moves_dirty (is_dirty old) (is_dirty then) (folder_of r.path) dirty
    from_to old then old_is then_is =
        leaves ∙ (ap (λ x. moves_dirty (is_dirty x) (is_dirty new.stage) (folder_of r.path) dirty) old_is ∙ ap (λ x. moves_dirty (is_dirty old) (is_dirty x) (folder_of r.path) dirty) then_is)

    still_dirty : new ≡ r → dirty_after ≡ dirty
    still_dirty is = from_to r.stage r.stage refl (ap (λ (x : Removing). x.stage) is) ∙ same_dirty (is_dirty r.stage) (folder_of r.path) dirty

  pub removal_tells : (replies : Replies) (r new : Removing) (did : Did) → WorkKnows told dirty marks log GoesOn (RemoveEmptied r) → Tells replies r did new → RemovalCalls r did log (Some now)
      → (is_fresh r.stage ≡ true → NoneOwed (current log) (RemoveEmptied r) dirty) → dirty_after ≡ moves_dirty (is_dirty r.stage) (is_dirty new.stage) (folder_of r.path) dirty
      → In did (course_after did) (RemoveEmptied r) (RemoveEmptied new)
  removal_tells replies r new (Removed path) (name, none) (stage, path_is, new_is) done settled leaves =
      subst (λ q. In (Removed q) GoesOn (RemoveEmptied r) (RemoveEmptied new)) (sym path_is)
      (removes r new name none (ap (λ (x : Removing). x.path) new_is) (settled (ap is_fresh stage)) (from_to r new leaves removal.Remove removal.Sync stage (ap (λ (x : Removing). x.stage) new_is)) done)
  removal_tells replies r new (Kept path) (name, none) (stage, path_is, new_is) done settled leaves =
      refused_at GoesOn r new name none (ap (λ (x : Removing). x.path) new_is) (refused_is log now (RemoveFolder r.path) NotEmpty (λ x left. refl) done)
      (from_to r new leaves removal.Remove removal.PassedOver stage (ap (λ (x : Removing). x.stage) new_is))
  removal_tells replies r new (Skipped path cause) (name, none) (stage, path_is, passes, new_is) (named, stops) settled leaves =
      refused_at GoesOn r new name none (ap (λ (x : Removing). x.path) new_is) (stops_same r r.stage cause named stops)
      (from_to r new leaves removal.Remove removal.PassedOver stage (ap (λ (x : Removing). x.stage) new_is))
  removal_tells replies r new Barrier (name, none) (stage, new_is) done settled leaves =
      tried told dirty dirty_after marks log now kept (folder_of r.path) None GoesOn (RemoveEmptied new) (stays GoesOn r new name none (ap (λ (x : Removing). x.path) new_is)) done
      (from_to r new leaves removal.Sync removal.Finish stage (ap (λ (x : Removing). x.stage) new_is))
  removal_tells replies r new (Troubled trouble) (name, none) (barrier, going, why, new_is) stops settled leaves =
      refused_at (course_after (Troubled trouble)) r new name none (ap (λ (x : Removing). x.path) new_is) (stops_same r r.stage trouble.cause trouble.path stops) (still_dirty r new leaves new_is)
  removal_tells replies r new (Ended Finished part) (name, none) (over, part_is, new_is) done settled leaves =
      subst (λ o. In (Ended Finished o) GoesOn (RemoveEmptied r) (RemoveEmptied new)) (sym part_is) (ends told dirty dirty_after marks log now kept (RemoveEmptied r) none (still_dirty r new leaves new_is) (some_log now log done))
  removal_tells replies r new did knows tells done settled leaves = absurd tells

  pub removal_winds : (r new : Removing) (ending : Ending) (did : Did) (left : Option TreeError) → WorkKnows told dirty marks log (Ends ending) (RemoveEmptied r) → Winds ending r did new
      → RemovalLeaves r did left log (Some now) → LastRemovalCalls r did log (Some now) → dirty_after ≡ after_try did left (folder_of r.path) dirty
      → In did (Ends ending) (RemoveEmptied r) (RemoveEmptied new)
  removal_winds r new ending Barrier left (name, none) (stage, new_is) answer calls leaves =
      tried told dirty dirty_after marks log now kept (folder_of r.path) left (Ends ending) (RemoveEmptied new) (stays (Ends ending) r new name none (ap (λ (x : Removing). x.path) new_is)) answer leaves
  removal_winds r new ending (Ended how part) left (name, none) (clean, how_is, part_is, new_is) answer calls leaves =
      subst (λ o. In (Ended how o) (Ends ending) (RemoveEmptied r) (RemoveEmptied new)) (sym part_is) (ends told dirty dirty_after marks log now kept (RemoveEmptied r) none leaves (some_log now log calls))
  removal_winds r new ending did left knows winds answer calls leaves = absurd winds

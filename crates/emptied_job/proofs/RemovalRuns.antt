-- A step of a removal is at most one call of the tree, with its answer.
use Rattle.std.proofs.Common.{◌≡◌, ◌⊎◌, ℕ, ◌≤◌, true, false, refl, sym, ◌∙◌, ap, subst, inl, inr, Option, None, Result, Ok, Err, arith}
use Rattle.mc_text.specs.Routes.{Route}
use Rattle.tree_trait.specs.declared.calls.TreeError.{TreeError}
use Rattle.tree_trait.specs.declared.calls.TreeError.TheVariants as refused
use Rattle.tree_trait.specs.Calls.{Call, RemoveFolder, SyncFolder}
use Rattle.tree_trait.specs.Change.{CallLog}
use Rattle.tree_trait.specs.Answers.{IfKnown, HasCause, HasRisen, Performs}
use Rattle.job_reports.specs.declared.report.Cause.TheVariants.{Tree, Memory}
use Rattle.job_reports.specs.declared.report.Trouble.{Trouble}
use Rattle.job_reports.specs.declared.report.Ending.{Ending}
use Rattle.job_reports.specs.declared.report.Did.{Did}
use Rattle.job_reports.specs.declared.report.Did.TheVariants.{Removed, Kept, Skipped, Barrier, Troubled}
use Rattle.job_reports.specs.CallRuns.{HasMore}
use Rattle.job_reports.specs.Paths.{folder_of}
use Rattle.job_reports.specs.Stops.{cause_of, calls_made_for, named_path, out_of_memory_at, refusal_in, trouble_at}
use Rattle.job_reports.proofs.Runs.{no_more}
use Rattle.job_reports.proofs.Tried.{answered, counts_try, fault_tried, tries_few}
use Rattle.job_answers.specs.declared.replies.Replies.{Replies}
use Rattle.job_answers.specs.Skipping.{holds, is_passed_over, kind_in}
use Rattle.emptied_job.specs.declared.removal.RemovalStage.TheVariants as stage
use Rattle.emptied_job.specs.Removals.{Removing, Stops, at_barrier, is_done}
use Rattle.emptied_job.specs.RemovalSteps.{LastRemovalStep, NotRemoved, RemovalStep}

-- only a fault is called one
fault_is : (e : TreeError) → cause_of e ≡ Tree refused.Fault → e ≡ refused.Fault
fault_is refused.Memory h = cc
fault_is e h = cc

module _ (before after : Option CallLog) where
  -- the call that a removal makes, where its tree is known
  abbrev Called : Call → Result (Unit {0}) TreeError → Type 0
  Called call answer = IfKnown before (λ log. Performs {A = Unit {0}} log call answer after)

  counted : (call : Call) (answer : Result (Unit {0}) TreeError) (calls : ℕ) → calls ≡ calls_made_for answer → Called call answer → IfKnown before (λ log. IfKnown after (HasMore log calls))
  counted call answer calls count called log known now is = subst (λ n. HasMore log n now) (sym count) (counts_try call answer log now after (called log known) is)

  -- no call was made
  none_counted : (calls : ℕ) → calls ≡ 0 → after ≡ before → IfKnown before (λ log. IfKnown after (HasMore log calls))
  none_counted calls count same log known now is = subst (λ n. HasMore log n now) (sym count) (no_more log now (sym known ∙ (sym same ∙ is)))

module _ (old new : Removing) (before after : Option CallLog) (faults faults_after : ℕ) where
  -- the last sync was tried
  pub steps_tried : (ending : Ending) (did : Did) (calls : ℕ) (left : Option TreeError) (folder : Route) (answer : Result (Unit {0}) TreeError)
      → did ≡ Barrier → calls ≡ calls_made_for answer → left ≡ refusal_in answer → old.stage ≡ stage.Sync → folder ≡ folder_of old.path
      → new ≡ record old { stage = stage.Finish } → Called before after (SyncFolder folder) answer → (before ≡ None → after ≡ None)
      → HasCause refused.Fault faults faults_after answer
      → LastRemovalStep ending old new did calls left before after faults faults_after
  steps_tried ending did calls left folder answer is count left_is at folder_is new_is called unknown cause =
      subst (λ d. LastRemovalStep ending old new d calls left before after faults faults_after) (sym is) record {
        tells = (at, new_is);
        called = λ log known. (answer, subst (λ f. Performs {A = Unit {0}} log (SyncFolder f) answer after) folder_is (called log known));
        synced = λ log known.
            subst (λ a. Performs {A = Unit {0}} log (SyncFolder (folder_of old.path)) a after) (answered answer left left_is)
            (subst (λ f. Performs {A = Unit {0}} log (SyncFolder f) answer after) folder_is (called log known));
        counted = counted before after (SyncFolder folder) answer calls count called;
        few = let most = tries_few answer in omega (arith, count, most);
        unknown = unknown;
        later = cause.later;
        fault = fault_tried answer left faults faults_after left_is cause;
      }

module _ (replies : Replies) (old new : Removing) (before after : Option CallLog) (faults faults_after : ℕ) where
  -- the folder is gone
  pub steps_removed : (did : Did) (calls : ℕ) → did ≡ Removed old.path → calls ≡ 1 → old.stage ≡ stage.Remove → new ≡ record old { stage = stage.Sync }
      → Called before after (RemoveFolder old.path) (Ok tt) → (before ≡ None → after ≡ None) → faults ≤ faults_after
      → RemovalStep replies old new did calls before after faults faults_after
  steps_removed did calls is count at new_is called unknown later =
      subst (λ d. RemovalStep replies old new d calls before after faults faults_after) (sym is) record {
        tells = (at, refl, new_is);
        called = called;
        counted = counted before after (RemoveFolder old.path) (Ok tt) calls count called;
        few = omega (arith, count);
        unknown = unknown;
        later = later;
        fault = λ h. absurd h;
      }

  -- the folder around is on the disk
  pub steps_synced : (did : Did) (calls : ℕ) (folder : Route) → did ≡ Barrier → calls ≡ 1 → old.stage ≡ stage.Sync → folder ≡ folder_of old.path
      → new ≡ record old { stage = stage.Finish } → Called before after (SyncFolder folder) (Ok tt) → (before ≡ None → after ≡ None) → faults ≤ faults_after
      → RemovalStep replies old new did calls before after faults faults_after
  steps_synced did calls folder is count at folder_is new_is called unknown later =
      subst (λ d. RemovalStep replies old new d calls before after faults faults_after) (sym is) record {
        tells = (at, new_is);
        called = λ log known. subst (λ f. Performs {A = Unit {0}} log (SyncFolder f) (Ok tt) after) folder_is (called log known);
        counted = counted before after (SyncFolder folder) (Ok tt) calls count called;
        few = omega (arith, count);
        unknown = unknown;
        later = later;
        fault = λ h. absurd h;
      }

  -- A trouble, or the folder is passed over for it: the call that was refused, or none, is the one that it tells of.
  module _ (did : Did) (calls : ℕ) (t : Trouble) (stops : IfKnown before (λ log. Stops old old.stage t.cause t.path log after))
      (counts : IfKnown before (λ log. IfKnown after (HasMore log calls))) (few : calls ≤ 1)
      (unknown : before ≡ None → after ≡ None) (later : faults ≤ faults_after) (fault : t.cause ≡ Tree refused.Fault → HasRisen faults faults_after) where
    steps_told : did ≡ Troubled t → new ≡ old → t.barrier ≡ at_barrier old.stage → is_done old.stage ≡ false
        → ((is_passed_over replies.skips t ≡ false) ⊎ (t.cause ≡ Memory)) → RemovalStep replies old new did calls before after faults faults_after
    steps_told is new_is barrier going told =
        subst (λ d. RemovalStep replies old new d calls before after faults faults_after) (sym is) record {
          tells = (barrier, going, told, new_is);
          called = stops;
          counted = counts;
          few = few;
          unknown = unknown;
          later = later;
          fault = fault;
        }

    steps_skipped : did ≡ Skipped old.path t.cause → new ≡ record old { stage = stage.PassedOver } → old.stage ≡ stage.Remove
        → holds replies.skips (kind_in t.cause) ≡ true → RemovalStep replies old new did calls before after faults faults_after
    steps_skipped is new_is at over =
        subst (λ d. RemovalStep replies old new d calls before after faults faults_after) (sym is) record {
          tells = (at, refl, over, new_is);
          called = λ log known. (t.path, stops log known);
          counted = counts;
          few = few;
          unknown = unknown;
          later = later;
          fault = fault;
        }

  -- no call was made: there was no memory for the report, or for the folder around in the list
  pub steps_unmade : (did : Did) (calls : ℕ) → did ≡ Troubled (out_of_memory_at false) → calls ≡ 0 → old.stage ≡ stage.Remove → new ≡ old → after ≡ before → faults ≤ faults_after
      → RemovalStep replies old new did calls before after faults faults_after
  steps_unmade did calls is count at new_is same later =
      steps_told did calls (out_of_memory_at false) (λ log known. subst (λ s. Stops old s Memory None log after) (sym at) (inl (refl, refl, same ∙ known)))
      (none_counted before after calls count same) (omega (arith, count)) (λ h. same ∙ h) later (λ h. absurd cc) is new_is (sym (ap at_barrier at)) (ap is_done at) (inr refl)

  -- The removal was refused, or it found no memory.
  module _ (did : Did) (calls : ℕ) (at : old.stage ≡ stage.Remove) (unknown : before ≡ None → after ≡ None) where
    remove_stops : (e : TreeError) → (e ≡ refused.NotEmpty → ⊥) → Called before after (RemoveFolder old.path) (Err e)
        → IfKnown before (λ log. Stops old old.stage (cause_of e) (named_path e old.path) log after)
    remove_stops e troubles called log known =
        subst (λ s. Stops old s (cause_of e) (named_path e old.path) log after) (sym at)
        (inr (record { error = e; trouble = troubles; cause_is = refl; path_is = refl; called = called log known }))

    error_risen : (e : TreeError) → HasCause refused.Fault faults faults_after (let r : Result (Unit {0}) TreeError = Err e in r) → cause_of e ≡ Tree refused.Fault → HasRisen faults faults_after
    error_risen e cause h = cause.risen (ap Err (fault_is e h))

    -- something lies in it
    steps_kept : did ≡ Kept old.path → calls ≡ 1 → new ≡ record old { stage = stage.PassedOver } → Called before after (RemoveFolder old.path) (Err refused.NotEmpty)
        → faults ≤ faults_after → RemovalStep replies old new did calls before after faults faults_after
    steps_kept is count new_is called later =
        subst (λ d. RemovalStep replies old new d calls before after faults faults_after) (sym is) record {
          tells = (at, refl, new_is);
          called = called;
          counted = counted before after (RemoveFolder old.path) (Err refused.NotEmpty) calls count called;
          few = omega (arith, count);
          unknown = unknown;
          later = later;
          fault = λ h. absurd h;
        }

    -- it is told, or passed over
    steps_passed : (e : TreeError) → (e ≡ refused.NotEmpty → ⊥) → calls ≡ calls_made_for (Err e)
        → ((is_passed_over replies.skips (trouble_at e old.path false) ≡ true) × (did ≡ Skipped old.path (cause_of e)) × (new ≡ record old { stage = stage.PassedOver }))
        ⊎ ((is_passed_over replies.skips (trouble_at e old.path false) ≡ false) × (did ≡ Troubled (trouble_at e old.path false)) × (new ≡ old))
        → Called before after (RemoveFolder old.path) (Err e)
        → HasCause refused.Fault faults faults_after (let r : Result (Unit {0}) TreeError = Err e in r) → RemovalStep replies old new did calls before after faults faults_after
    steps_passed e troubles count (inl (over, is, new_is)) called cause =
        steps_skipped did calls (trouble_at e old.path false) (remove_stops e troubles called) (counted before after (RemoveFolder old.path) (Err e) calls count called)
        (let most = tries_few (Err e) in omega (arith, count, most)) unknown cause.later (error_risen e cause) is new_is at over
    steps_passed e troubles count (inr (over, is, new_is)) called cause =
        steps_told did calls (trouble_at e old.path false) (remove_stops e troubles called) (counted before after (RemoveFolder old.path) (Err e) calls count called)
        (let most = tries_few (Err e) in omega (arith, count, most)) unknown cause.later (error_risen e cause) is new_is (sym (ap at_barrier at)) (ap is_done at) (inl over)

    pub steps_refused : (e : TreeError) → calls ≡ calls_made_for (Err e) → NotRemoved replies old e did new → Called before after (RemoveFolder old.path) (Err e)
        → HasCause refused.Fault faults faults_after (let r : Result (Unit {0}) TreeError = Err e in r) → RemovalStep replies old new did calls before after faults faults_after
    steps_refused refused.Memory count (is, new_is) called cause =
        steps_told did calls (out_of_memory_at false) (remove_stops refused.Memory (λ h. absurd cc) called) (counted before after (RemoveFolder old.path) (Err refused.Memory) calls count called)
        (omega (arith, count)) unknown cause.later (error_risen refused.Memory cause) is new_is (sym (ap at_barrier at)) (ap is_done at) (inr refl)
    steps_refused refused.NotEmpty count (is, new_is) called cause = steps_kept is count new_is called cause.later
    steps_refused e count passes called cause = steps_passed e (λ h. absurd cc) count passes called cause

  -- The sync was refused, or it found no memory.
  module _ (did : Did) (calls : ℕ) (at : old.stage ≡ stage.Sync) (folder : Route) (folder_is : folder ≡ folder_of old.path) (new_is : new ≡ old) where
    sync_stops : (e : TreeError) → Called before after (SyncFolder folder) (Err e) → IfKnown before (λ log. Stops old old.stage (cause_of e) (named_path e folder) log after)
    sync_stops e called log known = subst (λ s. Stops old s (cause_of e) (named_path e folder) log after) (sym at) (record {
      error = e;
      cause_is = refl;
      path_is = ap (named_path e) folder_is;
      called = subst (λ f. Performs {A = Unit {0}} log (SyncFolder f) (Err e) after) folder_is (called log known);
    })

    pub steps_unsynced : (e : TreeError) → did ≡ Troubled (trouble_at e folder true) → calls ≡ calls_made_for (Err e) → Called before after (SyncFolder folder) (Err e)
        → (before ≡ None → after ≡ None) → faults ≤ faults_after → (e ≡ refused.Fault → HasRisen faults faults_after) → RemovalStep replies old new did calls before after faults faults_after
    steps_unsynced e is count called unknown later risen =
        steps_told did calls (trouble_at e folder true) (sync_stops e called) (counted before after (SyncFolder folder) (Err e) calls count called)
        (let most = tries_few (Err e) in omega (arith, count, most)) unknown later (λ h. risen (fault_is e h)) is new_is (sym (ap at_barrier at)) (ap is_done at) (inl refl)

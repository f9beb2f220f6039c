-- A step of a move is at most one call of the tree, with its answer.
use Rattle.std.proofs.Common.{◌≡◌, ◌⊎◌, ℕ, ◌≤◌, true, false, not, ◌&&◌, refl, sym, ◌∙◌, ap, subst, inl, inr, Option, None, Result, Ok, Err, arith}
use Rattle.std.proofs.lemmas.Bool.{false≢true}
use Rattle.mc_text.specs.Routes.{Route}
use Rattle.tree_trait.specs.declared.calls.TreeError.{TreeError}
use Rattle.tree_trait.specs.declared.calls.TreeError.TheVariants as refused
use Rattle.tree_trait.specs.Calls.{Call, Rename, SyncFolder}
use Rattle.tree_trait.specs.Change.{CallLog, current}
use Rattle.tree_trait.specs.Answers.{IfKnown, HasCause, HasRisen, Performs}
use Rattle.job_reports.specs.declared.job.Pair.{Pair}
use Rattle.job_reports.specs.declared.report.Cause.TheVariants.{Tree, Memory}
use Rattle.job_reports.specs.declared.report.Trouble.{Trouble}
use Rattle.job_reports.specs.declared.report.Ending.{Ending}
use Rattle.job_reports.specs.declared.report.Did.{Did}
use Rattle.job_reports.specs.declared.report.Did.TheVariants.{Moved, Skipped, Barrier, Troubled}
use Rattle.job_reports.specs.CallRuns.{HasMore}
use Rattle.job_reports.specs.Stops.{cause_of, calls_made_for, named_path, out_of_memory_at, refusal_in, trouble_at}
use Rattle.job_reports.proofs.Runs.{no_more}
use Rattle.job_reports.proofs.Tried.{answered, counts_try, fault_tried, tries_few}
use Rattle.job_answers.specs.declared.replies.Replies.{Replies}
use Rattle.job_answers.specs.declared.skips.Skips.{Skips}
use Rattle.job_answers.specs.Skipping.{holds, is_passed_over, kind_in}
use Rattle.move_job.specs.declared.moving.MovingStage.{MovingStage}
use Rattle.move_job.specs.declared.moving.MovingStage.TheVariants as stage
use Rattle.move_job.specs.Takings.{LooksStop, MayMove}
use Rattle.move_job.specs.Movings.{Moving, Stops, after_sync, at_barrier, is_dirty, is_done, owed_folder}
use Rattle.move_job.specs.MovingSteps.{LastMovingStep, MovingStep, NotRenamed, NotTaken, PassesOver}

-- only a fault is called one
fault_is : (e : TreeError) → cause_of e ≡ Tree refused.Fault → e ≡ refused.Fault
fault_is refused.Memory h = cc
fault_is e h = cc

pub err_is : {T : Type 0} (e : TreeError) → e ≡ refused.Fault → (let r : Result T TreeError = Err e in r) ≡ Err refused.Fault
err_is e h = ap Err h

-- the renaming of a copy of the pair is that of the pair
pub renames_pair : (copy pair : Pair) → copy ≡ pair → (log : CallLog) (answer : Result (Unit {0}) TreeError) (after : Option CallLog)
    → Performs {A = Unit {0}} log (Rename copy.source copy.target) answer after → Performs {A = Unit {0}} log (Rename pair.source pair.target) answer after
renames_pair copy pair same log answer after h = subst (λ (p : Pair). Performs {A = Unit {0}} log (Rename p.source p.target) answer after) same h

-- a trouble away from a barrier is passed over by its kind
passed_kind : (skips : Skips) (trouble : Trouble) → trouble.barrier ≡ false → is_passed_over skips trouble ≡ true → holds skips (kind_in trouble.cause) ≡ true
passed_kind skips trouble apart over = subst (λ b. (not b && holds skips (kind_in trouble.cause)) ≡ true) apart over

-- a move whose folder is to be synced is at a barrier, and not done
dirty_barrier : (s : MovingStage) → is_dirty s ≡ true → true ≡ at_barrier s
dirty_barrier stage.Take h = absurd (false≢true h)
dirty_barrier stage.SyncTarget h = refl
dirty_barrier stage.SyncSource h = refl
dirty_barrier stage.Finish h = absurd (false≢true h)
dirty_barrier stage.PassedOver h = absurd (false≢true h)

dirty_going : (s : MovingStage) → is_dirty s ≡ true → is_done s ≡ false
dirty_going stage.Take h = absurd (false≢true h)
dirty_going stage.SyncTarget h = refl
dirty_going stage.SyncSource h = refl
dirty_going stage.Finish h = absurd (false≢true h)
dirty_going stage.PassedOver h = absurd (false≢true h)

module _ (before after : Option CallLog) where
  -- the call that a move makes, where its tree is known
  abbrev Called : Call → Result (Unit {0}) TreeError → Type 0
  Called call answer = IfKnown before (λ log. Performs {A = Unit {0}} log call answer after)

  counted : (call : Call) (answer : Result (Unit {0}) TreeError) (calls : ℕ) → calls ≡ calls_made_for answer → Called call answer → IfKnown before (λ log. IfKnown after (HasMore log calls))
  counted call answer calls count called log known now is = subst (λ n. HasMore log n now) (sym count) (counts_try call answer log now after (called log known) is)

  -- no call was made
  none_counted : (calls : ℕ) → calls ≡ 0 → after ≡ before → IfKnown before (λ log. IfKnown after (HasMore log calls))
  none_counted calls count same log known now is = subst (λ n. HasMore log n now) (sym count) (no_more log now (sym known ∙ (sym same ∙ is)))

  none_unknown : after ≡ before → before ≡ None → after ≡ None
  none_unknown same h = same ∙ h

module _ (old new : Moving) (before after : Option CallLog) (faults faults_after : ℕ) where
  -- the last sync of a folder was tried
  pub steps_tried : (ending : Ending) (did : Did) (calls : ℕ) (left : Option TreeError) (folder : Route) (answer : Result (Unit {0}) TreeError)
      → did ≡ Barrier → calls ≡ calls_made_for answer → left ≡ refusal_in answer → is_dirty old.stage ≡ true → folder ≡ owed_folder old
      → new ≡ record old { stage = after_sync old.pair old.stage } → Called before after (SyncFolder folder) answer → (before ≡ None → after ≡ None)
      → HasCause refused.Fault faults faults_after answer
      → LastMovingStep ending old new did calls left before after faults faults_after
  steps_tried ending did calls left folder answer is count left_is dirty folder_is new_is called unknown cause =
      subst (λ d. LastMovingStep ending old new d calls left before after faults faults_after) (sym is) record {
        tells = (dirty, new_is);
        called = λ log known. (answer, subst (λ f. Performs {A = Unit {0}} log (SyncFolder f) answer after) folder_is (called log known));
        synced = λ log known.
            subst (λ a. Performs {A = Unit {0}} log (SyncFolder (owed_folder old)) a after) (answered answer left left_is)
            (subst (λ f. Performs {A = Unit {0}} log (SyncFolder f) answer after) folder_is (called log known));
        counted = counted before after (SyncFolder folder) answer calls count called;
        few = let most = tries_few answer in omega (arith, count, most);
        unknown = unknown;
        later = cause.later;
        fault = fault_tried answer left faults faults_after left_is cause;
      }

module _ (replies : Replies) (old new : Moving) (before after : Option CallLog) (faults faults_after : ℕ) where
  -- the thing was renamed
  pub steps_renamed : (did : Did) (calls : ℕ) → did ≡ Moved old.pair → calls ≡ 1 → old.stage ≡ stage.Take → new ≡ record old { stage = stage.SyncTarget }
      → IfKnown before (λ log. MayMove (current log) old.pair replies) → Called before after (Rename old.pair.source old.pair.target) (Ok tt)
      → (before ≡ None → after ≡ None) → faults ≤ faults_after → MovingStep replies old new did calls before after faults faults_after
  steps_renamed did calls is count at new_is may called unknown later =
      subst (λ d. MovingStep replies old new d calls before after faults faults_after) (sym is) record {
        tells = (at, refl, new_is);
        called = λ log known. (may log known, called log known);
        counted = counted before after (Rename old.pair.source old.pair.target) (Ok tt) calls count called;
        few = omega (arith, count);
        unknown = unknown;
        later = later;
        fault = λ h. absurd h;
      }

  -- the folder is on the disk
  pub steps_synced : (did : Did) (calls : ℕ) (folder : Route) → did ≡ Barrier → calls ≡ 1 → is_dirty old.stage ≡ true → folder ≡ owed_folder old
      → new ≡ record old { stage = after_sync old.pair old.stage } → Called before after (SyncFolder folder) (Ok tt) → (before ≡ None → after ≡ None) → faults ≤ faults_after
      → MovingStep replies old new did calls before after faults faults_after
  steps_synced did calls folder is count dirty folder_is new_is called unknown later =
      subst (λ d. MovingStep replies old new d calls before after faults faults_after) (sym is) record {
        tells = (dirty, new_is);
        called = λ log known. subst (λ f. Performs {A = Unit {0}} log (SyncFolder f) (Ok tt) after) folder_is (called log known);
        counted = counted before after (SyncFolder folder) (Ok tt) calls count called;
        few = omega (arith, count);
        unknown = unknown;
        later = later;
        fault = λ h. absurd h;
      }

  -- A trouble, or the thing is passed over for it: the call that was refused, or none, is the one that it tells of.
  module _ (did : Did) (calls : ℕ) (t : Trouble) (stops : IfKnown before (λ log. Stops old replies old.stage t.cause t.path log after))
      (counts : IfKnown before (λ log. IfKnown after (HasMore log calls))) (few : calls ≤ 1)
      (unknown : before ≡ None → after ≡ None) (later : faults ≤ faults_after) (fault : t.cause ≡ Tree refused.Fault → HasRisen faults faults_after) where
    steps_told : did ≡ Troubled t → new ≡ old → t.barrier ≡ at_barrier old.stage → is_done old.stage ≡ false
        → ((is_passed_over replies.skips t ≡ false) ⊎ (t.cause ≡ Memory)) → MovingStep replies old new did calls before after faults faults_after
    steps_told is new_is barrier going told =
        subst (λ d. MovingStep replies old new d calls before after faults faults_after) (sym is) record {
          tells = (barrier, going, told, new_is);
          called = stops;
          counted = counts;
          few = few;
          unknown = unknown;
          later = later;
          fault = fault;
        }

    steps_skipped : did ≡ Skipped old.pair.source t.cause → new ≡ record old { stage = stage.PassedOver } → old.stage ≡ stage.Take → t.barrier ≡ false
        → is_passed_over replies.skips t ≡ true → MovingStep replies old new did calls before after faults faults_after
    steps_skipped is new_is at apart over =
        subst (λ d. MovingStep replies old new d calls before after faults faults_after) (sym is) record {
          tells = (at, refl, passed_kind replies.skips t apart over, new_is);
          called = λ log known. (t.path, stops log known);
          counted = counts;
          few = few;
          unknown = unknown;
          later = later;
          fault = fault;
        }

    -- the one or the other, before the renaming
    steps_passed : PassesOver replies old t old.pair.source did new → old.stage ≡ stage.Take → t.barrier ≡ false → MovingStep replies old new did calls before after faults faults_after
    steps_passed (inl (over, is, new_is)) at apart = steps_skipped is new_is at apart over
    steps_passed (inr (over, is, new_is)) at apart = steps_told is new_is (apart ∙ sym (ap at_barrier at)) (ap is_done at) (inl over)

  -- no call was made, and the looks before it left the tree as it was
  module _ (did : Did) (calls : ℕ) (count : calls ≡ 0) (same : after ≡ before) (later : faults ≤ faults_after) (at : old.stage ≡ stage.Take) where
    look_stops : (t : Trouble) → IfKnown before (λ log. LooksStop (current log) old.pair t.cause t.path) → IfKnown before (λ log. Stops old replies old.stage t.cause t.path log after)
    look_stops t looks log known = subst (λ s. Stops old replies s t.cause t.path log after) (sym at) (inl (looks log known, same ∙ known))

    -- without memory
    steps_unmade : did ≡ Troubled (out_of_memory_at false) → new ≡ old → MovingStep replies old new did calls before after faults faults_after
    steps_unmade is new_is =
        steps_told did calls (out_of_memory_at false) (look_stops (out_of_memory_at false) (λ log known. inr (inr (refl, refl)))) (none_counted before after calls count same) (omega (arith, count)) (none_unknown before after same) later
        (λ h. absurd cc) is new_is (sym (ap at_barrier at)) (ap is_done at) (inr refl)

    -- a look stopped it
    pub steps_stopped : (t : Trouble) → IfKnown before (λ log. LooksStop (current log) old.pair t.cause t.path) → t.barrier ≡ false
        → (t.cause ≡ Tree refused.Fault → HasRisen faults faults_after) → NotTaken replies old t did new → MovingStep replies old new did calls before after faults faults_after
    steps_stopped t looks apart fault (inl (memory, passes)) =
        steps_passed did calls t (look_stops t looks) (none_counted before after calls count same) (omega (arith, count)) (none_unknown before after same) later fault passes at apart
    steps_stopped t looks apart fault (inr (is, new_is)) = steps_unmade is new_is

  -- The renaming was refused, or it found no memory.
  module _ (did : Did) (calls : ℕ) (at : old.stage ≡ stage.Take) (may : IfKnown before (λ log. MayMove (current log) old.pair replies)) (unknown : before ≡ None → after ≡ None) where
    rename_stops : (e : TreeError) → Called before after (Rename old.pair.source old.pair.target) (Err e) → IfKnown before (λ log. Stops old replies old.stage (cause_of e) (named_path e old.pair.target) log after)
    rename_stops e called log known =
        subst (λ s. Stops old replies s (cause_of e) (named_path e old.pair.target) log after) (sym at)
        (inr (record { error = e; may = may log known; cause_is = refl; path_is = refl; called = called log known }))

    error_risen : (e : TreeError) → HasCause refused.Fault faults faults_after (let r : Result (Unit {0}) TreeError = Err e in r) → cause_of e ≡ Tree refused.Fault → HasRisen faults faults_after
    error_risen e cause h = cause.risen (ap Err (fault_is e h))

    pub steps_refused : (e : TreeError) → calls ≡ calls_made_for (Err e) → NotRenamed replies old e did new → Called before after (Rename old.pair.source old.pair.target) (Err e)
        → HasCause refused.Fault faults faults_after (let r : Result (Unit {0}) TreeError = Err e in r) → MovingStep replies old new did calls before after faults faults_after
    steps_refused refused.Memory count (is, new_is) called cause =
        steps_told did calls (out_of_memory_at false) (rename_stops refused.Memory called) (counted before after (Rename old.pair.source old.pair.target) (Err refused.Memory) calls count called)
        (omega (arith, count)) unknown cause.later (error_risen refused.Memory cause) is new_is (sym (ap at_barrier at)) (ap is_done at) (inr refl)
    steps_refused e count passes called cause =
        steps_passed did calls (trouble_at e old.pair.target false) (rename_stops e called) (counted before after (Rename old.pair.source old.pair.target) (Err e) calls count called)
        (let most = tries_few (Err e) in omega (arith, count, most)) unknown cause.later (error_risen e cause) passes at refl

  -- A sync was refused, or it found no memory.
  module _ (did : Did) (calls : ℕ) (dirty : is_dirty old.stage ≡ true) (folder : Route) (folder_is : folder ≡ owed_folder old) (new_is : new ≡ old) where
    sync_stops : (s : MovingStage) (e : TreeError) (log : CallLog) → is_dirty s ≡ true → Performs {A = Unit {0}} log (SyncFolder folder) (Err e) after
        → Stops old replies s (cause_of e) (named_path e folder) log after
    sync_stops stage.Take e log h called = absurd (false≢true h)
    sync_stops stage.Finish e log h called = absurd (false≢true h)
    sync_stops stage.PassedOver e log h called = absurd (false≢true h)
    sync_stops s e log h called = record {
      error = e;
      cause_is = refl;
      path_is = ap (named_path e) folder_is;
      called = subst (λ f. Performs {A = Unit {0}} log (SyncFolder f) (Err e) after) folder_is called;
    }

    pub steps_unsynced : (e : TreeError) → did ≡ Troubled (trouble_at e folder true) → calls ≡ calls_made_for (Err e) → Called before after (SyncFolder folder) (Err e)
        → (before ≡ None → after ≡ None) → faults ≤ faults_after → (e ≡ refused.Fault → HasRisen faults faults_after) → MovingStep replies old new did calls before after faults faults_after
    steps_unsynced e is count called unknown later risen =
        steps_told did calls (trouble_at e folder true) (λ log known. sync_stops old.stage e log dirty (called log known)) (counted before after (SyncFolder folder) (Err e) calls count called)
        (let most = tries_few (Err e) in omega (arith, count, most)) unknown later (λ h. risen (fault_is e h)) is new_is (dirty_barrier old.stage dirty) (dirty_going old.stage dirty) (inl refl)

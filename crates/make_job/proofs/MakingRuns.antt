-- A step of a making is one call of the tree, with its answer.
use Rattle.std.proofs.Common.{◌≡◌, ℕ, ◌≤◌, true, false, [], ◌∷◌, length, refl, sym, ◌∙◌, ap, subst, Option, Some, None, Result, Ok, Err, arith}
use Rattle.mc_text.specs.Routes.{Route, parent_of}
use Rattle.tree_trait.specs.declared.calls.TreeError.{TreeError}
use Rattle.tree_trait.specs.declared.calls.TreeError.TheVariants as refused
use Rattle.tree_trait.specs.Calls.{Call, SyncFolder}
use Rattle.tree_trait.specs.Change.{CallLog}
use Rattle.tree_trait.specs.Answers.{IfKnown, HasCause, HasRisen, Performs}
use Rattle.job_reports.specs.declared.report.Cause.TheVariants.{Tree}
use Rattle.job_reports.specs.declared.report.Trouble.{Trouble}
use Rattle.job_reports.specs.declared.report.Ending.{Ending}
use Rattle.job_reports.specs.declared.report.Did.{Did}
use Rattle.job_reports.specs.declared.report.Did.TheVariants.{Made, Barrier, Troubled}
use Rattle.job_reports.specs.CallRuns.{HasMore}
use Rattle.job_reports.specs.Stops.{refusal_in, calls_made_for, cause_of, trouble_at}
use Rattle.job_reports.proofs.Runs.{no_more}
use Rattle.job_reports.proofs.Tried.{answered, counts_try, fault_tried, tries_few}
use Rattle.make_job.specs.declared.making.MakingStage.TheVariants.{Make, Sync, Finish}
use Rattle.make_job.specs.Makings.{Answers, IsTroubleAt, Making, call_of, sync_of}
use Rattle.make_job.specs.MakingSteps.{LastMakingStep, MakingStep}
use Rattle.make_job.specs.NewThings.{making_call}

-- only a fault is called one
pub fault-cause : (e : TreeError) → cause_of e ≡ Tree refused.Fault → e ≡ refused.Fault
fault-cause refused.Memory h = cc
fault-cause e h = cc

pub err_is : {T : Type 0} (e : TreeError) → e ≡ refused.Fault → (let r : Result T TreeError = Err e in r) ≡ Err refused.Fault
err_is e h = ap Err h

-- where no call was made the log is the same
pub same_log : (log now : CallLog) (contents : Option CallLog) → contents ≡ Some log → contents ≡ Some now → HasMore log 0 now
same_log log now contents known is =
    let same : log ≡ now = cc in
    let lengths = ap (λ (l : CallLog). length l.changes) (sym same) in
    omega (arith, lengths)

-- the sync's trouble names the folder of the path
sync_trouble : (path folder : Route) → parent_of path ≡ Some folder → (e : TreeError) → IsTroubleAt Sync path (trouble_at e folder true)
sync_trouble [] folder h e = absurd cc
sync_trouble (name ∷ up) folder h e = (e, ap (λ q. trouble_at e q true) (let same : up ≡ folder = cc in sym same))

pub sync_at : (m : Making) (folder : Route) (e : TreeError) → parent_of m.path ≡ Some folder → m.stage ≡ Sync → IsTroubleAt m.stage m.path (trouble_at e folder true)
sync_at m folder e within stage = subst (λ s. IsTroubleAt s m.path (trouble_at e folder true)) (sym stage) (sync_trouble m.path folder within e)

-- the making's trouble names the path
pub make_at : (m : Making) (e : TreeError) → m.stage ≡ Make → IsTroubleAt m.stage m.path (trouble_at e m.path false)
make_at m e stage = subst (λ s. IsTroubleAt s m.path (trouble_at e m.path false)) (sym stage) (e, refl)

-- the folder that holds the path is the one that is synced
pub sync_call : (path folder : Route) → parent_of path ≡ Some folder → sync_of path ≡ Some (SyncFolder folder)
sync_call [] folder h = absurd cc
sync_call (name ∷ up) folder h = let same : up ≡ folder = cc in ap (λ q. Some (SyncFolder q)) same

module _ (old new : Making) (before after : Option CallLog) (faults faults_after : ℕ) where
  -- the call that a making makes, where its tree is known
  abbrev Called : Call → Result (Unit {0}) TreeError → Type 0
  Called call answer = IfKnown before (λ log. Performs {A = Unit {0}} log call answer after)

  counted : (call : Call) (answer : Result (Unit {0}) TreeError) (calls : ℕ) → calls ≡ calls_made_for answer → Called call answer → IfKnown before (λ log. IfKnown after (HasMore log calls))
  counted call answer calls count called log known now is = subst (λ n. HasMore log n now) (sym count) (counts_try call answer log now after (called log known) is)

  -- no call was made
  none_counted : (calls : ℕ) → calls ≡ 0 → after ≡ before → IfKnown before (λ log. IfKnown after (HasMore log calls))
  none_counted calls count same log known now is = subst (λ n. HasMore log n now) (sym count) (no_more log now (sym known ∙ (sym same ∙ is)))

  -- the thing stands
  pub steps_made : (did : Did) (calls : ℕ) → did ≡ Made old.path → calls ≡ 1 → old.stage ≡ Make → new ≡ record old { stage = Sync }
      → Called (making_call old.thing old.path) (Ok tt) → (before ≡ None → after ≡ None) → faults ≤ faults_after
      → MakingStep old new did calls before after faults faults_after
  steps_made did calls is count stage new_is called unknown later =
      subst (λ d. MakingStep old new d calls before after faults faults_after) (sym is) record {
        tells = (stage, refl, new_is);
        called = called;
        counted = counted (making_call old.thing old.path) (Ok tt) calls count called;
        few = omega (arith, count);
        unknown = unknown;
        later = later;
        fault = λ h. absurd h;
      }

  -- the folder is on the disk
  pub steps_synced : (did : Did) (calls : ℕ) (folder : Route) → did ≡ Barrier → calls ≡ 1 → old.stage ≡ Sync → parent_of old.path ≡ Some folder
      → new ≡ record old { stage = Finish } → Called (SyncFolder folder) (Ok tt) → (before ≡ None → after ≡ None) → faults ≤ faults_after
      → MakingStep old new did calls before after faults faults_after
  steps_synced did calls folder is count stage within new_is called unknown later =
      subst (λ d. MakingStep old new d calls before after faults faults_after) (sym is) record {
        tells = (stage, new_is);
        called = λ log known. subst (λ call. Answers log call (Ok tt) after) (sym (sync_call old.path folder within)) (called log known);
        counted = counted (SyncFolder folder) (Ok tt) calls count called;
        few = omega (arith, count);
        unknown = unknown;
        later = later;
        fault = λ h. absurd h;
      }

  -- the last sync was tried
  pub steps_tried : (ending : Ending) (did : Did) (calls : ℕ) (left : Option TreeError) (folder : Route) (answer : Result (Unit {0}) TreeError) → did ≡ Barrier → calls ≡ calls_made_for answer
      → left ≡ refusal_in answer → old.stage ≡ Sync → parent_of old.path ≡ Some folder → new ≡ record old { stage = Finish } → Called (SyncFolder folder) answer → (before ≡ None → after ≡ None)
      → HasCause refused.Fault faults faults_after answer
      → LastMakingStep ending old new did calls left before after faults faults_after
  steps_tried ending did calls left folder answer is count left_is stage within new_is called unknown cause =
      subst (λ d. LastMakingStep ending old new d calls left before after faults faults_after) (sym is) record {
        tells = (stage, new_is);
        called = λ log known. (answer, subst (λ call. Answers log call answer after) (sym (sync_call old.path folder within)) (called log known));
        synced = λ log known.
            subst (λ a. Answers log (sync_of old.path) a after) (answered answer left left_is)
            (subst (λ call. Answers log call answer after) (sym (sync_call old.path folder within)) (called log known));
        counted = counted (SyncFolder folder) answer calls count called;
        few = let most = tries_few answer in omega (arith, count, most);
        unknown = unknown;
        later = cause.later;
        fault = fault_tried answer left faults faults_after left_is cause;
      }

  module _ (did : Did) (calls : ℕ) (t : Trouble) (is : did ≡ Troubled t) (at : IsTroubleAt old.stage old.path t) (new_is : new ≡ old)
      (unknown : before ≡ None → after ≡ None) (later : faults ≤ faults_after) (fault : t.cause ≡ Tree refused.Fault → HasRisen faults faults_after) where
    -- the call was refused
    pub steps_refused : (call : Call) (e : TreeError) → calls ≡ calls_made_for (Err e) → call_of old.thing old.stage old.path ≡ Some call → t.cause ≡ cause_of e → Called call (Err e)
        → MakingStep old new did calls before after faults faults_after
    steps_refused call e count next cause called =
        subst (λ d. MakingStep old new d calls before after faults faults_after) (sym is) record {
          tells = (at, new_is);
          called = λ log known. (e, cause, subst (λ o. Answers log o (Err e) after) (sym next) (called log known));
          counted = counted call (Err e) calls count called;
          few = let most = tries_few (Err e) in omega (arith, count, most);
          unknown = unknown;
          later = later;
          fault = fault;
        }

    -- there was no memory, and no call was made
    pub steps_unmade : calls ≡ 0 → t.cause ≡ cause_of refused.Memory → after ≡ before → MakingStep old new did calls before after faults faults_after
    steps_unmade count cause same =
        subst (λ d. MakingStep old new d calls before after faults faults_after) (sym is) record {
          tells = (at, new_is);
          called = λ log known. (refused.Memory, cause, unmade (call_of old.thing old.stage old.path) log (same ∙ known));
          counted = none_counted calls count same;
          few = omega (arith, count);
          unknown = unknown;
          later = later;
          fault = fault;
        }
      where
        unmade : (call : Option Call) (log : CallLog) → after ≡ Some log → Answers log call (Err refused.Memory) after
        unmade None log h = h
        unmade (Some call) log h = h

-- What works on an item is one call of the tree, with its answer, or none.
use Rattle.std.proofs.Common.{◌≡◌, ℕ, ◌≤◌, true, false, List, refl, sym, ◌∙◌, ap, subst, inl, inr, Option, None, Result, Ok, Err, arith}
use Rattle.mc_text.specs.Routes.{Route}
use Rattle.tree_trait.specs.declared.calls.TreeError.{TreeError}
use Rattle.tree_trait.specs.declared.calls.TreeError.TheVariants as refused
use Rattle.tree_trait.specs.Calls.{Call}
use Rattle.tree_trait.specs.Change.{CallLog, current}
use Rattle.tree_trait.specs.Answers.{IfKnown, HasRisen, Performs}
use Rattle.job_reports.specs.declared.report.Cause.TheVariants.{Tree}
use Rattle.job_reports.specs.declared.report.Trouble.{Trouble}
use Rattle.job_reports.specs.declared.report.Did.{Did}
use Rattle.job_reports.specs.declared.report.Did.TheVariants.{Removed, Kept, Troubled}
use Rattle.job_reports.specs.CallRuns.{HasMore}
use Rattle.job_reports.specs.Stops.{calls_made_for, cause_of, trouble_at}
use Rattle.job_reports.proofs.Runs.{no_more}
use Rattle.job_reports.proofs.Tried.{counts_try, tries_few}
use Rattle.delete_job.specs.declared.deletion.Deletion.{Deletion}
use Rattle.delete_job.specs.declared.deletion.Stage.TheVariants.{Going}
use Rattle.delete_job.specs.Standing.{Decides, item}
use Rattle.delete_job.specs.Descending.{IsAt, StopsAt}
use Rattle.delete_job.specs.TreeDeletionSteps.{IsBare, IsSeen, IsSpared, RemovalLeaves, Working, path_of, removal_of}

-- only a fault is called one
pub fault-cause : (e : TreeError) → cause_of e ≡ Tree refused.Fault → e ≡ refused.Fault
fault-cause refused.Memory h = cc
fault-cause e h = cc

pub err_is : {T : Type 0} (e : TreeError) → e ≡ refused.Fault → (let r : Result T TreeError = Err e in r) ≡ Err refused.Fault
err_is e h = ap Err h

module _ (old new : Deletion) (folders folders_after : List Route) (before after : Option CallLog) (faults faults_after : ℕ) where
  abbrev Called : Call → Result (Unit {0}) TreeError → Type 0
  Called call answer = IfKnown before (λ log. Performs {A = Unit {0}} log call answer after)

  abbrev Seen : Type 0
  Seen = IfKnown before (λ log. IsSeen (current log) old.depth old.walk.place (item old))

  counted : (call : Call) (answer : Result (Unit {0}) TreeError) (calls : ℕ) → calls ≡ calls_made_for answer → Called call answer → IfKnown before (λ log. IfKnown after (HasMore log calls))
  counted call answer calls count called log known now is = subst (λ n. HasMore log n now) (sym count) (counts_try call answer log now after (called log known) is)

  none_counted : (calls : ℕ) → calls ≡ 0 → after ≡ before → IfKnown before (λ log. IfKnown after (HasMore log calls))
  none_counted calls count same log known now is = subst (λ n. HasMore log n now) (sym count) (no_more log now (sym known ∙ (sym same ∙ is)))

  -- it is gone
  pub works_removed : (did : Did) (calls : ℕ) (path : Route) → did ≡ Removed path → calls ≡ 1 → path ≡ path_of (item old) → IsBare (item old) old.walk.place.inner.spared → Decides old false path Going new
      → Seen → Called (removal_of (item old)) (Ok tt) → RemovalLeaves (item old) path folders folders_after → (before ≡ None → after ≡ None) → faults ≤ faults_after
      → Working old new did calls folders folders_after before after faults faults_after
  works_removed did calls path is count path_is bare decides seen called leaves unknown later =
      subst (λ d. Working old new d calls folders folders_after before after faults faults_after) (sym is) record {
        works = (path_is, bare, decides);
        called = λ log known. (seen log known, called log known);
        leaves = leaves;
        counted = counted (removal_of (item old)) (Ok tt) calls count called;
        few = omega (arith, count);
        unknown = unknown;
        later = later;
        fault = λ h. absurd h;
      }

  -- a folder stays
  pub works_kept : (did : Did) (calls : ℕ) (path : Route) → did ≡ Kept path → calls ≡ 0 → path ≡ path_of (item old) → IsSpared (item old) old.walk.place.inner.spared → Decides old true path old.stage new
      → after ≡ before → folders_after ≡ folders → faults ≤ faults_after
      → Working old new did calls folders folders_after before after faults faults_after
  works_kept did calls path is count path_is spared decides same leaves later =
      subst (λ d. Working old new d calls folders folders_after before after faults faults_after) (sym is) record {
        works = (path_is, spared, decides);
        called = λ log known. same ∙ known;
        leaves = leaves;
        counted = none_counted calls count same;
        few = omega (arith, count);
        unknown = λ h. same ∙ h;
        later = later;
        fault = λ h. absurd h;
      }

  -- its removal was refused
  pub works_refused : (did : Did) (calls : ℕ) (e : TreeError) (path : Route) → did ≡ Troubled (trouble_at e path false) → calls ≡ calls_made_for (Err e) → path ≡ path_of (item old) → IsAt old new
      → Seen → Called (removal_of (item old)) (Err e) → folders_after ≡ folders → (before ≡ None → after ≡ None) → faults ≤ faults_after → (e ≡ refused.Fault → HasRisen faults faults_after)
      → Working old new did calls folders folders_after before after faults faults_after
  works_refused did calls e path is count path_is stays seen called leaves unknown later fault =
      subst (λ d. Working old new d calls folders folders_after before after faults faults_after) (sym is) record {
        works = (refl, stays);
        called = λ log known. inr (e, ap (λ p. trouble_at e p false) path_is, seen log known, called log known);
        leaves = leaves;
        counted = counted (removal_of (item old)) (Err e) calls count called;
        few = let most = tries_few (Err e) in omega (arith, count, most);
        unknown = unknown;
        later = later;
        fault = λ h. fault (fault-cause e h);
      }

  -- it can't be gone on with, and no call was made
  pub works_stopped : (did : Did) (calls : ℕ) (t : Trouble) → did ≡ Troubled t → calls ≡ 0 → t.barrier ≡ false → IsAt old new → IfKnown before (λ log. StopsAt (current log) old t.cause t.path)
      → after ≡ before → folders_after ≡ folders → faults ≤ faults_after → (t.cause ≡ Tree refused.Fault → HasRisen faults faults_after)
      → Working old new did calls folders folders_after before after faults faults_after
  works_stopped did calls t is count apart stays stops same leaves later fault =
      subst (λ d. Working old new d calls folders folders_after before after faults faults_after) (sym is) record {
        works = (apart, stays);
        called = λ log known. inl (same ∙ known, stops log known);
        leaves = leaves;
        counted = none_counted calls count same;
        few = omega (arith, count);
        unknown = λ h. same ∙ h;
        later = later;
        fault = fault;
      }

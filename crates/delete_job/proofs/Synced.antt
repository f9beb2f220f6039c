-- A sync is one call of the tree, with its answer.
use Rattle.std.proofs.Common.{◌≡◌, ℕ, ◌≤◌, true, List, refl, sym, subst, Option, None, Result, Ok, Err, arith, ◌+◌, ◌∙◌, ap, Some}
use Rattle.std.specs.Prelude.{slice_get}
use Rattle.mc_text.specs.Routes.{Route}
use Rattle.tree_trait.specs.declared.calls.TreeError.{TreeError}
use Rattle.tree_trait.specs.declared.calls.TreeError.TheVariants as refused
use Rattle.tree_trait.specs.Calls.{SyncFolder}
use Rattle.tree_trait.specs.Change.{CallLog}
use Rattle.tree_trait.specs.Answers.{IfKnown, HasRisen, Performs}
use Rattle.job_reports.specs.declared.report.Did.{Did}
use Rattle.job_reports.specs.declared.report.Ending.{Ending}
use Rattle.job_reports.specs.declared.report.Did.TheVariants.{Barrier, Troubled}
use Rattle.job_reports.specs.CallRuns.{HasMore}
use Rattle.job_reports.specs.Paths.{without}
use Rattle.job_reports.specs.Stops.{calls_made_for, trouble_at}
use Rattle.job_reports.proofs.Tried.{counts_try, tries_few}
use Rattle.delete_job.specs.declared.deletion.Deletion.{Deletion}
use Rattle.job_unsynced.specs.Folders.{IsOwn, IsOwnAt}
use Rattle.delete_job.specs.TreeDeletionSteps.{LastSteps, SyncSteps}
use Rattle.delete_job.proofs.Worked.{fault-cause}

module _ (d : Deletion) (folders folders_after : List Route) (before after : Option CallLog) (faults faults_after : ℕ) where
  abbrev Synced : Route → Result (Unit {0}) TreeError → Type 0
  Synced folder answer = IfKnown before (λ log. Performs {A = Unit {0}} log (SyncFolder folder) answer after)

  counted : (folder : Route) (answer : Result (Unit {0}) TreeError) (calls : ℕ) → calls ≡ calls_made_for answer → Synced folder answer → IfKnown before (λ log. IfKnown after (HasMore log calls))
  counted folder answer calls count called log known now is = subst (λ n. HasMore log n now) (sym count) (counts_try (SyncFolder folder) answer log now after (called log known) is)

  pub syncs_done : (did : Did) (calls : ℕ) (folder : Route) → did ≡ Barrier → calls ≡ 1 → IsOwn d.folder d.path folders folder → folders_after ≡ without folder folders → Synced folder (Ok tt)
      → (before ≡ None → after ≡ None) → faults ≤ faults_after → SyncSteps d did calls folders folders_after before after faults faults_after
  syncs_done did calls folder is count own left called unknown later =
      subst (λ x. SyncSteps d x calls folders folders_after before after faults faults_after) (sym is) record {
        syncs = (folder, own, left, called);
        counted = counted folder (Ok tt) calls count called;
        few = omega (arith, count);
        unknown = unknown;
        later = later;
        fault = λ h. absurd h;
      }

  pub syncs_refused : (did : Did) (calls : ℕ) (e : TreeError) (folder : Route) → IsOwn d.folder d.path folders folder → did ≡ Troubled (trouble_at e folder true) → calls ≡ calls_made_for (Err e) → folders_after ≡ folders → Synced folder (Err e)
      → (before ≡ None → after ≡ None) → faults ≤ faults_after → (e ≡ refused.Fault → HasRisen faults faults_after) → SyncSteps d did calls folders folders_after before after faults faults_after
  syncs_refused did calls e folder own is count left called unknown later fault =
      subst (λ x. SyncSteps d x calls folders folders_after before after faults faults_after) (sym is) record {
        syncs = (e, folder, own, refl, left, called);
        counted = counted folder (Err e) calls count called;
        few = let most = tries_few (Err e) in omega (arith, count, most);
        unknown = unknown;
        later = later;
        fault = λ h. fault (fault-cause e h);
      }

module _ (d : Deletion) (ending : Ending) (from next at : ℕ) (folder : Route) (folders folders_after : List Route) (before after : Option CallLog) (faults faults_after : ℕ)
    (own : IsOwnAt d.folder d.path folders from at) (stands : slice_get folders at ≡ Some folder) where
  abbrev Last : Did → ℕ → Option TreeError → Type 0
  Last did calls left = LastSteps ending d from next did calls left folders folders_after before after faults faults_after

  -- a try that was done
  pub tries_done : (did : Did) (calls : ℕ) (left : Option TreeError) → did ≡ Barrier → calls ≡ 1 → left ≡ None → folders_after ≡ without folder folders → next ≡ at → Synced d folders folders_after before after faults faults_after folder (Ok tt)
      → (before ≡ None → after ≡ None) → faults ≤ faults_after → Last did calls left
  tries_done did calls left is count none gone next_is called unknown later =
      subst (λ x. Last x calls left) (sym is) (subst (λ x. Last Barrier calls x) (sym none) record {
        tries = (at, folder, own, stands, gone, next_is, called);
        counted = counted d folders folders_after before after faults faults_after folder (Ok tt) calls count called;
        few = omega (arith, count);
        unknown = unknown;
        later = later;
        fault = λ h. absurd cc;
      })

  -- a try in vain
  pub tries_vainly : (did : Did) (calls : ℕ) (left : Option TreeError) (e : TreeError) → did ≡ Barrier → calls ≡ calls_made_for (Err e) → left ≡ Some e → folders_after ≡ folders → next ≡ at + 1
      → Synced d folders folders_after before after faults faults_after folder (Err e) → (before ≡ None → after ≡ None) → faults ≤ faults_after → (e ≡ refused.Fault → HasRisen faults faults_after) → Last did calls left
  tries_vainly did calls left e is count some same next_is called unknown later fault =
      subst (λ x. Last x calls left) (sym is) (subst (λ x. Last Barrier calls x) (sym some) record {
        tries = (at, folder, own, stands, same, next_is, called);
        counted = counted d folders folders_after before after faults faults_after folder (Err e) calls count called;
        few = let most = tries_few (Err e) in omega (arith, count, most);
        unknown = unknown;
        later = later;
        fault = λ h. fault (let f : e ≡ refused.Fault = cc in f);
      })

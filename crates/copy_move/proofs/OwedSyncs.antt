-- The sync of what an ended job left dirty.
use Rattle.std.proofs.Common.{◌≡◌, ℕ, ◌≤◌, true, List, [], ◌∷◌, refl, sym, ◌∙◌, subst, inl, inr, Option, Some, Ok, Err, arith}
use Rattle.mc_text.specs.Routes.{Route}
use Rattle.tree_trait.specs.Calls.{Call}
use Rattle.tree_trait.specs.Change.{CallLog, current}
use Rattle.tree_trait.specs.Answers.{Performs}
use Rattle.tree_trait.specs.CrashImages.{Among}
use Rattle.job_reports.specs.declared.report.Cause.TheVariants.{Memory}
use Rattle.job_reports.specs.declared.report.Did.{Did}
use Rattle.job_reports.specs.declared.report.Did.TheVariants.{Barrier, Troubled}
use Rattle.job_reports.specs.declared.stop.Stop.{Stop}
use Rattle.job_reports.specs.CallRuns.{AllDone, HasMore}
use Rattle.job_reports.specs.Paths.{without}
use Rattle.job_reports.specs.Stops.{out_of_memory_at}
use Rattle.job_reports.proofs.Runs.{no_more}
use Rattle.mode_job.specs.SettingSteps.{SyncRan, sync_of}
use Rattle.copy_move.specs.declared.run.Course.TheVariants.{GoesOn, OwedSyncFailed}
use Rattle.copy_move.specs.Jobs.{IsGoing, Running, is_fresh}
use Rattle.copy_move.specs.JobStepReports.{OwedSyncStep, SyncsOwed, step_made}
use Rattle.copy_job.proofs.StillTelling.{performs_tells}
use Rattle.copy_move.proofs.Falling.{trouble_falls}
use Rattle.copy_move.proofs.StillTelling.{StillTells, sync_stop_tells}

one_done : (log : CallLog) (call : Call) (after : Option CallLog) → AllDone log (call ∷ []) after → Performs {A = Unit {0}} log call (Ok tt) after
one_done log call after (mid, performs, is) = subst (λ a. Performs {A = Unit {0}} log call (Ok tt) a) (sym is) performs

module _ (path : Route) (dirty dirty_after : List Route) (job : Running) (goes : job.course ≡ GoesOn) (fresh : is_fresh job.work ≡ true) (owed : Among dirty path) (going : IsGoing job.work) (before after : Option CallLog) (f0 f1 : ℕ) where
  abbrev Syncs : Running → Did → ℕ → Type 0
  Syncs new did calls = OwedSyncStep (step_made job new did calls dirty dirty_after before after f0 f1)

  -- it was synced
  pub owed_synced : (calls : ℕ) → SyncRan path (Ok calls) before after f0 f1 → dirty_after ≡ without path dirty → Syncs job Barrier calls
  owed_synced calls ran after_is = record {
    goes = goes;
    fresh = fresh;
    path = path;
    owed = owed;
    waits = trouble_falls job.work going;
    synced = inl (record { did_is = refl; new_is = refl; dirty_is = after_is; called = λ log known. one_done log (sync_of (current log) path) after (ran.known log known) });
    counted = ran.counted;
    few = ran.few;
    unknown = ran.unknown;
    later = ran.later;
    fault = λ h. absurd h;
  }

  -- the look at it, or its sync, was refused
  pub owed_refused : (stop : Stop) (new : Running) → SyncRan path (Err stop) before after f0 f1 → new ≡ record job { course = OwedSyncFailed stop.trouble.cause } → dirty_after ≡ dirty → Syncs new (Troubled stop.trouble) stop.calls
  owed_refused stop new ran new_is after_is = record {
    goes = goes;
    fresh = fresh;
    path = path;
    owed = owed;
    waits = trouble_falls job.work going;
    synced = inr (record { trouble = stop.trouble; did_is = refl; barred = ran.barrier; new_is = new_is; dirty_is = after_is; called = ran.known });
    counted = ran.counted;
    few = ran.few;
    unknown = ran.unknown;
    later = ran.later;
    fault = ran.fault;
  }

  -- there was no memory for its path, and no call was made
  pub owed_unmade : (did : Did) (calls : ℕ) (new : Running) → did ≡ Troubled (out_of_memory_at true) → calls ≡ 0 → new ≡ record job { course = OwedSyncFailed Memory } → dirty_after ≡ dirty → after ≡ before → f0 ≤ f1
      → Syncs new did calls
  owed_unmade did calls new is count new_is after_is same later = subst (λ d. Syncs new d calls) (sym is) record {
    goes = goes;
    fresh = fresh;
    path = path;
    owed = owed;
    waits = trouble_falls job.work going;
    synced = inr (record { trouble = out_of_memory_at true; did_is = refl; barred = refl; new_is = new_is; dirty_is = after_is; called = λ log known. inr (refl, (0, omega arith, same ∙ known)) });
    counted = λ log known now has. subst (λ n. HasMore log n now) (sym count) (no_more log now (sym known ∙ (sym same ∙ has)));
    few = omega (arith, count);
    unknown = λ none. same ∙ none;
    later = later;
    fault = λ h. absurd cc;
  }

-- a tree that tells what it holds goes on telling
pub owed_tells : (job new : Running) (path : Route) (did : Did) (dirty dirty_after : List Route) (before after : Option CallLog) (log : CallLog) → before ≡ Some log → SyncsOwed job path did new dirty dirty_after before after → StillTells after
owed_tells job new path did dirty dirty_after before after log known (inl h) = performs_tells log (sync_of (current log) path) (Ok tt) after (h.called log known)
owed_tells job new path did dirty dirty_after before after log known (inr h) = sync_stop_tells path h.trouble.cause h.trouble.path log after (h.called log known)

-- A small session in which a folder is deleted: a file in it is removed, the other can't be and is skipped, so the folder is kept and
-- synced, and the job is finished. Then no crash brings the first file back, and the other stays.
use Rattle.std.proofs.Common.{◌≡◌, pos, true, false, List, [], ◌∷◌, refl, sym, inl, inr, true≢false, Some, None, Ok}
use Rattle.std.proofs.lemmas.Bool.{false≢true}
use Rattle.mc_text.specs.Routes.{Route}
use Rattle.tree_trait.specs.declared.calls.TreeError.TheVariants as refused
use Rattle.tree_trait.specs.declared.file_system.FileSystem.{FileSystem}
use Rattle.tree_trait.specs.Answers.{Performs}
use Rattle.tree_trait.specs.Calls.{RemoveFile, SyncFolder}
use Rattle.tree_trait.specs.CrashImages.{IsCrashImage}
use Rattle.tree_trait.specs.FileSystem.{value, value_at}
use Rattle.job_reports.specs.Jobs as jobs
use Rattle.job_reports.specs.Stops.{cause_of}
use Rattle.job_reports.specs.declared.answer.Answer.TheVariants.{Skip}
use Rattle.job_reports.specs.declared.job.Job.TheVariants as plan
use Rattle.job_reports.specs.declared.report.Did.TheVariants.{Removed, Kept, Skipped, Barrier, Troubled, Ended}
use Rattle.job_reports.specs.declared.report.Ending.TheVariants.{Finished}
use Rattle.session_entries.specs.Named.{IsUnnamedSince}
use Rattle.session_entries.specs.declared.history.Entry.{Entry}
use Rattle.session_entries.specs.declared.history.Event.TheVariants.{Began, Order, Step, Closed}
use Rattle.session_entries.specs.declared.history.JobOrder.TheVariants.{Answered}
use Rattle.delete_job.specs.Deletions.{RefusedFile}
use Rattle.copy_move.specs.declared.run.Course.TheVariants.{GoesOn}
use Rattle.copy_move.specs.declared.work.Work.TheVariants.{Delete}
use Rattle.laws_sessions.specs.Staying.{HasFinished}
use Rattle.laws_sessions.specs.Touched.{touches}
use Rattle.laws_sessions.specs.Traces.{IsTraced, nothing_live}
use Rattle.laws_sessions.proofs.Done.{done_law}
use Rattle.laws_sessions.proofs.ExampleParts.{entry, file, known_is, own_step, stand}
use Rattle.laws_sessions.proofs.FolderExampleSteps.{begins, decided, finishes, first, half_way, job, keeps_top, left_one, log, passes, passes_second, refused_log, refuses_second, removed_log, removes_first, second, small_tree, synced_log, syncs_top, top, trouble, waits}

-- the history
abbrev begun_entries : List Entry
begun_entries = entry 0 (Began 1 (plan.Delete (top ∷ [])) false) ∷ []

abbrev removed_entries : List Entry
removed_entries = entry 1 (Step 1 (Removed first)) ∷ begun_entries

abbrev troubled_entries : List Entry
troubled_entries = entry 2 (Step 1 (Troubled trouble)) ∷ removed_entries

abbrev answered_entries : List Entry
answered_entries = entry 2 (Order 1 (Answered Skip)) ∷ troubled_entries

abbrev skipped_entries : List Entry
skipped_entries = entry 2 (Step 1 (Skipped second (cause_of refused.Fault))) ∷ answered_entries

abbrev kept_entries : List Entry
kept_entries = entry 2 (Step 1 (Kept top)) ∷ skipped_entries

abbrev synced_entries : List Entry
synced_entries = entry 3 (Step 1 Barrier) ∷ kept_entries

abbrev end : Entry
end = entry 3 (Step 1 (Ended Finished None))

abbrev finished_entries : List Entry
finished_entries = end ∷ synced_entries

-- and so the history tells it
begun_traced : IsTraced (log []) begun_entries (stand (job begins GoesOn ∷ []) []) (log [])
begun_traced = (nothing_live, log [], (refl, refl), record { after = stand (job begins GoesOn ∷ []) []; leads = record { none_live = refl; after_is = refl; now_is = refl }; stand_is = refl; counts = refl })

removed_traced : IsTraced (log []) removed_entries (stand (job half_way GoesOn ∷ []) (top ∷ [])) removed_log
removed_traced =
    own_step (log []) 1 1 (Removed first) begun_entries (stand (job begins GoesOn ∷ []) []) (stand (job half_way GoesOn ∷ []) (top ∷ [])) (log []) removed_log (job begins GoesOn) (job half_way GoesOn) begun_traced (inl (refl, refl))
    (record {
      tells = (Delete half_way, (refl, refl, record { path_is = refl; stage_is = refl; tried_is = refl }), refl);
      called = inl (refl, (pos 0, refl));
      settled = λ goes fresh kept among. absurd among;
      cleared = λ goes fresh kept among. absurd among;
      leaves = inl (refl, known_is (log []) (λ l. Performs {A = Unit {0}} l (RemoveFile first) (Ok tt) (Some removed_log)) (refl, (pos 0, refl)));
      walks = (1, 0, 0, removes_first);
    }) refl refl refl

troubled_traced : IsTraced (log []) troubled_entries (stand (waits ∷ []) (top ∷ [])) refused_log
troubled_traced =
    own_step (log []) 1 2 (Troubled trouble) removed_entries (stand (job half_way GoesOn ∷ []) (top ∷ [])) (stand (waits ∷ []) (top ∷ [])) removed_log refused_log (job half_way GoesOn) waits removed_traced (inl (refl, refl))
    (record {
      tells = (Delete half_way, (refl, record { path_is = refl; stage_is = refl; tried_is = refl }), refl);
      called = inr (refused.Fault, inl refl, RefusedFile second (refl, ([], refl)));
      settled = λ goes fresh. absurd (true≢false (sym fresh));
      cleared = λ goes fresh. absurd (true≢false (sym fresh));
      leaves = refl;
      walks = (1, 0, 1, refuses_second);
    }) refl refl refl

answered_traced : IsTraced (log []) answered_entries (stand (passes ∷ []) (top ∷ [])) refused_log
answered_traced = (
  stand (waits ∷ []) (top ∷ []),
  refused_log,
  troubled_traced,
  record { after = stand (passes ∷ []) (top ∷ []); leads = record { after_is = refl; now_is = refl }; stand_is = refl; counts = refl },
)

skipped_traced : IsTraced (log []) skipped_entries (stand (job left_one GoesOn ∷ []) (top ∷ [])) refused_log
skipped_traced =
    own_step (log []) 1 2 (Skipped second (cause_of refused.Fault)) answered_entries (stand (passes ∷ []) (top ∷ [])) (stand (job left_one GoesOn ∷ []) (top ∷ [])) refused_log refused_log passes (job left_one GoesOn) answered_traced (inl (refl, refl))
    (record {
      tells = inl (second, Delete left_one, refl, record { path_is = refl; stage_is = refl; tried_is = refl }, refl);
      called = refl;
      settled = λ goes fresh. absurd (true≢false (sym fresh));
      cleared = λ goes fresh. absurd (true≢false (sym fresh));
      leaves = refl;
      walks = (0, 1, 1, passes_second);
    }) refl refl refl

kept_traced : IsTraced (log []) kept_entries (stand (job decided GoesOn ∷ []) (top ∷ [])) refused_log
kept_traced =
    own_step (log []) 1 2 (Kept top) skipped_entries (stand (job left_one GoesOn ∷ []) (top ∷ [])) (stand (job decided GoesOn ∷ []) (top ∷ [])) refused_log refused_log (job left_one GoesOn) (job decided GoesOn) skipped_traced (inl (refl, refl))
    (record {
      tells = (Delete decided, (refl, record { path_is = refl; stage_is = refl; tried_is = refl }), refl);
      called = refl;
      settled = λ goes fresh. absurd (true≢false (sym fresh));
      cleared = λ goes fresh. absurd (true≢false (sym fresh));
      leaves = refl;
      walks = (0, 1, 1, keeps_top);
    }) refl refl refl

synced_traced : IsTraced (log []) synced_entries (stand (job decided GoesOn ∷ []) []) synced_log
synced_traced =
    own_step (log []) 1 3 Barrier kept_entries (stand (job decided GoesOn ∷ []) (top ∷ [])) (stand (job decided GoesOn ∷ []) []) refused_log synced_log (job decided GoesOn) (job decided GoesOn) kept_traced (inl (refl, refl))
    (record {
      tells = (Delete decided, (refl, record { path_is = refl; stage_is = refl; tried_is = refl }), refl);
      called = (top, (refl, (pos 0, refl)));
      settled = λ goes fresh. absurd (true≢false (sym fresh));
      cleared = λ goes fresh. absurd (true≢false (sym fresh));
      leaves = (top, record { dirty = inl refl; is = refl }, refl, known_is refused_log (λ l. Performs {A = Unit {0}} l (SyncFolder top) (Ok tt) (Some synced_log)) (refl, (pos 0, refl)));
      walks = (1, 1, 1, syncs_top);
    }) refl refl refl

finished_traced : IsTraced (log []) finished_entries (stand [] []) synced_log
finished_traced =
    own_step (log []) 1 3 (Ended Finished None) synced_entries (stand (job decided GoesOn ∷ []) []) (stand [] []) synced_log synced_log (job decided GoesOn) (job decided GoesOn) synced_traced (inl (refl, refl))
    (record {
      tells = (Delete decided, (refl, refl, record { path_is = refl; stage_is = refl; tried_is = refl }), refl);
      called = refl;
      settled = λ goes fresh. absurd (true≢false (sym fresh));
      cleared = λ goes fresh. absurd (true≢false (sym fresh));
      leaves = (λ kept among. absurd among, refl);
      walks = (0, 1, 1, finishes);
    }) refl refl refl

-- After the session has closed the first file stays gone, and the second stays.
abbrev ended_entries : List Entry
ended_entries = entry 3 Closed ∷ finished_entries

ended_traced : IsTraced (log []) ended_entries (stand [] []) synced_log
ended_traced = (stand [] [], synced_log, finished_traced, record { after = stand [] []; leads = record { after_is = refl; now_is = refl }; stand_is = refl; counts = refl })

abbrev has_finished : (path : Route) → touches (jobs.Removes top) path ≡ true → HasFinished end synced_entries path
has_finished path own = record { id = 1; item = jobs.Removes top; ended = refl; changed = refl; its = refl; own = inl own }

stays_gone : (image : FileSystem) → IsCrashImage synced_log 3 image → value_at image first ≡ None
stays_gone image left =
    done_law (log []) synced_log ended_entries (stand [] []) small_tree refl ended_traced end synced_entries ended_entries ended_entries 3 first image (has_finished first refl) (λ part. part.named) refl (λ m. false≢true m.begins) (inl (refl, refl, refl)) since since left
  where
    since : IsUnnamedSince finished_entries first ended_entries
    since = inr (refl, inl refl)

stays_there : (image : FileSystem) → IsCrashImage synced_log 3 image → value_at image second ≡ Some (value file)
stays_there image left =
    done_law (log []) synced_log ended_entries (stand [] []) small_tree refl ended_traced end synced_entries ended_entries ended_entries 3 second image (has_finished second refl) (λ part. part.named) refl (λ m. false≢true m.begins) (inl (refl, refl, refl)) since since left
  where
    since : IsUnnamedSince finished_entries second ended_entries
    since = inr (refl, inl refl)

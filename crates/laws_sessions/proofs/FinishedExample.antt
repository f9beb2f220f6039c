-- The same session goes on: the next job's folder is synced, it is finished, and the session closes. Then what was settled stays so, and
-- what it has deleted stays gone.
use Rattle.std.proofs.Common.{◌≡◌, pos, false, List, [], ◌∷◌, refl, sym, ◌∙◌, ap, subst, inl, inr, true≢false, Option, Some, None, Ok, arith}
use Rattle.std.proofs.lemmas.Bool.{false≢true}
use Rattle.mc_text.specs.Routes.{Route}
use Rattle.tree_trait.specs.declared.file_system.FileSystem.{FileSystem}
use Rattle.tree_trait.specs.FileSystem.{value_at}
use Rattle.tree_trait.specs.Calls.{SyncFolder}
use Rattle.tree_trait.specs.Answers.{Performs}
use Rattle.tree_trait.specs.Change.{Nothing, Removes, Syncs, CallLog}
use Rattle.tree_trait.specs.CrashImages.{IsCrashImage}
use Rattle.job_answers.specs.Decisions.{no_replies}
use Rattle.job_reports.specs.declared.report.Ending.TheVariants.{Finished}
use Rattle.job_reports.specs.declared.report.Did.TheVariants.{Barrier, Ended}
use Rattle.delete_job.specs.declared.deletion.Stage.TheVariants.{Sync}
use Rattle.delete_job.specs.DeletionSteps.{Goes}
use Rattle.session_entries.specs.declared.history.Event.TheVariants.{Step, Closed}
use Rattle.session_entries.specs.declared.history.Entry.{Entry}
use Rattle.copy_move.specs.declared.work.Work.TheVariants.{Delete}
use Rattle.copy_move.specs.declared.run.Course.TheVariants.{GoesOn}
use Rattle.job_reports.specs.Jobs as jobs
use Rattle.copy_move.specs.Jobs.{Running}
use Rattle.laws_sessions.specs.Doubt.{name_waits}
use Rattle.session_entries.specs.LiveJobs.{IsLivePart, LiveJob, live_jobs}
use Rattle.laws_sessions.specs.Replayed.{log_prefix}
use Rattle.session_entries.specs.Named.{IsUnnamedSince}
use Rattle.laws_sessions.specs.Staying.{HasFinished}
use Rattle.laws_sessions.specs.Traces.{IsTraced}
use Rattle.laws_sessions.proofs.Done.{done_law}
use Rattle.laws_sessions.proofs.ExampleParts.{entry, known_is, more_known, no_step, own_step, some_log, stand}
use Rattle.laws_sessions.proofs.ModesStay.{stays_law}
use Rattle.laws_sessions.proofs.Example.{another, changed, changed_entries, changed_log, deletion, job, log, removal, settled_entries, small_tree, the_file, changed_traced}

-- its folder is synced, and it is finished
abbrev synced_entries : List Entry
synced_entries = entry 6 (Step 2 Barrier) ∷ changed_entries

abbrev end : Entry
end = entry 6 (Step 2 (Ended Finished None))

abbrev finished_entries : List Entry
finished_entries = end ∷ synced_entries

abbrev finished_log : CallLog
finished_log = log (removal ∷ Nothing ∷ Nothing ∷ Syncs 0 ∷ Removes 0 (2 ∷ []) 2 ∷ Syncs 0 ∷ [])

abbrev synced : Running
synced = job 2 another Sync 0 GoesOn

-- the machine syncs that folder, and then it is finished
syncs_second : Goes no_replies (deletion another Sync 0) (deletion another Sync 0) Barrier 1 ([] ∷ []) [] (Some changed_log) (Some finished_log) 2 2
syncs_second =
    inr (
      0,
      record {
        syncs = ([], record { dirty = inl refl; is = refl }, refl, known_is changed_log (λ l. Performs {A = Unit {0}} l (SyncFolder []) (Ok tt) (Some finished_log)) (refl, (pos 0, refl)));
        counted = more_known changed_log finished_log 1 refl;
        few = omega arith;
        unknown = no_step changed_log finished_log;
        later = omega arith;
        fault = λ h. absurd h;
      },
      refl,
    )

finishes_second : Goes no_replies (deletion another Sync 0) (deletion another Sync 0) (Ended Finished None) 0 [] [] (Some finished_log) (Some finished_log) 2 2
finishes_second =
    inr (
      0,
      record {
        syncs = (refl, refl, λ kept among. absurd among, refl, refl);
        counted = more_known finished_log finished_log 0 refl;
        few = omega arith;
        unknown = no_step finished_log finished_log;
        later = omega arith;
        fault = λ h. absurd h;
      },
      refl,
    )

synced_traced : IsTraced (log []) synced_entries (stand (synced ∷ []) []) finished_log
synced_traced =
    own_step (log []) 2 6 Barrier changed_entries (stand (changed ∷ []) ([] ∷ [])) (stand (synced ∷ []) []) changed_log finished_log changed synced changed_traced (inl (refl, refl))
    (record {
      tells = (Delete (deletion another Sync 0), (refl, record { path_is = refl; stage_is = refl; tried_is = refl }), refl);
      called = ([], (refl, (pos 0, refl)));
      settled = λ goes fresh. absurd (true≢false (sym fresh));
      cleared = λ goes fresh. absurd (true≢false (sym fresh));
      leaves = (
        [],
        record { dirty = inl refl; is = refl },
        refl,
        λ known is. subst (λ (l : CallLog). Performs {A = Unit {0}} l (SyncFolder []) (Ok tt) (Some finished_log)) (some_log changed_log known is) (refl, (pos 0, refl)),
      );
      walks = (1, 2, 2, syncs_second);
    }) refl refl refl

finished_traced : IsTraced (log []) finished_entries (stand [] []) finished_log
finished_traced =
    own_step (log []) 2 6 (Ended Finished None) synced_entries (stand (synced ∷ []) []) (stand [] []) finished_log finished_log synced synced synced_traced (inl (refl, refl))
    (record {
      tells = (Delete (deletion another Sync 0), (refl, refl, record { path_is = refl; stage_is = refl; tried_is = refl }), refl);
      called = refl;
      settled = λ goes fresh. absurd (true≢false (sym fresh));
      cleared = λ goes fresh. absurd (true≢false (sym fresh));
      leaves = (λ kept among. absurd among, refl);
      walks = (0, 2, 2, finishes_second);
    }) refl refl refl

-- The session closes. Of the first file no change waits, as the law says: it is settled since that sync.
abbrev ended_entries : List Entry
ended_entries = entry 6 Closed ∷ finished_entries

ended_traced : IsTraced (log []) ended_entries (stand [] []) finished_log
ended_traced = (stand [] [], finished_log, finished_traced, record { after = stand [] []; leads = record { after_is = refl; now_is = refl }; stand_is = refl; counts = refl })

no_live_part : IsLivePart (live_jobs settled_entries) the_file → ⊥
no_live_part (found, inl same, is) = let none : (let o : Option Route = None in o) ≡ Some the_file = ap (λ (l : LiveJob). l.part) (sym same) ∙ is in cc
no_live_part (found, inr none, is) = none

still_settled : name_waits (log_prefix (log []) 6 finished_log) the_file ≡ false
still_settled =
    stays_law.names (log []) finished_log ended_entries settled_entries ended_entries ended_entries (stand [] []) 6 the_file small_tree refl ended_traced (inl (refl, refl, refl)) since since
    refl no_live_part
  where
    since : IsUnnamedSince settled_entries the_file ended_entries
    since = inr (refl, inr (refl, inr (refl, inr (refl, inl refl))))

-- and the second stays gone
abbrev has_finished : HasFinished end synced_entries another
has_finished = record {
  id = 2;
  item = jobs.Removes another;
  ended = refl;
  changed = refl;
  its = refl;
  own = inl refl;
}

stays_gone : (image : FileSystem) → IsCrashImage finished_log 6 image → value_at image another ≡ None
stays_gone image left =
    done_law (log []) finished_log ended_entries (stand [] []) small_tree refl ended_traced end synced_entries ended_entries ended_entries 6 another image has_finished (λ part. part.named) refl (λ m. false≢true m.begins) (inl (refl, refl, refl))
    since since left
  where
    since : IsUnnamedSince finished_entries another ended_entries
    since = inr (refl, inl refl)

-- A small session in which a folder is copied, so the machine's steps can be met: the folder is made and brought onto the disk, it is given the mode of its
-- source, by which its owner may not change it, and it is synced. Then no crash takes it back.
use Rattle.std.proofs.Common.{◌≡◌, true, false, List, [], ◌∷◌, refl, inl, inr, Some, None}
use Rattle.std.proofs.lemmas.Bool.{false≢true}
use Rattle.mc_text.specs.Routes.{Route}
use Rattle.tree_trait.specs.declared.file_system.FileSystem.{FileSystem}
use Rattle.tree_trait.specs.Change.{Makes, after_change}
use Rattle.tree_trait.specs.CrashImages.{IsCrashImage}
use Rattle.tree_trait.specs.FileSystem.{value, value_at}
use Rattle.job_reports.specs.Jobs as jobs
use Rattle.job_reports.specs.declared.job.Job.TheVariants as plan
use Rattle.job_reports.specs.declared.report.Did.TheVariants.{Made, Set, Barrier, Ended}
use Rattle.job_reports.specs.declared.report.Ending.TheVariants.{Finished}
use Rattle.session_entries.specs.Named.{IsUnnamedSince}
use Rattle.session_entries.specs.declared.history.Entry.{Entry}
use Rattle.session_entries.specs.declared.history.Event.TheVariants.{Began, Step, Closed}
use Rattle.laws_sessions.specs.Doubt.{is_unsettled}
use Rattle.laws_sessions.specs.Replayed.{earlier_tree, replayed_tree}
use Rattle.laws_sessions.specs.Staying.{HasFinished}
use Rattle.laws_sessions.specs.Touched.{touches}
use Rattle.laws_sessions.specs.Traces.{IsTraced, nothing_live}
use Rattle.laws_sessions.proofs.Done.{done_law}
use Rattle.laws_sessions.proofs.ExampleParts.{entry, own_step, stand}
use Rattle.laws_sessions.proofs.CopyExampleSteps.{begins, brings_in, brought_in, decided, finishes, given, given_log, gives, has_made, job, log, made, made_log, makes, pair, shut, small, small_tree, source, stands_log, synced, synced_log, syncs, target, works}

-- The history.
abbrev pub begun_entries : List Entry
begun_entries = entry 0 (Began 1 (plan.Copy (pair ∷ [])) false) ∷ []

abbrev pub made_entries : List Entry
made_entries = entry 1 (Step 1 (Made target)) ∷ begun_entries

abbrev pub stands_entries : List Entry
stands_entries = entry 2 (Step 1 Barrier) ∷ made_entries

abbrev pub given_entries : List Entry
given_entries = entry 3 (Step 1 (Set target)) ∷ stands_entries

abbrev pub synced_entries : List Entry
synced_entries = entry 4 (Step 1 Barrier) ∷ given_entries

abbrev pub end : Entry
end = entry 4 (Step 1 (Ended Finished None))

abbrev pub finished_entries : List Entry
finished_entries = end ∷ synced_entries

begun_traced : IsTraced (log []) begun_entries (stand (job begins ∷ []) []) (log [])
begun_traced = (nothing_live, log [], (refl, refl), record { after = stand (job begins ∷ []) []; leads = record { none_live = refl; after_is = refl; now_is = refl }; stand_is = refl; counts = refl })

made_traced : IsTraced (log []) made_entries (stand (job has_made ∷ []) ([] ∷ [])) made_log
made_traced =
    own_step (log []) 1 1 (Made target) begun_entries (stand (job begins ∷ []) []) (stand (job has_made ∷ []) ([] ∷ [])) (log []) made_log (job begins) (job has_made) begun_traced (inl (refl, refl))
    (works begins has_made (Made target) 1 [] ([] ∷ []) (log []) made_log
    (record {
      may = tt;
      after = record { top = refl; part = refl; stage = refl };
      first = λ fresh. tt;
      on = refl;
      no_trouble = λ trouble is. let f : ⊥ = cc in f;
      no_skip = λ path cause is. let f : ⊥ = cc in f;
      merged = λ pair names is. absurd (let f : ⊥ = cc in f);
      kept = λ path is. absurd (let f : ⊥ = cc in f);
      asked = λ question is. let f : ⊥ = cc in f;
      over = λ over. absurd (let e = over.names in let f : ⊥ = cc in f);
    }) makes (λ fresh. refl) (record { folder = []; own = refl; was = false; now = true; list = refl; synced = λ was now. absurd (false≢true was) })) refl refl refl

stands_traced : IsTraced (log []) stands_entries (stand (job brought_in ∷ []) []) stands_log
stands_traced =
    own_step (log []) 1 2 Barrier made_entries (stand (job has_made ∷ []) ([] ∷ [])) (stand (job brought_in ∷ []) []) made_log stands_log (job has_made) (job brought_in) made_traced (inl (refl, refl))
    (works has_made brought_in Barrier 1 ([] ∷ []) [] made_log stands_log
    (record {
      may = tt;
      after = record { top = refl; part = refl; stage = refl };
      first = λ fresh. absurd (false≢true fresh);
      on = refl;
      no_trouble = λ trouble is. let f : ⊥ = cc in f;
      no_skip = λ path cause is. let f : ⊥ = cc in f;
      merged = λ pair names is. absurd (let f : ⊥ = cc in f);
      kept = λ path is. absurd (let f : ⊥ = cc in f);
      asked = λ question is. let f : ⊥ = cc in f;
      over = λ over. absurd (let e = over.around in let f : ⊥ = cc in f);
    }) brings_in (λ fresh. absurd (false≢true fresh)) (record { folder = []; own = refl; was = true; now = false; list = refl; synced = λ was now. refl })) refl refl refl

given_traced : IsTraced (log []) given_entries (stand (job given ∷ []) (target ∷ [])) given_log
given_traced =
    own_step (log []) 1 3 (Set target) stands_entries (stand (job brought_in ∷ []) []) (stand (job given ∷ []) (target ∷ [])) stands_log given_log (job brought_in) (job given) stands_traced (inl (refl, refl))
    (works brought_in given (Set target) 1 [] (target ∷ []) stands_log given_log
    (record {
      may = tt;
      after = record { top = refl; part = refl; stage = refl };
      first = λ fresh. absurd (false≢true fresh);
      on = refl;
      no_trouble = λ trouble is. let f : ⊥ = cc in f;
      no_skip = λ path cause is. let f : ⊥ = cc in f;
      merged = λ pair names is. absurd (let f : ⊥ = cc in f);
      kept = λ path is. absurd (let f : ⊥ = cc in f);
      asked = λ question is. let f : ⊥ = cc in f;
      over = λ over. absurd (let e = over.around in let f : ⊥ = cc in f);
    }) gives (λ fresh. refl) (record { folder = target; own = refl; was = false; now = true; list = refl; synced = λ was now. absurd (false≢true was) })) refl refl refl

synced_traced : IsTraced (log []) synced_entries (stand (job synced ∷ []) []) synced_log
synced_traced =
    own_step (log []) 1 4 Barrier given_entries (stand (job given ∷ []) (target ∷ [])) (stand (job synced ∷ []) []) given_log synced_log (job given) (job synced) given_traced (inl (refl, refl))
    (works given synced Barrier 1 (target ∷ []) [] given_log synced_log
    (record {
      may = tt;
      after = record { top = refl; part = refl; stage = refl };
      first = λ fresh. absurd (false≢true fresh);
      on = refl;
      no_trouble = λ trouble is. let f : ⊥ = cc in f;
      no_skip = λ path cause is. let f : ⊥ = cc in f;
      merged = λ pair names is. absurd (let f : ⊥ = cc in f);
      kept = λ path is. absurd (let f : ⊥ = cc in f);
      asked = λ question is. let f : ⊥ = cc in f;
      over = λ over. absurd (let e = over.around in let f : ⊥ = cc in f);
    }) syncs (λ fresh. absurd (false≢true fresh)) (record { folder = target; own = refl; was = true; now = false; list = refl; synced = λ was now. refl })) refl refl refl

pub finished_traced : IsTraced (log []) finished_entries (stand [] []) synced_log
finished_traced =
    own_step (log []) 1 4 (Ended Finished None) synced_entries (stand (job synced ∷ []) []) (stand [] []) synced_log synced_log (job synced) (job decided) synced_traced (inl (refl, refl))
    (works synced decided (Ended Finished None) 0 [] [] synced_log synced_log
    (record {
      may = refl;
      after = record { top = refl; part = refl; stage = refl };
      first = λ fresh. absurd (false≢true fresh);
      on = refl;
      no_trouble = λ trouble is. let f : ⊥ = cc in f;
      no_skip = λ path cause is. let f : ⊥ = cc in f;
      merged = λ pair names is. absurd (let f : ⊥ = cc in f);
      kept = λ path is. absurd (let f : ⊥ = cc in f);
      asked = λ question is. let f : ⊥ = cc in f;
      over = λ over. absurd (let e = over.around in let f : ⊥ = cc in f);
    }) finishes (λ fresh. refl) (record { folder = []; own = refl; was = false; now = false; list = refl; synced = λ was now. absurd (false≢true was) })) refl refl refl

-- until the folder was synced a crash may leave it with the mode of its making
in_doubt : (image : FileSystem) × IsCrashImage given_log 3 image × (is_unsettled given_log target ≡ true) × (value_at image target ≡ (earlier_tree (log []) given_log given_entries target).value)
    × (value_at image target ≡ Some (value made)) × ((replayed_tree (log []) given_log given_entries target).value ≡ Some (value shut))
in_doubt = (after_change small (Makes 0 (2 ∷ []) made), inl (inl (inr (refl, (after_change small (Makes 0 (2 ∷ []) made), refl, refl)))), refl, refl, refl, refl)

-- Once the job is finished it stands so after any crash, whatever comes.
abbrev ended_entries : List Entry
ended_entries = entry 4 Closed ∷ finished_entries

ended_traced : IsTraced (log []) ended_entries (stand [] []) synced_log
ended_traced = (stand [] [], synced_log, finished_traced, record { after = stand [] []; leads = record { after_is = refl; now_is = refl }; stand_is = refl; counts = refl })

abbrev has_finished : (path : Route) → touches (jobs.Copies source target) path ≡ true → HasFinished end synced_entries path
has_finished path own = record { id = 1; item = jobs.Copies source target; ended = refl; changed = refl; its = refl; own = inl own }

stays_there : (image : FileSystem) → IsCrashImage synced_log 4 image → value_at image target ≡ Some (value shut)
stays_there image left =
    done_law (log []) synced_log ended_entries (stand [] []) small_tree refl ended_traced end synced_entries ended_entries ended_entries 4 target image (has_finished target refl) (λ part. part.named) refl (λ m. false≢true m.begins) (inl (refl, refl, refl)) since since left
  where
    since : IsUnnamedSince finished_entries target ended_entries
    since = inr (refl, inl refl)

-- and in it there is nothing
stays_empty : (image : FileSystem) → IsCrashImage synced_log 4 image → value_at image ((1 ∷ []) ∷ target) ≡ None
stays_empty image left =
    done_law (log []) synced_log ended_entries (stand [] []) small_tree refl ended_traced end synced_entries ended_entries ended_entries 4 ((1 ∷ []) ∷ target) image (has_finished ((1 ∷ []) ∷ target) refl) (λ part. part.named) refl (λ m. false≢true m.begins)
    (inl (refl, refl, refl)) since since left
  where
    since : IsUnnamedSince finished_entries ((1 ∷ []) ∷ target) ended_entries
    since = inr (refl, inl refl)

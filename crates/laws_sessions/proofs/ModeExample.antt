-- A small session in which two files are given a mode, one after the other, so the premises can be met: until the first itself was synced a crash
-- may bring its old mode back, and once the job has gone on with the second none does.
use Rattle.std.proofs.Common.{◌≡◌, ℕ, pos, true, false, List, [], ◌∷◌, refl, inl, inr, Some, true≢false, sym}
use Rattle.mc_text.specs.Routes.{Route}
use Rattle.tree_trait.specs.declared.file_system.FileSystem.{FileSystem}
use Rattle.tree_trait.specs.FileSystem.{value, value_at}
use Rattle.tree_trait.specs.Change.{Change, Sets, Syncs, CallLog}
use Rattle.tree_trait.specs.CrashImages.{IsCrashImage}
use Rattle.laws_crash.specs.Guarded.{with_mode}
use Rattle.job_reports.specs.declared.report.Did.TheVariants.{Set, Barrier}
use Rattle.job_reports.specs.declared.job.Job.TheVariants as plan
use Rattle.job_reports.specs.Jobs as jobs
use Rattle.session_entries.specs.declared.history.Event.TheVariants.{Began, Next, Step}
use Rattle.session_entries.specs.declared.history.Entry.{Entry}
use Rattle.mode_job.specs.declared.setting.Stage.{Stage}
use Rattle.mode_job.specs.declared.setting.Stage.TheVariants.{Give, Sync, Done}
use Rattle.mode_job.specs.Settings.{setting}
use Rattle.job_answers.specs.Decisions.{no_replies}
use Rattle.copy_move.specs.declared.run.Course.TheVariants.{GoesOn}
use Rattle.copy_move.specs.declared.work.Work.TheVariants.{SetMode}
use Rattle.copy_move.specs.Jobs.{Running}
use Rattle.laws_sessions.specs.Doubt.{is_unsettled}
use Rattle.laws_sessions.specs.Replayed.{earlier_tree, replayed_tree}
use Rattle.laws_sessions.specs.Staying.{HasFinished}
use Rattle.laws_sessions.specs.Traces.{IsTraced, nothing_live}
use Rattle.laws_sessions.proofs.Done.{done_law}
use Rattle.laws_sessions.proofs.Example.{another, log, small, small_tree, the_file}
use Rattle.laws_sessions.proofs.ExampleParts.{entry, file, own_step, stand}

-- the job gives the files this mode, in place of 0o644
abbrev pub mode : ℕ
mode = 0o600

abbrev pub given : Change
given = Sets 1 mode

abbrev pub gives : Route → Stage → Running
gives path stage = record { id = 1; work = SetMode (setting path mode stage); course = GoesOn; replies = no_replies }

abbrev job : Stage → Running
job stage = gives the_file stage

abbrev begun_entries : List Entry
begun_entries = entry 0 (Began 1 (plan.SetMode (the_file ∷ another ∷ []) mode) false) ∷ []

begun_traced : IsTraced (log []) begun_entries (stand (job Give ∷ []) []) (log [])
begun_traced = (nothing_live, log [], (refl, refl), record { after = stand (job Give ∷ []) []; leads = record { none_live = refl; after_is = refl; now_is = refl }; stand_is = refl; counts = refl })

-- the mode is given, and the file is dirty
abbrev given_entries : List Entry
given_entries = entry 1 (Step 1 (Set the_file)) ∷ begun_entries

abbrev given_log : CallLog
given_log = log (given ∷ [])

given_traced : IsTraced (log []) given_entries (stand (job Sync ∷ []) (the_file ∷ [])) given_log
given_traced =
    own_step (log []) 1 1 (Set the_file) begun_entries (stand (job Give ∷ []) []) (stand (job Sync ∷ []) (the_file ∷ [])) (log []) given_log (job Give) (job Sync) begun_traced (inl (refl, refl))
    (record {
      tells = (SetMode (setting the_file mode Sync), (refl, refl, refl), refl);
      called = (given_log, (refl, (pos 0, refl)), refl);
      settled = λ goes fresh kept among. absurd among;
      cleared = λ goes fresh kept among. absurd among;
      leaves = refl;
      walks = (1, 0, 0, tt);
    }) refl refl refl

-- then the file is in doubt: the history tells of the new mode, and a crash may bring the old one back
in_doubt : (image : FileSystem) × IsCrashImage given_log 1 image × (is_unsettled given_log the_file ≡ true) × (value_at image the_file ≡ (earlier_tree (log []) given_log given_entries the_file).value)
    × (value_at image the_file ≡ Some (value file)) × ((replayed_tree (log []) given_log given_entries the_file).value ≡ Some (value (with_mode mode file)))
in_doubt = (small, inr (refl, (small, refl, refl)), refl, refl, refl, refl)

-- the file is synced, and the job goes on with the other one
abbrev pub synced_entries : List Entry
synced_entries = entry 2 (Step 1 Barrier) ∷ given_entries

abbrev synced_log : CallLog
synced_log = log (given ∷ Syncs 1 ∷ [])

synced_traced : IsTraced (log []) synced_entries (stand (job Done ∷ []) []) synced_log
synced_traced =
    own_step (log []) 1 2 Barrier given_entries (stand (job Sync ∷ []) (the_file ∷ [])) (stand (job Done ∷ []) []) given_log synced_log (job Sync) (job Done) given_traced (inl (refl, refl))
    (record {
      tells = (SetMode (setting the_file mode Done), (refl, refl), refl);
      called = (synced_log, (refl, (pos 0, refl)), refl);
      settled = λ goes fresh. absurd (true≢false (sym fresh));
      cleared = λ goes fresh. absurd (true≢false (sym fresh));
      leaves = refl;
      walks = (1, 0, 0, tt);
    }) refl refl refl

abbrev pub turn : Entry
turn = entry 2 (Next 1 (plan.SetMode (another ∷ []) mode))

abbrev pub turned_entries : List Entry
turned_entries = turn ∷ synced_entries

pub turned_traced : IsTraced (log []) turned_entries (stand (gives another Give ∷ []) []) synced_log
turned_traced = (
  stand (job Done ∷ []) [],
  synced_log,
  synced_traced,
  record {
    after = stand (gives another Give ∷ []) [];
    leads = record {
      job = job Done;
      its = inl (refl, refl);
      over = job Done;
      done = record {
        tells = (SetMode (setting the_file mode Done), (refl, refl, refl), refl);
        called = refl;
        settled = λ goes fresh. absurd (true≢false (sym fresh));
        cleared = λ goes fresh. absurd (true≢false (sym fresh));
        leaves = refl;
        walks = (0, 0, 0, tt);
      };
      next = gives another Give;
      next_is = refl;
      jobs_is = refl;
    };
    stand_is = refl;
    counts = refl;
  },
)

abbrev is_done : HasFinished turn synced_entries the_file
is_done = record { id = 1; item = jobs.Sets the_file mode; ended = refl; changed = refl; its = refl; own = inl refl }

-- then the first one's mode is there after any crash
stays_set : (image : FileSystem) → IsCrashImage synced_log 2 image → value_at image the_file ≡ Some (value (with_mode mode file))
stays_set image left =
    done_law (log []) synced_log turned_entries (stand (gives another Give ∷ []) []) small_tree refl turned_traced turn synced_entries turned_entries turned_entries 2 the_file image is_done (λ part. part.named) refl (λ matter. matter)
    (inl (refl, refl, refl)) (inl refl) (inl refl) left

-- Small sessions in which a file is moved to the folder around its own, and a folder with two files gets another name, so what the law of moved things asks for can be
-- met: until the folders were synced a crash may leave it at its source, and it may leave it at its target, and it leaves it at one of them.
use Rattle.std.proofs.Common.{◌≡◌, ◌⊎◌, pos, false, List, [], ◌∷◌, refl, inl, inr, Some, None, Ok, true≢false, sym}
use Rattle.mc_text.specs.declared.kind.Kind.TheVariants.{File, Folder}
use Rattle.mc_text.specs.Routes.{Route}
use Rattle.tree_trait.specs.declared.calls.Meta.{Meta}
use Rattle.tree_trait.specs.declared.file_system.FileSystem.{FileSystem}
use Rattle.tree_trait.specs.FileSystem.{value, value_at, visible_tree}
use Rattle.tree_trait.specs.Change.{Change, Moves, Syncs, CallLog, after_change, current}
use Rattle.tree_trait.specs.CrashImages.{IsCrashImage}
use Rattle.tree_trait.specs.Answers.{Performs}
use Rattle.job_answers.specs.Decisions.{no_replies}
use Rattle.job_reports.specs.declared.job.Job.TheVariants as plan
use Rattle.job_reports.specs.declared.job.Pair.{Pair}
use Rattle.job_reports.specs.declared.report.Did.TheVariants.{Barrier, Moved, Ended}
use Rattle.job_reports.specs.declared.report.Ending.TheVariants.{NoMemory}
use Rattle.session_entries.specs.declared.history.Event.TheVariants.{Began, Step}
use Rattle.session_entries.specs.declared.history.Entry.{Entry}
use Rattle.mode_job.specs.SettingSteps.{sync_of}
use Rattle.make_job.specs.declared.new_thing.NewThing.TheVariants as thing
use Rattle.move_job.specs.declared.moving.MovingStage.{MovingStage}
use Rattle.move_job.specs.declared.moving.MovingStage.TheVariants.{Take, SyncTarget, SyncSource}
use Rattle.move_job.specs.Movings.{Moving, begun_move}
use Rattle.move_job.specs.Takings.{MayMove, Stands}
use Rattle.copy_move.specs.declared.run.Course.TheVariants.{GoesOn}
use Rattle.copy_move.specs.declared.work.Work.TheVariants.{Move}
use Rattle.copy_move.specs.Jobs.{Running, makes}
use Rattle.laws_sessions.specs.Traces.{IsTraced, nothing_live}
use Rattle.laws_sessions.specs.Whole.{IsWholeAt}
use Rattle.laws_sessions.proofs.ExampleParts.{entry, file, folder, known_is, own_step, stand}
use Rattle.laws_sessions.proofs.FolderExampleSteps.{first, log, second, small_tree, top}
use Rattle.laws_sessions.proofs.WholeMoments.{whole_law}

-- the first of two files goes out of the folder that holds them
abbrev root : Route
root = []

abbrev out : Route
out = (3 ∷ []) ∷ root

abbrev second_out : Route
second_out = (4 ∷ []) ∷ root

abbrev pair : Pair
pair = record { source = first; target = out }

abbrev renaming : Change
renaming = Moves 1 (1 ∷ []) 0 (3 ∷ []) 2 None

abbrev job : MovingStage → Running
job stage = record { id = 1; work = Move (let m : Moving = record (begun_move pair) { stage = stage } in m); course = GoesOn; replies = no_replies }

abbrev begun_entries : List Entry
begun_entries = entry 0 (Began 1 (plan.Move (pair ∷ [])) false) ∷ []

begun_traced : IsTraced (log []) begun_entries (stand (job Take ∷ []) []) (log [])
begun_traced = (nothing_live, log [], (refl, refl), record { after = stand (job Take ∷ []) []; leads = record { none_live = refl; after_is = refl; now_is = refl }; stand_is = refl; counts = refl })

-- it is renamed, and both folders are dirty
abbrev moving : Entry
moving = entry 1 (Step 1 (Moved pair))

abbrev moved_entries : List Entry
moved_entries = moving ∷ begun_entries

abbrev moved_log : CallLog
moved_log = log (renaming ∷ [])

abbrev meta : Meta
meta = record { kind = File; size = 1; mode = 0o644; mtime = pos 0; mount = 0 }

stands : Stands (current (log [])) first meta
stands = record { there = refl; is = record { kind = refl; size = refl; mode = refl; mtime = refl; mount = refl } }

may : MayMove (current (log [])) pair no_replies
may = record { can = record { source = meta; stands = stands }; free = inl refl }

moved_traced : IsTraced (log []) moved_entries (stand (job SyncTarget ∷ []) (root ∷ top ∷ [])) moved_log
moved_traced =
    own_step (log []) 1 1 (Moved pair) begun_entries (stand (job Take ∷ []) []) (stand (job SyncTarget ∷ []) (root ∷ top ∷ [])) (log []) moved_log (job Take) (job SyncTarget) begun_traced (inl (refl, refl))
    (record {
      tells = (Move (let m : Moving = record (begun_move pair) { stage = SyncTarget } in m), (refl, refl, refl), refl);
      called = (may, (refl, (pos 0, refl)));
      settled = λ goes fresh kept among. absurd among;
      cleared = λ goes fresh kept among. absurd among;
      leaves = refl;
      walks = (1, 0, 0, tt);
    }) refl refl refl

-- the target's folder is synced, and the source's is not yet
abbrev half_entries : List Entry
half_entries = entry 2 (Step 1 Barrier) ∷ moved_entries

abbrev half_log : CallLog
half_log = log (renaming ∷ Syncs 0 ∷ [])

half_traced : IsTraced (log []) half_entries (stand (job SyncSource ∷ []) (top ∷ [])) half_log
half_traced =
    own_step (log []) 1 2 Barrier moved_entries (stand (job SyncTarget ∷ []) (root ∷ top ∷ [])) (stand (job SyncSource ∷ []) (top ∷ [])) moved_log half_log (job SyncTarget) (job SyncSource) moved_traced (inl (refl, refl))
    (record {
      tells = (Move (let m : Moving = record (begun_move pair) { stage = SyncSource } in m), (refl, refl), refl);
      called = (refl, (pos 0, refl));
      settled = λ goes fresh. absurd (true≢false (sym fresh));
      cleared = λ goes fresh. absurd (true≢false (sym fresh));
      leaves = refl;
      walks = (1, 0, 0, tt);
    }) refl refl refl

-- then it is at its source after some crash, and at its target after another
at_source : (image : FileSystem) × IsCrashImage half_log 2 image × (value_at image first ≡ Some (value file)) × (value_at image out ≡ None)
at_source = (current (log []), inr (refl, (current (log []), refl, inl refl)), refl, refl)

at_target : (image : FileSystem) × IsCrashImage half_log 2 image × (value_at image first ≡ None) × (value_at image out ≡ Some (value file))
at_target = (after_change (current (log [])) renaming, inl (inl refl), refl, refl)

-- and at one of them after any
pub stays_whole : (image : FileSystem) → IsCrashImage half_log 2 image → IsWholeAt image pair [] (visible_tree (current (log [])))
stays_whole image left =
    whole_law (log []) half_log half_entries (stand (job SyncSource ∷ []) (top ∷ [])) small_tree refl half_traced begun_entries half_entries half_entries moving 1 pair 2 image refl (inl (refl, refl, refl)) (inr (λ path on. refl, inl refl)) left

-- The job ends before any sync, for want of memory, and another one is begun, which first syncs the folder of the target: the log is the same, so it may be at either
-- place still, and it is at one of them.
abbrev ended_entries : List Entry
ended_entries = entry 1 (Step 1 (Ended NoMemory None)) ∷ moved_entries

ended_traced : IsTraced (log []) ended_entries (stand [] (root ∷ top ∷ [])) moved_log
ended_traced = (
  stand (job SyncTarget ∷ []) (root ∷ top ∷ []),
  moved_log,
  moved_traced,
  record {
    after = stand [] (root ∷ top ∷ []);
    leads = record { job = job SyncTarget; its = inl (refl, refl); new = None; leads = inr (record { did_is = refl; same = refl; none = refl }, refl); jobs_is = refl };
    stand_is = refl;
    counts = refl;
  },
)

abbrev maker : Running
maker = record { id = 2; work = makes thing.Folder second_out; course = GoesOn; replies = no_replies }

abbrev later_entries : List Entry
later_entries = entry 1 (Began 2 (plan.MakeFolder second_out) false) ∷ ended_entries

later_traced : IsTraced (log []) later_entries (stand (maker ∷ []) (root ∷ top ∷ [])) moved_log
later_traced = (
  stand [] (root ∷ top ∷ []),
  moved_log,
  ended_traced,
  record { after = stand (maker ∷ []) (root ∷ top ∷ []); leads = record { none_live = refl; after_is = refl; now_is = refl }; stand_is = refl; counts = refl },
)

abbrev owed_entries : List Entry
owed_entries = entry 2 (Step 2 Barrier) ∷ later_entries

owed_traced : IsTraced (log []) owed_entries (stand (maker ∷ []) (top ∷ [])) half_log
owed_traced = (
  stand (maker ∷ []) (root ∷ top ∷ []),
  moved_log,
  later_traced,
  record {
    after = stand (maker ∷ []) (top ∷ []);
    leads = record {
      job = maker;
      its = inl (refl, refl);
      new = Some maker;
      leads = inl (
        maker,
        inr (record {
          goes = refl;
          fresh = refl;
          path = root;
          owed = inl refl;
          synced = inl (record {
            did_is = refl;
            new_is = refl;
            dirty_is = refl;
            called = known_is moved_log (λ l. Performs {A = Unit {0}} l (sync_of (current l) root) (Ok tt) (Some half_log)) (refl, (pos 0, refl));
          });
        }),
        refl,
      );
      jobs_is = refl;
    };
    stand_is = refl;
    counts = refl;
  },
)

pub stays_whole_later : (image : FileSystem) → IsCrashImage half_log 2 image → IsWholeAt image pair [] (visible_tree (current (log [])))
stays_whole_later image left =
    whole_law (log []) half_log owed_entries (stand (maker ∷ []) (top ∷ [])) small_tree refl owed_traced begun_entries owed_entries owed_entries moving 1 pair 2 image refl (inl (refl, refl, refl))
    (inr (λ path on. refl, inr (λ path on. refl, inr (λ path on. refl, inl refl)))) left

-- the folder gets another name in the one around it, and its files go along
abbrev folder_pair : Pair
folder_pair = record { source = top; target = out }

abbrev folder_renaming : Change
folder_renaming = Moves 0 (1 ∷ []) 0 (3 ∷ []) 1 None

abbrev folder_job : MovingStage → Running
folder_job stage = record { id = 1; work = Move (let m : Moving = record (begun_move folder_pair) { stage = stage } in m); course = GoesOn; replies = no_replies }

abbrev folder_begun : List Entry
folder_begun = entry 0 (Began 1 (plan.Move (folder_pair ∷ [])) false) ∷ []

folder_begun_traced : IsTraced (log []) folder_begun (stand (folder_job Take ∷ []) []) (log [])
folder_begun_traced = (nothing_live, log [], (refl, refl), record { after = stand (folder_job Take ∷ []) []; leads = record { none_live = refl; after_is = refl; now_is = refl }; stand_is = refl; counts = refl })

abbrev folder_moving : Entry
folder_moving = entry 1 (Step 1 (Moved folder_pair))

abbrev folder_moved : List Entry
folder_moved = folder_moving ∷ folder_begun

abbrev folder_log : CallLog
folder_log = log (folder_renaming ∷ [])

abbrev folder_meta : Meta
folder_meta = record { kind = Folder; size = 0; mode = 0o755; mtime = pos 0; mount = 0 }

folder_stands : Stands (current (log [])) top folder_meta
folder_stands = record { there = refl; is = record { kind = refl; size = refl; mode = refl; mtime = refl; mount = refl } }

folder_may : MayMove (current (log [])) folder_pair no_replies
folder_may = record { can = record { source = folder_meta; stands = folder_stands }; free = inl refl }

folder_traced : IsTraced (log []) folder_moved (stand (folder_job SyncTarget ∷ []) (root ∷ [])) folder_log
folder_traced =
    own_step (log []) 1 1 (Moved folder_pair) folder_begun (stand (folder_job Take ∷ []) []) (stand (folder_job SyncTarget ∷ []) (root ∷ [])) (log []) folder_log (folder_job Take) (folder_job SyncTarget)
    folder_begun_traced (inl (refl, refl))
    (record {
      tells = (Move (let m : Moving = record (begun_move folder_pair) { stage = SyncTarget } in m), (refl, refl, refl), refl);
      called = (folder_may, (refl, (pos 0, refl)));
      settled = λ goes fresh kept among. absurd among;
      cleared = λ goes fresh kept among. absurd among;
      leaves = refl;
      walks = (1, 0, 0, tt);
    }) refl refl refl

-- before the sync it is at its source after some crash, with both files, and at its target after another
folder_at_source : (image : FileSystem) × IsCrashImage folder_log 1 image × (value_at image top ≡ Some (value folder)) × (value_at image first ≡ Some (value file)) × (value_at image out ≡ None)
folder_at_source = (current (log []), inr (refl, (current (log []), refl, refl)), refl, refl, refl)

folder_at_target : (image : FileSystem) × IsCrashImage folder_log 1 image × (value_at image top ≡ None) × (value_at image out ≡ Some (value folder)) × (value_at image ((1 ∷ []) ∷ out) ≡ Some (value file))
folder_at_target = (after_change (current (log [])) folder_renaming, inl refl, refl, refl, refl)

-- and at one of them after any, with both files
pub folder_stays_whole : (image : FileSystem) → IsCrashImage folder_log 1 image → IsWholeAt image folder_pair [] (visible_tree (current (log [])))
folder_stays_whole image left =
    whole_law (log []) folder_log folder_moved (stand (folder_job SyncTarget ∷ []) (root ∷ [])) small_tree refl folder_traced folder_begun folder_moved folder_moved folder_moving 1 folder_pair 1 image refl (inl (refl, refl, refl)) (inl refl)
    left

pub file_goes_along : (image : FileSystem) → IsCrashImage folder_log 1 image → (value_at image second ≡ Some (value file)) ⊎ (value_at image ((2 ∷ []) ∷ out) ≡ Some (value file))
file_goes_along image left =
    let whole = folder_stays_whole image left in
    elim whole.stands [ inl here ↦ inl (here ((2 ∷ []) ∷ []) (λ among. among)) | inr there ↦ inr (there ((2 ∷ []) ∷ []) (λ among. among)) ]

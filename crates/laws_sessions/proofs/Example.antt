-- A small session, so the premises can be met: a deletion whose sync fails and that is aborted, its last sync failing too; then
-- the file is in doubt. The next job syncs that folder first, after which no crash brings the file back; its first change leaves
-- nothing else in doubt.
use Rattle.std.proofs.Common.{◌≡◌, ◌⊎◌, ℕ, pos, true, false, List, [], ◌∷◌, refl, sym, subst, inl, inr, true≢false, Option, Some, None, Ok, Err, arith}
use Rattle.mc_text.specs.Routes.{Route}
use Rattle.tree_trait.specs.declared.file_system.FileSystem.{FileSystem}
use Rattle.tree_trait.specs.declared.calls.TreeError.TheVariants as refused
use Rattle.tree_trait.specs.FileSystem.{value_at}
use Rattle.tree_trait.specs.Calls.{RemoveFile, SyncFolder}
use Rattle.tree_trait.specs.Answers.{Performs}
use Rattle.tree_trait.specs.Shape.{IsTree}
use Rattle.tree_trait.specs.Change.{Change, Nothing, Makes, Removes, Syncs, CallLog, after_change, current}
use Rattle.tree_trait.specs.CrashImages.{IsCrashImage}
use Rattle.tree_trait.proofs.BareRoot.{bare, bare_tree}
use Rattle.tree_trait.proofs.Kept.{tree_made}
use Rattle.job_answers.specs.Decisions.{no_replies}
use Rattle.job_reports.specs.declared.report.Ending.TheVariants.{Aborted}
use Rattle.job_reports.specs.declared.report.Did.TheVariants.{Removed, Barrier, Troubled, Ended}
use Rattle.tree_walk.specs.Places.{unopened_walk}
use Rattle.delete_job.specs.declared.deletion.Depth.TheVariants.{Top}
use Rattle.delete_job.specs.declared.deletion.Stage.{Stage}
use Rattle.delete_job.specs.declared.deletion.Stage.TheVariants.{Begin, Sync}
use Rattle.delete_job.specs.declared.deletion.Deletion.{Deletion}
use Rattle.delete_job.specs.TreeDeletionSteps.{LastSteps, WorkCalls}
use Rattle.delete_job.specs.Deletions.{Deleting, RefusedSync, machine_of}
use Rattle.delete_job.specs.DeletionSteps.{Goes}
use Rattle.session_entries.specs.declared.history.Event.TheVariants.{Began, Step, Closed}
use Rattle.job_reports.specs.declared.job.Job.TheVariants as plan
use Rattle.session_entries.specs.declared.history.Entry.{Entry}
use Rattle.copy_move.specs.declared.work.Work.TheVariants.{Delete}
use Rattle.copy_move.specs.declared.run.Course.{Course}
use Rattle.copy_move.specs.declared.run.Course.TheVariants.{GoesOn, InTrouble, Ends}
use Rattle.job_reports.specs.Jobs as jobs
use Rattle.job_reports.specs.Jobs.{ItemOfJob}
use Rattle.session_entries.specs.LiveJobs.{live_item, live_jobs}
use Rattle.laws_sessions.specs.OwnPaths.{IsOfAnother}
use Rattle.job_reports.specs.Stops.{trouble_at}
use Rattle.copy_move.specs.Jobs.{Running, halt_of}
use Rattle.mode_job.specs.SettingSteps.{sync_of}
use Rattle.laws_sessions.specs.Calmed.{HasBegun, changes_name}
use Rattle.laws_sessions.specs.Doubt.{is_unsettled, name_waits}
use Rattle.laws_sessions.specs.ApartFolders.{IsApart}
use Rattle.laws_sessions.specs.Replayed.{earlier_tree, log_prefix, replayed_tree}
use Rattle.laws_sessions.specs.Traces.{IsTraced, nothing_live}
use Rattle.laws_sessions.proofs.Calmed.{calm_law}
use Rattle.laws_sessions.proofs.ExampleParts.{deleting_job, entry, file, known_is, more_known, no_step, own_step, some_log, some_weight, stand}
use Rattle.laws_sessions.proofs.Moments.{session_law}

-- the root holds a file under the name 1
abbrev pub smaller : FileSystem
smaller = after_change bare (Makes 0 (1 ∷ []) file)

-- and one under the name 2
abbrev pub small : FileSystem
small = after_change smaller (Makes 0 (2 ∷ []) file)

abbrev pub the_file : Route
the_file = (1 ∷ []) ∷ []

-- the next job is to delete the other one
abbrev pub another : Route
another = (2 ∷ []) ∷ []

pub small_tree : IsTree small
small_tree = tree_made smaller 0 (2 ∷ []) file (tree_made bare 0 (1 ∷ []) file bare_tree refl) refl

abbrev pub log : List Change → CallLog
log changes = record { opening = small; changes = changes }

abbrev pub removal : Change
removal = Removes 0 (1 ∷ []) 1

-- the deletion of this file, which has tried so many folders in its last steps
abbrev pub deletion : Route → Stage → ℕ → Deleting
deletion path stage tried = record { path = path; stage = stage; depth = Top; place = unopened_walk; tried = tried }

-- the job with this number that deletes this file
abbrev pub job : ℕ → Route → Stage → ℕ → Course → Running
job id path stage tried course = deleting_job id (deletion path stage tried) course

abbrev pub first : Stage → Course → Running
first stage course = job 1 the_file stage 0 course

-- the last steps have gone through the one dirty folder
abbrev pub tried_once : Running
tried_once = job 1 the_file Sync 1 (Ends Aborted)

-- the machine of such a deletion
abbrev pub machine : Route → Stage → Deletion
machine path stage = machine_of (deletion path stage 0) 0

-- it removes a file that is the thing itself
removes_first : Goes no_replies (deletion the_file Begin 0) (deletion the_file Sync 0) (Removed the_file) 1 [] ([] ∷ []) (Some (log [])) (Some (log (removal ∷ []))) 0 0
removes_first =
    let less = some_weight 257 in
    inl (
      Removed the_file,
      machine the_file Sync,
      0,
      0,
      record {
        entered = [];
        mid = machine the_file Begin;
        descends = record { place = refl; depth_is = refl; stage_is = refl; path_is = refl; folder_is = refl };
        working = record {
          works = (refl, tt, record { place = refl; stage_is = refl; path_is = refl; folder_is = refl; depth_is = refl });
          called = known_is (log []) (λ l. WorkCalls (machine the_file Begin) (Removed the_file) l (Some (log (removal ∷ [])))) ((tt, refl), (refl, (pos 0, refl)));
          leaves = refl;
          counted = more_known (log []) (log (removal ∷ [])) 1 refl;
          few = omega arith;
          unknown = no_step (log []) (log (removal ∷ []));
          later = omega arith;
          fault = λ h. absurd h;
        };
        falls = λ h. less;
        no_more = omega arith;
      },
      inl (refl, refl, refl),
    )

abbrev pub begun_entries : List Entry
begun_entries = entry 0 (Began 1 (plan.Delete (the_file ∷ [])) false) ∷ []

begun_traced : IsTraced (log []) begun_entries (stand (first Begin GoesOn ∷ []) []) (log [])
begun_traced = (nothing_live, log [], (refl, refl), record { after = stand (first Begin GoesOn ∷ []) []; leads = record { none_live = refl; after_is = refl; now_is = refl }; stand_is = refl; counts = refl })

-- the name is removed, and the folder is dirty
abbrev pub removed_entries : List Entry
removed_entries = entry 1 (Step 1 (Removed the_file)) ∷ begun_entries

removed_traced : IsTraced (log []) removed_entries (stand (first Sync GoesOn ∷ []) ([] ∷ [])) (log (removal ∷ []))
removed_traced =
    own_step (log []) 1 1 (Removed the_file) begun_entries (stand (first Begin GoesOn ∷ []) []) (stand (first Sync GoesOn ∷ []) ([] ∷ [])) (log []) (log (removal ∷ [])) (first Begin GoesOn) (first Sync GoesOn) begun_traced (inl (refl, refl))
    (record {
      tells = (Delete (deletion the_file Sync 0), (refl, refl, record { path_is = refl; stage_is = refl; tried_is = refl }), refl);
      called = inl (refl, (pos 0, refl));
      settled = λ goes fresh kept among. absurd among;
      cleared = λ goes fresh kept among. absurd among;
      leaves = inl (refl, λ known is. subst (λ (l : CallLog). Performs {A = Unit {0}} l (RemoveFile the_file) (Ok tt) (Some (log (removal ∷ [])))) (some_log (log []) known is) (refl, (pos 0, refl)));
      walks = (1, 0, 0, removes_first);
    }) refl refl refl

-- the sync fails, the session closes, and the last sync fails too: the job is aborted
abbrev pub troubled_entries : List Entry
troubled_entries = entry 2 (Step 1 (Troubled (trouble_at refused.Fault [] true))) ∷ removed_entries

abbrev pub closed_entries : List Entry
closed_entries = entry 2 Closed ∷ troubled_entries

abbrev pub tried_entries : List Entry
tried_entries = entry 3 (Step 1 Barrier) ∷ closed_entries

abbrev pub aborted_entries : List Entry
aborted_entries = entry 3 (Step 1 (Ended Aborted None)) ∷ tried_entries

abbrev pub aborted_log : CallLog
aborted_log = log (removal ∷ Nothing ∷ Nothing ∷ [])

-- the machine's sync is refused
sync_refused : Goes no_replies (deletion the_file Sync 0) (deletion the_file Sync 0) (Troubled (trouble_at refused.Fault [] true)) 1 ([] ∷ []) ([] ∷ []) (Some (log (removal ∷ []))) (Some (log (removal ∷ Nothing ∷ []))) 0 1
sync_refused =
    inr (
      0,
      record {
        syncs = (
          refused.Fault,
          [],
          record { dirty = inl refl; is = refl },
          refl,
          refl,
          known_is (log (removal ∷ [])) (λ l. Performs {A = Unit {0}} l (SyncFolder []) (Err refused.Fault) (Some (log (removal ∷ Nothing ∷ [])))) (refl, ([], refl)),
        );
        counted = more_known (log (removal ∷ [])) (log (removal ∷ Nothing ∷ [])) 1 refl;
        few = omega arith;
        unknown = no_step (log (removal ∷ [])) (log (removal ∷ Nothing ∷ []));
        later = omega arith;
        fault = λ h. omega arith;
      },
      refl,
    )

abbrev pub waiting : Running
waiting = first Sync (InTrouble (halt_of (trouble_at refused.Fault [] true)))

troubled_traced : IsTraced (log []) troubled_entries (stand (waiting ∷ []) ([] ∷ [])) (log (removal ∷ Nothing ∷ []))
troubled_traced =
    own_step (log []) 1 2 (Troubled (trouble_at refused.Fault [] true)) removed_entries (stand (first Sync GoesOn ∷ []) ([] ∷ [])) (stand (waiting ∷ []) ([] ∷ [])) (log (removal ∷ [])) (log (removal ∷ Nothing ∷ [])) (first Sync GoesOn) waiting removed_traced (inl (refl, refl))
    (record {
      tells = (Delete (deletion the_file Sync 0), (refl, record { path_is = refl; stage_is = refl; tried_is = refl }), refl);
      called = inr (refused.Fault, inl refl, RefusedSync [] (refl, ([], refl)));
      settled = λ goes fresh. absurd (true≢false (sym fresh));
      cleared = λ goes fresh. absurd (true≢false (sym fresh));
      leaves = refl;
      walks = (1, 0, 1, sync_refused);
    }) refl refl refl

closed_traced : IsTraced (log []) closed_entries (stand (first Sync (Ends Aborted) ∷ []) ([] ∷ [])) (log (removal ∷ Nothing ∷ []))
closed_traced = (
  stand (waiting ∷ []) ([] ∷ []),
  log (removal ∷ Nothing ∷ []),
  troubled_traced,
  record { after = stand (waiting ∷ []) ([] ∷ []); leads = record { after_is = refl; now_is = refl }; stand_is = refl; counts = refl },
)

-- the machine tries the one folder in vain, and then there is none
tries_first : LastSteps Aborted (machine the_file Sync) 0 1 Barrier 1 (Some refused.Fault) ([] ∷ []) ([] ∷ []) (Some (log (removal ∷ Nothing ∷ []))) (Some aborted_log) 1 2
tries_first = record {
  tries = (
    0,
    [],
    record { least = omega arith; few = omega arith; kept = []; stands = refl; is = refl; first = λ at kept least less stands. absurd (omega (arith, least, less)) },
    refl,
    refl,
    refl,
    known_is (log (removal ∷ Nothing ∷ [])) (λ l. Performs {A = Unit {0}} l (SyncFolder []) (Err refused.Fault) (Some aborted_log)) (refl, ([], refl)),
  );
  counted = more_known (log (removal ∷ Nothing ∷ [])) aborted_log 1 refl;
  few = omega arith;
  unknown = no_step (log (removal ∷ Nothing ∷ [])) aborted_log;
  later = omega arith;
  fault = λ h. omega arith;
}

tries_none : LastSteps Aborted (machine the_file Sync) 1 1 (Ended Aborted None) 0 None ([] ∷ []) ([] ∷ []) (Some aborted_log) (Some aborted_log) 2 2
tries_none = record {
  tries = (λ at kept least less stands. absurd (omega (arith, least, less)), refl, refl, refl, refl, refl, refl);
  counted = more_known aborted_log aborted_log 0 refl;
  few = omega arith;
  unknown = no_step aborted_log aborted_log;
  later = omega arith;
  fault = λ h. absurd (let f : ⊥ = cc in f);
}

tried_traced : IsTraced (log []) tried_entries (stand (tried_once ∷ []) ([] ∷ [])) aborted_log
tried_traced =
    own_step (log []) 1 3 Barrier closed_entries (stand (first Sync (Ends Aborted) ∷ []) ([] ∷ [])) (stand (tried_once ∷ []) ([] ∷ [])) (log (removal ∷ Nothing ∷ [])) aborted_log (first Sync (Ends Aborted)) tried_once closed_traced (inl (refl, refl))
    (record {
      tells = (Delete (deletion the_file Sync 1), (refl, refl), refl);
      called = ([], Err refused.Fault, (refl, ([], refl)));
      settled = λ goes fresh. absurd (true≢false (sym fresh));
      cleared = λ goes fresh. absurd (true≢false (sym fresh));
      leaves = record { refusal = Some refused.Fault; folder = []; own = refl; dirty_is = refl; tried = λ known is. subst (λ (l : CallLog). Performs {A = Unit {0}} l (SyncFolder []) (Err refused.Fault) (Some aborted_log)) (some_log (log (removal ∷ Nothing ∷ [])) known is) (refl, ([], refl)) };
      walks = (1, 1, 2, (Some refused.Fault, ((0, tries_first), refl)));
    }) refl refl refl

aborted_traced : IsTraced (log []) aborted_entries (stand [] ([] ∷ [])) aborted_log
aborted_traced =
    own_step (log []) 1 3 (Ended Aborted None) tried_entries (stand (tried_once ∷ []) ([] ∷ [])) (stand [] ([] ∷ [])) aborted_log aborted_log tried_once tried_once tried_traced (inl (refl, refl))
    (record {
      tells = (Delete (deletion the_file Sync 1), (refl, refl, refl, refl), refl);
      called = refl;
      settled = λ goes fresh. absurd (true≢false (sym fresh));
      cleared = λ goes fresh. absurd (true≢false (sym fresh));
      leaves = record { refusal = None; folder = []; own = refl; dirty_is = refl; tried = λ known is. refl };
      walks = (0, 2, 2, (None, ((0, tries_none), refl)));
    }) refl refl refl

-- then the file is in doubt: the history tells that it is gone, and a crash may bring it back, as it was before
in_doubt : (image : FileSystem) × IsCrashImage aborted_log 3 image × (is_unsettled aborted_log the_file ≡ true) × (value_at image the_file ≡ (earlier_tree (log []) aborted_log aborted_entries the_file).value)
    × ((replayed_tree (log []) aborted_log aborted_entries the_file).value ≡ None)
in_doubt = (small, inr (refl, (small, refl, inl (inl refl))), refl, refl, refl)

-- the next job syncs that folder first
abbrev pub second_entries : List Entry
second_entries = entry 3 (Began 2 (plan.Delete (another ∷ [])) false) ∷ aborted_entries

abbrev pub settled_entries : List Entry
settled_entries = entry 4 (Step 2 Barrier) ∷ second_entries

abbrev pub settled_log : CallLog
settled_log = log (removal ∷ Nothing ∷ Nothing ∷ Syncs 0 ∷ [])

abbrev pub second : Running
second = job 2 another Begin 0 GoesOn

second_traced : IsTraced (log []) second_entries (stand (second ∷ []) ([] ∷ [])) aborted_log
second_traced = (stand [] ([] ∷ []), aborted_log, aborted_traced, record { after = stand (second ∷ []) ([] ∷ []); leads = record { none_live = refl; after_is = refl; now_is = refl }; stand_is = refl; counts = refl })

pub settled_traced : IsTraced (log []) settled_entries (stand (second ∷ []) []) settled_log
settled_traced = (
  stand (second ∷ []) ([] ∷ []),
  aborted_log,
  second_traced,
  record {
    after = stand (second ∷ []) [];
    leads = record {
      job = second;
      its = inl (refl, refl);
      new = Some second;
      leads = inl (
        second,
        inr (record {
          goes = refl;
          fresh = refl;
          path = [];
          owed = inl refl;
          synced = inl (record {
            did_is = refl;
            new_is = refl;
            dirty_is = refl;
            called = known_is aborted_log (λ l. Performs {A = Unit {0}} l (sync_of (current l) []) (Ok tt) (Some settled_log)) (refl, (pos 0, refl));
          });
        }),
        refl,
      );
      jobs_is = refl;
    };
    stand_is = refl;
    counts = refl;
  },
)

-- then no crash brings the file back
stays_away : (image : FileSystem) → IsCrashImage settled_log 4 image → value_at image the_file ≡ None
stays_away image left =
    by (session_law (log []) settled_log settled_entries settled_entries settled_entries (stand (second ∷ []) []) 4 image small_tree refl settled_traced (inl (refl, refl, refl)) left)
  where
    either : ((value_at image the_file ≡ None) ⊎ ((is_unsettled settled_log the_file ≡ true) × (value_at image the_file ≡ (earlier_tree (log []) settled_log settled_entries the_file).value))) → value_at image the_file ≡ None
    either (inl gone) = gone
    either (inr doubt) = absurd (true≢false (sym doubt.0))

    by : Rattle.laws_sessions.specs.Safe.IsSafe (log []) settled_log settled_entries settled_log image ⊎ Rattle.laws_sessions.specs.Safe.IsSafe (log []) settled_log settled_entries settled_log image → value_at image the_file ≡ None
    by (inl safe) = either (safe the_file (λ part. part.named))
    by (inr safe) = either (safe the_file (λ part. part.named))

-- its first change
abbrev pub change : Entry
change = entry 5 (Step 2 (Removed another))

abbrev pub changed_entries : List Entry
changed_entries = change ∷ settled_entries

abbrev pub changed_log : CallLog
changed_log = log (removal ∷ Nothing ∷ Nothing ∷ Syncs 0 ∷ Removes 0 (2 ∷ []) 2 ∷ [])

abbrev pub changed : Running
changed = job 2 another Sync 0 GoesOn

removes_second : Goes no_replies (deletion another Begin 0) (deletion another Sync 0) (Removed another) 1 [] ([] ∷ []) (Some settled_log) (Some changed_log) 2 2
removes_second =
    let less = some_weight 257 in
    inl (
      Removed another,
      machine another Sync,
      0,
      0,
      record {
        entered = [];
        mid = machine another Begin;
        descends = record { place = refl; depth_is = refl; stage_is = refl; path_is = refl; folder_is = refl };
        working = record {
          works = (refl, tt, record { place = refl; stage_is = refl; path_is = refl; folder_is = refl; depth_is = refl });
          called = known_is settled_log (λ l. WorkCalls (machine another Begin) (Removed another) l (Some changed_log)) ((tt, refl), (refl, (pos 0, refl)));
          leaves = refl;
          counted = more_known settled_log changed_log 1 refl;
          few = omega arith;
          unknown = no_step settled_log changed_log;
          later = omega arith;
          fault = λ h. absurd h;
        };
        falls = λ h. less;
        no_more = omega arith;
      },
      inl (refl, refl, refl),
    )

pub changed_traced : IsTraced (log []) changed_entries (stand (changed ∷ []) ([] ∷ [])) changed_log
changed_traced =
    own_step (log []) 2 5 (Removed another) settled_entries (stand (second ∷ []) []) (stand (changed ∷ []) ([] ∷ [])) settled_log changed_log second changed settled_traced (inl (refl, refl))
    (record {
      tells = (Delete (deletion another Sync 0), (refl, refl, record { path_is = refl; stage_is = refl; tried_is = refl }), refl);
      called = inl (refl, (pos 0, refl));
      settled = λ goes fresh kept among. absurd among;
      cleared = λ goes fresh kept among. absurd among;
      leaves = inl (refl, λ known is. subst (λ (l : CallLog). Performs {A = Unit {0}} l (RemoveFile another) (Ok tt) (Some changed_log)) (some_log settled_log known is) (refl, (pos 0, refl)));
      walks = (1, 2, 2, removes_second);
    }) refl refl refl

abbrev first_change : HasBegun change settled_entries []
first_change = record {
  id = 2;
  did = Removed another;
  item = jobs.Removes another;
  reports = refl;
  begins = refl;
  unchanged = refl;
  its = refl;
  within = refl;
}

-- the job that named the first file last has ended
no_other : IsOfAnother 2 settled_entries the_file → ⊥
no_other o =
    let one : 1 ≡ o.other = (let named : Some 1 ≡ Some o.other = o.named in cc) in
    let gone : (let none : Option ItemOfJob = None in none) ≡ Some o.item = subst (λ n. live_item n (live_jobs settled_entries) ≡ Some o.item) (sym one) o.lives in cc

-- then the first file is in doubt no more, as the law says
calmed : name_waits (log_prefix (log []) 5 changed_log) the_file ≡ true → ⊥
calmed waits = by ((calm_law (log []) changed_log changed_entries (stand (changed ∷ []) ([] ∷ [])) small_tree refl changed_traced).names change settled_entries [] the_file first_change (inl (refl, refl, refl)) no_other waits)
  where
    by : (changes_name (Removed another) the_file ≡ true) ⊎ ((name_waits (log_prefix (log []) 4 changed_log) the_file ≡ true) × IsApart (log_prefix (log []) 4 changed_log) [] []) → ⊥
    by (inl named) = true≢false (sym named)
    by (inr (waited, inl missing)) = cc
    by (inr (waited, inr (number, here, elsewhere))) = elsewhere here

-- A small session in which a file is moved out of a folder, so the premises can be met: at its end the file stands at its target, and nothing where it was.
use Rattle.std.proofs.Common.{◌≡◌, pos, false, List, [], ◌∷◌, refl, sym, ap, inl, Some, None, true≢false}
use Rattle.mc_text.specs.Routes.{Route}
use Rattle.mc_text.specs.declared.kind.Kind.TheVariants.{File}
use Rattle.tree_trait.specs.declared.calls.Meta.{Meta}
use Rattle.tree_trait.specs.Answers.{mount_number}
use Rattle.tree_trait.specs.Change.{Change, Moves, Syncs, CallLog, current}
use Rattle.tree_trait.specs.FileSystem.{Spot, value}
use Rattle.tree_trait.specs.Refusals.{mount_of}
use Rattle.job_reports.specs.declared.job.Job.TheVariants as plan
use Rattle.job_reports.specs.declared.job.Pair.{Pair}
use Rattle.job_reports.specs.declared.report.Did.TheVariants.{Barrier, Ended, Moved}
use Rattle.job_reports.specs.declared.report.Ending.TheVariants.{Finished}
use Rattle.job_reports.specs.Jobs as jobs
use Rattle.job_answers.specs.Decisions.{no_replies}
use Rattle.session_entries.specs.declared.history.Event.TheVariants.{Began, Step}
use Rattle.session_entries.specs.declared.history.Entry.{Entry}
use Rattle.move_job.specs.declared.moving.MovingStage.{MovingStage}
use Rattle.move_job.specs.declared.moving.MovingStage.TheVariants.{Take, SyncTarget, SyncSource, Finish}
use Rattle.move_job.specs.Movings.{Moving}
use Rattle.move_job.specs.Takings.{MayMove}
use Rattle.copy_move.specs.declared.run.Course.TheVariants.{GoesOn}
use Rattle.copy_move.specs.declared.work.Work.TheVariants.{Move}
use Rattle.copy_move.specs.Jobs.{Running}
use Rattle.laws_sessions.specs.Replayed.{replayed_tree}
use Rattle.laws_sessions.specs.Traces.{IsTraced, nothing_live}
use Rattle.laws_sessions.proofs.ExampleParts.{entry, file, own_step, stand}
use Rattle.laws_sessions.proofs.FolderExampleSteps.{first, log, small_tree, top}
use Rattle.laws_outcomes.proofs.Outcome.{outcome_law}

-- the file comes to this name beside the folder in which it is
abbrev pub target : Route
target = (3 ∷ []) ∷ []

abbrev pub pair : Pair
pair = record { source = first; target = target }

abbrev pub root : Route
root = []

abbrev pub at : MovingStage → Moving
at stage = record { pair = pair; stage = stage }

abbrev pub job : MovingStage → Running
job stage = record { id = 1; work = Move (at stage); course = GoesOn; replies = no_replies }

abbrev pub renamed : Change
renamed = Moves 1 (1 ∷ []) 0 (3 ∷ []) 2 None

abbrev pub begun_entries : List Entry
begun_entries = entry 0 (Began 1 (plan.Move (pair ∷ [])) false) ∷ []

begun_traced : IsTraced (log []) begun_entries (stand (job Take ∷ []) []) (log [])
begun_traced = (nothing_live, log [], (refl, refl), record { after = stand (job Take ∷ []) []; leads = record { none_live = refl; after_is = refl; now_is = refl }; stand_is = refl; counts = refl })

-- the file is renamed, and both folders are dirty
abbrev pub moved_entries : List Entry
moved_entries = entry 1 (Step 1 (Moved pair)) ∷ begun_entries

abbrev pub moved_log : CallLog
moved_log = log (renamed ∷ [])

abbrev meta : Meta
meta = (let s = current (log []) in record { kind = File; size = 1; mode = 0o644; mtime = pos 0; mount = mount_number s.mounts (mount_of s first) })

may_move : MayMove (current (log [])) pair no_replies
may_move = record {
  can = record { source = meta; stands = record { there = refl; is = record { kind = refl; size = refl; mode = refl; mtime = refl; mount = refl } } };
  free = inl refl;
}

moved_traced : IsTraced (log []) moved_entries (stand (job SyncTarget ∷ []) (root ∷ top ∷ [])) moved_log
moved_traced =
    own_step (log []) 1 1 (Moved pair) begun_entries (stand (job Take ∷ []) []) (stand (job SyncTarget ∷ []) (root ∷ top ∷ [])) (log []) moved_log (job Take) (job SyncTarget) begun_traced (inl (refl, refl))
    (record {
      tells = (Move (at SyncTarget), (refl, refl, refl), refl);
      called = (may_move, (refl, (pos 0, refl)));
      settled = λ goes fresh kept among. absurd among;
      cleared = λ goes fresh kept among. absurd among;
      leaves = refl;
      walks = (1, 0, 0, tt);
    }) refl refl refl

-- the target's folder is synced, and then the one in which the file was
abbrev pub target_entries : List Entry
target_entries = entry 2 (Step 1 Barrier) ∷ moved_entries

abbrev pub target_log : CallLog
target_log = log (renamed ∷ Syncs 0 ∷ [])

target_traced : IsTraced (log []) target_entries (stand (job SyncSource ∷ []) (top ∷ [])) target_log
target_traced =
    own_step (log []) 1 2 Barrier moved_entries (stand (job SyncTarget ∷ []) (root ∷ top ∷ [])) (stand (job SyncSource ∷ []) (top ∷ [])) moved_log target_log (job SyncTarget) (job SyncSource) moved_traced (inl (refl, refl))
    (record {
      tells = (Move (at SyncSource), (refl, refl), refl);
      called = (refl, (pos 0, refl));
      settled = λ goes fresh. absurd (true≢false (sym fresh));
      cleared = λ goes fresh. absurd (true≢false (sym fresh));
      leaves = refl;
      walks = (1, 0, 0, tt);
    }) refl refl refl

abbrev pub done_entries : List Entry
done_entries = entry 3 (Step 1 Barrier) ∷ target_entries

abbrev pub done_log : CallLog
done_log = log (renamed ∷ Syncs 0 ∷ Syncs 1 ∷ [])

pub done_traced : IsTraced (log []) done_entries (stand (job Finish ∷ []) []) done_log
done_traced =
    own_step (log []) 1 3 Barrier target_entries (stand (job SyncSource ∷ []) (top ∷ [])) (stand (job Finish ∷ []) []) target_log done_log (job SyncSource) (job Finish) target_traced (inl (refl, refl))
    (record {
      tells = (Move (at Finish), (refl, refl), refl);
      called = (refl, (pos 0, refl));
      settled = λ goes fresh. absurd (true≢false (sym fresh));
      cleared = λ goes fresh. absurd (true≢false (sym fresh));
      leaves = refl;
      walks = (1, 0, 0, tt);
    }) refl refl refl

abbrev end : Entry
end = entry 3 (Step 1 (Ended Finished None))

ended_traced : IsTraced (log []) (end ∷ done_entries) (stand [] []) done_log
ended_traced =
    own_step (log []) 1 3 (Ended Finished None) done_entries (stand (job Finish ∷ []) []) (stand [] []) done_log done_log (job Finish) (job Finish) done_traced (inl (refl, refl))
    (record {
      tells = (Move (at Finish), (refl, refl, refl), refl);
      called = refl;
      settled = λ goes fresh. absurd (true≢false (sym fresh));
      cleared = λ goes fresh. absurd (true≢false (sym fresh));
      leaves = refl;
      walks = (0, 0, 0, tt);
    }) refl refl refl

-- so the file stands at its target, and nothing where it was
pub is_moved : ((replayed_tree (log []) done_log done_entries first).value ≡ None) × ((replayed_tree (log []) done_log done_entries target).value ≡ Some (value file))
is_moved =
    let law = outcome_law (log []) done_log (end ∷ done_entries) (stand [] []) small_tree refl ended_traced end done_entries 1 (jobs.Moves first target) (record { ended = refl; its = refl }) (inl (refl, refl, refl)) in
    let went = law.went (λ among. absurd among) [] in
    (ap (λ (s : Spot). s.value) went.0, ap (λ (s : Spot). s.value) went.1)

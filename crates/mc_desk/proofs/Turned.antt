-- A job that is done with a source goes on with the next one, and that is written down.
use Rattle.std.proofs.Common.{◌≡◌, ℕ, ◌≤◌, true, false, List, [], ◌∷◌, length, refl, sym, ◌∙◌, ap, subst, inl, inr, Option, Some, None, arith}
use Rattle.std.specs.Prelude.{option_and_then}
use Rattle.mc_desk.specs.Shown.{none_before}
use Rattle.std.specs.Option.{option_map}
use Rattle.mc_text.specs.Routes.{Route}
use Rattle.tree_trait.specs.Change.{CallLog}
use Rattle.job_reports.specs.declared.job.Job.{Job}
use Rattle.job_reports.specs.declared.report.Did.TheVariants.{Ended}
use Rattle.job_reports.specs.declared.report.Ending.TheVariants.{Finished, NoMemory}
use Rattle.job_reports.specs.Jobs.{is_workable}
use Rattle.session_entries.specs.declared.history.Event.TheVariants.{Next, Step}
use Rattle.session_entries.specs.SourcesLeft.{later as rest_of}
use Rattle.copy_move.specs.declared.run.Course.TheVariants.{Ends, GoesOn}
use Rattle.copy_move.specs.Jobs.{Running, part_of, waits_on}
use Rattle.copy_move.specs.JobStepReports.{OwnStep, RunStep, SyncsOwed, step_made}
use Rattle.copy_move.specs.Told.{if_closed, told_job, turned_job}
use Rattle.copy_move.proofs.Finishing.{Finishes, finish_stays, turned_alike, turned_told}
use Rattle.copy_move.proofs.Telling.{closed_told}
use Rattle.laws_sessions.specs.Traces.{IsJob, IsUnclaimed, WorkLeads, before_others, with_job}
use Rattle.laws_sessions.proofs.Reports.{with_one}
use Rattle.mc_ui.specs.Screens.{Screen}
use Rattle.mc_desk.specs.declared.starts.Start.{Start}
use Rattle.mc_desk.specs.Desks.{IsDesk, Seen, kept_room}
use Rattle.mc_desk.specs.Outputs.{Output}
use Rattle.mc_desk.specs.Tallies.{Tally}
use Rattle.mc_desk.specs.KeysAndFaults.{faults_in}
use Rattle.mc_desk.proofs.Adding.{entry, may_end, same_noted}
use Rattle.mc_desk.proofs.Keeping.{Adds, written_more}
use Rattle.mc_desk.proofs.Ordered.{Never, live_never}
use Rattle.mc_desk.proofs.Showing.{shown_stepping}
use Rattle.mc_desk.proofs.Whole.{desk_gave_up, desk_of}

-- a step of its own, on a tree that tells what it holds
own_leads : (job new : Running) (made : ℕ) (dirty dirty_after : List Route) (log : CallLog) (before after : ℕ)
    → OwnStep IsUnclaimed (step_made job new (Ended Finished None) made dirty dirty_after (Some log) (Some log) before after) → WorkLeads job (Ended Finished None) new dirty dirty_after log log
own_leads job new made dirty dirty_after log before after own = record {
  tells = let s = own.own in s.tells;
  called = let s = own.own in s.called log refl;
  settled = λ goes fresh. own.settled goes fresh log refl;
  cleared = λ goes fresh. own.cleared goes fresh log refl;
  leaves = own.leaves;
  walks = (made, before, after, own.walks);
}

module _ (contents contents_after : Option CallLog) (same : contents_after ≡ contents) (faults : ℕ) (old new : Seen) (seat count : ℕ) (main : seat ≡ 0) where
  pub adds_turned : (live stepped run : Running) (plan : Job) (made before after : ℕ) → old.job ≡ Some live → old.tally.job ≡ option_map told_job old.job → live.course ≡ GoesOn
      → OwnStep IsUnclaimed (step_made live stepped (Ended Finished None) made old.dirty new.dirty contents contents_after before after) → turned_job plan live ≡ Some run → is_workable plan ≡ true
      → new.newest ≡ entry seat old.tally.calls count 0 (Next live.id plan) ∷ old.newest → old.later ≡ plan ∷ new.later → new.job ≡ if_closed old.tally.closed (Some run)
      → new.tally ≡ record old.tally { job = option_map told_job new.job } → old.screen.planned ≡ None → faults_in faults old.newest ≤ count → new.screen ≡ old.screen → new.quit ≡ old.quit → new.out.put ≡ old.out.put
      → Adds contents contents_after faults old new (entry seat old.tally.calls count 0 (Next live.id plan))
  adds_turned live stepped run plan made before after is tells goes own run_is workable more left job tally settled later screen quit put = record {
    turn = (new.later, left);
    left = sym (ap rest_of left);
    draws = record { same = put; none = refl };
    more = more;
    tally = tally
        ∙ ap (λ j. let r : Tally = record old.tally { job = j } in r)
        (ap (option_map told_job) job ∙ (closed_told old.tally.closed (Some run)
        ∙ ap (if_closed old.tally.closed) (sym (ap (option_map told_job) run_is) ∙ (turned_told plan live ∙ sym (ap (λ j. option_and_then (turned_job plan) j) told_is)))));
    told = ap (λ (t : Tally). t.job) tally;
    timely = may_end old settled;
    counts = record { seat = main; later = later; fault = λ h. absurd h; calls = omega arith; most = omega arith };
    leads = (same_noted old new screen quit, (told_job live, told_is, refl, (goes, (live, stepped, refl, (let s = own.own in s.tells)), workable)));
    sought = tt;
    caused = λ log known. tt;
    traced = λ log known. (
      log,
      Some run,
      same ∙ known,
      record {
        job = live;
        its = subst (λ j. IsJob live.id (before_others j []) live) (sym is) (inl (refl, refl));
        over = stepped;
        done = own_leads live stepped made old.dirty new.dirty log before after (
            subst (λ x. OwnStep IsUnclaimed (step_made live stepped (Ended Finished None) made old.dirty new.dirty x (Some log) before after)) known
            (subst (λ x. OwnStep IsUnclaimed (step_made live stepped (Ended Finished None) made old.dirty new.dirty contents x before after)) (same ∙ known) own));
        next = run;
        next_is = run_is;
        jobs_is = sym (with_one live (Some run)) ∙ ap (λ j. with_job live.id (Some run) (before_others j [])) (sym is);
      },
      job,
      (let l : length log.changes ≡ length log.changes = refl in omega (arith, l)),
    );
    unknown = λ none. same ∙ none;
  }
    where
      told_is : old.tally.job ≡ Some (told_job live)
      told_is = tells ∙ ap (option_map told_job) is

-- the step that finishes a source, and the one that goes on, written down
module _ (start : Option Start) (opening contents contents_after : Option CallLog) (faults : ℕ) (old new : Seen) (seat count made calls before after : ℕ) (live stepped : Running) (part : Option Route) (main : seat ≡ 0)
    (desk : IsDesk start opening contents faults old) (is : old.job ≡ Some live) (steps : RunStep IsUnclaimed (step_made live stepped (Ended Finished part) made old.dirty new.dirty contents contents_after before after))
    (had : faults_in faults old.newest ≤ before) (now : after ≤ count) (ready : waits_on live.course ≡ false) where
  abbrev told_is : old.tally.job ≡ Some (told_job live)
  told_is = desk.written.told ∙ ap (option_map told_job) is

  -- no job ends so by order
  never : live.course ≡ Ends Finished → ⊥
  never ends = (subst Never (sym (ap (λ (t : Tally). t.job) desk.written.tally) ∙ told_is) (live_never old.newest)) ends

  pub finished : Finishes live stepped part old.dirty new.dirty contents contents_after
  finished = finish_stays IsUnclaimed live stepped part made old.dirty new.dirty contents contents_after before after never steps

  -- it is a step of the job's own, which tells no part
  own : OwnStep IsUnclaimed (step_made live stepped (Ended Finished None) made old.dirty new.dirty contents contents_after before after)
  own = subst (λ p. OwnStep IsUnclaimed (step_made live stepped (Ended Finished p) made old.dirty new.dirty contents contents_after before after)) (let f = finished in f.none) (by steps)
    where
      by : RunStep IsUnclaimed (step_made live stepped (Ended Finished part) made old.dirty new.dirty contents contents_after before after)
          → OwnStep IsUnclaimed (step_made live stepped (Ended Finished part) made old.dirty new.dirty contents contents_after before after)
      by (inl o) = o
      by (inr s) = absurd (not_synced s.path s.synced)
        where
          not_synced : (path : Route) → SyncsOwed live path (Ended Finished part) stepped old.dirty new.dirty contents contents_after → ⊥
          not_synced path (inl h) = (let e = h.did_is in let f : ⊥ = cc in f)
          not_synced path (inr h) = (let e = h.did_is in let f : ⊥ = cc in f)

  same_contents : contents_after ≡ contents
  same_contents = by contents refl
    where
      by : (c : Option CallLog) → contents ≡ c → contents_after ≡ contents
      by None none = (let s = own.own in s.unknown none) ∙ sym none
      by (Some log) known = (let f = finished in f.log log known) ∙ sym known

  counted : faults_in faults old.newest ≤ count
  counted = (let s = own.own in let l = s.later in omega (arith, l, had, now))

  pub desk_turned : (plan : Job) (run : Running) → turned_job plan stepped ≡ Some run → is_workable plan ≡ true → calls ≡ old.tally.calls → new.newest ≡ entry seat calls count 0 (Next live.id plan) ∷ old.newest → old.later ≡ plan ∷ new.later
      → new.job ≡ if_closed old.tally.closed (Some run) → new.tally ≡ record old.tally { job = option_map told_job new.job } → new.screen ≡ old.screen → new.quit ≡ old.quit → 2 ≤ new.spare → new.out ≡ old.out
      → IsDesk start opening contents_after faults new
  desk_turned plan run run_is workable all more left job tally screen quit room out =
      let f = finished in
      desk_of start opening contents_after faults new
      (written_more faults old new _ start opening contents contents_after desk.written
      (adds_turned contents contents_after same_contents faults old new seat count main live stepped run plan made before after is desk.written.told f.goes own
      (sym (turned_alike plan live stepped f.number f.replies) ∙ run_is) workable (more ∙ ap (λ n. entry seat n count 0 (Next live.id plan) ∷ old.newest) all) left job tally desk.settled counted screen quit
      (ap (λ (o : Output). o.put) out)))
      (ap (λ (s : Screen). s.planned) screen ∙ desk.settled) (λ h. ap (λ (t : Tally). t.closed) tally ∙ desk.lost (sym (ap (λ (t : Tally). t.lost) tally) ∙ h))
      (λ h. ap (λ (t : Tally). t.due) tally ∙ desk.asked (sym quit ∙ h))
      (λ h. ap (λ (t : Tally). t.due) tally ∙ desk.shut (sym (ap (λ (t : Tally). t.closed) tally) ∙ h)) room
      (shown_stepping old new live desk.shown desk.written.tally told_is ready (ap (λ (t : Tally). t.closed) tally) (ap (λ (t : Tally). t.due) tally) out screen (ap none_before more))

-- There is no memory to go on after a step that left all as it was: that which finished a source, or told that a folder is merged.
pub desk_short : (start : Option Start) (opening contents contents_after : Option CallLog) (faults : ℕ) (old new : Seen) (seat count calls before after : ℕ) (live stepped : Running) → seat ≡ 0 → IsDesk start opening contents faults old
    → old.job ≡ Some live → Finishes live stepped None old.dirty new.dirty contents contents_after → (contents ≡ None → contents_after ≡ None) → faults_in faults old.newest ≤ before → before ≤ after → after ≤ count → waits_on live.course ≡ false
    → calls ≡ old.tally.calls → new.newest ≡ entry seat calls count 0 (Step live.id (Ended NoMemory (part_of stepped.work))) ∷ old.newest → new.job ≡ None
    → new.tally ≡ record old.tally { job = None; has_unseen_end = true } → new.screen ≡ old.screen → new.quit ≡ old.quit → kept_room old.tally.closed None ≤ new.spare → new.later ≡ [] → new.out ≡ old.out
    → IsDesk start opening contents_after faults new
desk_short start opening contents contents_after faults old new seat count calls before after live stepped main desk is f unknown had rises now ready all more job tally screen quit room left out =
    desk_gave_up start opening contents contents_after faults old new seat count live (part_of stepped.work) (by contents refl) main desk is ready f.stays (omega (arith, had, rises, now))
    (more ∙ ap (λ n. entry seat n count 0 (Step live.id (Ended NoMemory (part_of stepped.work))) ∷ old.newest) all) job tally screen quit room f.list left out
  where
    by : (c : Option CallLog) → contents ≡ c → contents_after ≡ contents
    by None none = unknown none ∙ sym none
    by (Some log) known = f.log log known ∙ sym known

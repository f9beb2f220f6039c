-- The entries of a desk, one kind at a time: each may follow.
use Rattle.std.proofs.Common.{◌≡◌, ◌⊎◌, ℕ, ◌+◌, ◌-◌, ◌≤◌, Bool, true, false, ◌||◌, List, [], ◌∷◌, length, refl, sym, ◌∙◌, ap, subst, inl, inr, Option, Some, None, IsSome, arith}
use Rattle.std.specs.Prelude.{if◌then◌else◌, map, option_and_then}
use Rattle.std.specs.Option.{option_map, option_map_or}
use Rattle.std.proofs.lemmas.Bool.{eq-eqb}
use Rattle.key_screen.specs.declared.keys.Key.{Key as KeyType}
use Rattle.mc_text.specs.Routes.{Route}
use Rattle.tree_trait.specs.Change.{CallLog}
use Rattle.tree_trait.specs.Answers.{IfKnown, HasRisen}
use Rattle.job_reports.specs.CallRuns.{HasMore}
use Rattle.job_reports.specs.declared.report.Did.{Did}
use Rattle.job_reports.specs.declared.report.Did.TheVariants.{Began as BeganPart, Chunk, Placed, Removed, Made, Set, Kept, Skipped, Cleaned, Barrier, Asked, Merges, Moved, Troubled, Ended}
use Rattle.job_reports.specs.declared.report.Trouble.{Trouble}
use Rattle.job_reports.specs.declared.report.Ending.TheVariants.{Finished, Aborted, Killed, NoMemory}
use Rattle.session_entries.specs.declared.history.Entry.{Entry}
use Rattle.session_entries.specs.declared.history.Event.{Event}
use Rattle.session_entries.specs.declared.history.Event.TheVariants.{Key, Look, Sought, Began, Order, Step, Closed}
use Rattle.session_entries.specs.declared.history.JobOrder.TheVariants.{Answered}
use Rattle.job_reports.specs.declared.answer.Answer.{Answer}
use Rattle.job_reports.specs.declared.job.Job.{Job}
use Rattle.session_entries.specs.declared.refusal.Refusal.{Refusal}
use Rattle.copy_move.specs.Jobs.{Running, answered_job, begun_work, closed_job, part_of, waits_on}
use Rattle.job_reports.specs.Reports.{ends}
use Rattle.copy_move.specs.Told.{after_step, if_closed, running, told_job}
use Rattle.copy_move.specs.declared.work.Work.{Work}
use Rattle.copy_move.specs.declared.run.Course.TheVariants.{OwedSyncFailed}
use Rattle.copy_move.specs.JobStepReports.{OwnStep, RunStep, OwedSyncStep, SyncsOwed, step_made}
use Rattle.session_entries.specs.Refusals.{AreRefused}
use Rattle.laws_sessions.specs.Traces.{IsUnclaimed, EventLeads, IsJob, Stand, StepLeads, before_others, begun_jobs, ordered_job, with_job}
use Rattle.copy_move.proofs.OwedSyncs.{owed_tells}
use Rattle.copy_move.proofs.StillTelling.{StillTells, step_tells}
use Rattle.copy_move.proofs.Telling.{answered_told, began_told, closed_told, fresh_told, step_told, sync_told}
use Rattle.laws_sessions.proofs.Owing.{step_law}
use Rattle.laws_sessions.proofs.Reports.{with_one}
use Rattle.session_entries.specs.Sources.{are_workable, sources_of}
use Rattle.session_entries.specs.SourcesLeft.{IsInTurn, later as rest_of, left_by}
use Rattle.ui_job_boxes.specs.LiveJobs.{takes_answer}
use Rattle.mc_ui.specs.Screens.{Begins, Answers, Ends, LookLeads, Screen}
use Rattle.ui_plans.specs.Refused.{has_fault}
use Rattle.session_log.specs.Told.{news_left, waits_told}
use Rattle.mc_desk.specs.Tallies.{Tally, can_step, end_unseen_event, next_id}
use Rattle.mc_desk.specs.KeysAndFaults.{faults_in}
use Rattle.mc_desk.specs.Desks.{Seen, noted_screen, stand_of, stand_with, with_end}
use Rattle.mc_desk.specs.LiveRows.{row_of, rows_told}
use Rattle.mc_desk.specs.Granting.{KeyWorks}
use Rattle.mc_ui.specs.Seekings.{is_seeking}
use Rattle.mc_desk.specs.Searches.{HasSought}
use Rattle.mc_desk.specs.Redrawing.{asks_anew}
use Rattle.mc_desk.specs.Shown.{DrawsFrame, PutsNothing, frame_due, none_before}
use Rattle.mc_desk.specs.Sessions.{MayEnd, MayWork, StepFault}
use Rattle.job_sources.specs.Turning.{finishes}
use Rattle.mc_desk.proofs.Answering.{part_told, waiting_told}
use Rattle.mc_desk.proofs.Keeping.{Adds, Leads, before}

abbrev pub entry : ℕ → ℕ → ℕ → ℕ → Event → Entry
entry seat calls faults shown what = record { seat = seat; calls = calls; faults = faults; shown = shown; what = what }

-- what is open stays as it is where a session is not closed
open_tally : (t : Tally) → t.closed ≡ false → t ≡ (let r : Tally = record t { job = if_closed t.closed t.job } in r)
open_tally t unclosed = ap (λ b. let r : Tally = record t { job = if_closed b t.job } in r) (sym unclosed)

open_job : (closed : Bool) (job : Option Running) → closed ≡ false → job ≡ if_closed closed job
open_job closed job unclosed = ap (λ b. if_closed b job) (sym unclosed)

-- where the end wasn't asked for, nothing is noted on the screen
pub unasked_screen : (desk : Seen) → desk.quit ≡ false → noted_screen desk ≡ desk.screen
unasked_screen desk unasked = ap (λ b. with_end b desk.screen) unasked

-- what is noted stays
pub same_noted : (old new : Seen) → new.screen ≡ old.screen → new.quit ≡ old.quit → noted_screen new ≡ noted_screen old
same_noted old new screen quit = ap (λ b. with_end b new.screen) quit ∙ ap (with_end old.quit) screen

-- nothing else waits than the end
pub may_end : (desk : Seen) → desk.screen.planned ≡ None → MayEnd (noted_screen desk).planned
may_end desk settled = go desk.quit
  where
    go : (b : Bool) → MayEnd (with_end b desk.screen).planned
    go true = inr refl
    go false = inl settled

-- the screen has noted whether the end was asked for
pub end_noted : (quit : Bool) (screen : Screen) → screen.planned ≡ None → (with_end quit screen).planned ≡ (if quit then Some Ends else None)
end_noted true screen settled = refl
end_noted false screen settled = settled

unplanned : (desk : Seen) → desk.quit ≡ false → desk.screen.planned ≡ None → (noted_screen desk).planned ≡ None
unplanned desk unasked settled = ap (λ (s : Screen). s.planned) (unasked_screen desk unasked) ∙ settled

-- what was asked for is carried out
carried_out : (old new : Seen) → new.screen ≡ (let s : Screen = record old.screen { planned = None } in s) → new.quit ≡ old.quit → old.quit ≡ false
    → noted_screen new ≡ (let s : Screen = record (noted_screen old) { planned = None } in s)
carried_out old new screen quit unasked =
    unasked_screen new (quit ∙ unasked) ∙ (screen ∙ ap (λ (s : Screen). let c : Screen = record s { planned = None } in c) (sym (unasked_screen old unasked)))

module _ (contents contents_after : Option CallLog) (same : contents_after ≡ contents) where
  same_log : (log now : CallLog) → contents ≡ Some log → contents_after ≡ Some now → now ≡ log
  same_log log now known is = let both : Some now ≡ Some log = sym is ∙ (same ∙ known) in cc

  still_unknown : contents ≡ None → contents_after ≡ None
  still_unknown none = same ∙ none

  -- an entry that makes no changing call
  leads_on : (old new : Seen) (e : Entry) (after : Option Running) → e.calls ≡ old.tally.calls → ((log : CallLog) → contents ≡ Some log → EventLeads (stand_of old) e.what (stand_with after new.dirty) log log)
      → new.job ≡ if_closed (Rattle.session_entries.specs.Entries.closes e.what || old.tally.closed) after → Leads contents contents_after old new e
  leads_on old new e after calls leads job log known = (log, after, same ∙ known, leads log known, job, (let l : length log.changes ≡ length log.changes = refl in omega (arith, calls)))

  -- nor changes where the session stands
  leads_still : (old new : Seen) (e : Entry) → e.calls ≡ old.tally.calls → new.dirty ≡ old.dirty → ((log : CallLog) → stand_with old.job new.dirty ≡ stand_of old → EventLeads (stand_of old) e.what (stand_with old.job new.dirty) log log)
      → new.job ≡ if_closed (Rattle.session_entries.specs.Entries.closes e.what || old.tally.closed) old.job → Leads contents contents_after old new e
  leads_still old new e calls dirty leads job = leads_on old new e old.job calls (λ log known. leads log (ap (stand_with old.job) dirty)) job

-- a job that was begun is the one that is live
begins : (id : ℕ) (plan : Job) (run : Running) (old new : Seen) → option_map (running id) (begun_work id (sources_of plan)) ≡ Some run → new.dirty ≡ old.dirty
    → stand_with (Some run) new.dirty ≡ record (stand_of old) { jobs = begun_jobs id plan }
begins id plan run old new started dirty =
    ap (stand_with (Some run)) dirty ∙ ap (λ jobs. let s : Stand = record { jobs = jobs; dirty = old.dirty } in s) (sym (one (begun_work id (sources_of plan)) started))
  where
    one : (work : Option Work) → option_map (running id) work ≡ Some run → option_map_or (λ w. running id w ∷ []) work [] ≡ run ∷ []
    one None is = absurd cc
    one (Some work) is = let same : running id work ≡ run = cc in ap (λ j. j ∷ []) same

-- it is told whole
began_first : (id : ℕ) (sources : List Job) → option_map told_job (option_map (running id) (begun_work id sources)) ≡ option_map (running id) (begun_work id sources)
began_first id [] = refl
began_first id (source ∷ more) = began_told id source

-- a job is told to be finished only where no source is left
in_turn : (id : ℕ) (did : Did) (left : List Job) → (finishes did ≡ true → left ≡ []) → IsInTurn (Step id did) left
in_turn id (Ended Finished part) left h = h refl
in_turn id (Ended Aborted part) left h = tt
in_turn id (Ended Killed part) left h = tt
in_turn id (Ended NoMemory part) left h = tt
in_turn id (BeganPart part) left h = tt
in_turn id (Chunk bytes) left h = tt
in_turn id (Asked question) left h = tt
in_turn id (Merges transfer pair names) left h = tt
in_turn id (Moved pair) left h = tt
in_turn id (Set path) left h = tt
in_turn id (Placed path) left h = tt
in_turn id (Removed path) left h = tt
in_turn id (Made made) left h = tt
in_turn id (Kept kept) left h = tt
in_turn id (Skipped path cause) left h = tt
in_turn id (Cleaned part) left h = tt
in_turn id Barrier left h = tt
in_turn id (Troubled trouble) left h = tt

-- the live job is the one that was ordered
answers : (answer : Answer) (live : Running) (old new : Seen) → old.job ≡ Some live → new.dirty ≡ old.dirty
    → stand_with (Some (answered_job answer live)) new.dirty ≡ record (stand_of old) { jobs = map (ordered_job live.id (Answered answer)) (before_others old.job []) }
answers answer live old new is dirty =
    ap (stand_with (Some (answered_job answer live))) dirty
    ∙ (ap (λ b. let s : Stand = record { jobs = (if b then answered_job answer live else live) ∷ []; dirty = old.dirty } in s) (sym (eq-eqb live.id live.id refl))
    ∙ ap (λ j. let s : Stand = record { jobs = map (ordered_job live.id (Answered answer)) (before_others j []); dirty = old.dirty } in s) (sym is))

-- the live job is the one that made the step
steps : (old new : Seen) (live : Running) (did : Did) (after : Option Running) (log now : CallLog) → old.job ≡ Some live → StepLeads live did after old.dirty new.dirty log now
    → EventLeads (stand_of old) (Step live.id did) (stand_with after new.dirty) log now
steps old new live did after log now is leads = record {
  job = live;
  its = subst (λ j. IsJob live.id (before_others j []) live) (sym is) (inl (refl, refl));
  new = after;
  leads = leads;
  jobs_is = sym (with_one live after) ∙ ap (λ j. with_job live.id after (before_others j [])) (sym is);
}

module _ (contents contents_after : Option CallLog) (faults : ℕ) (old new : Seen) (seat count shown : ℕ) (main : seat ≡ 0) where
  -- a key that was worked
  pub adds_key : (key : KeyType) (now : ℕ) (refusals : List Refusal) → new.newest ≡ entry seat old.tally.calls count shown (Key key now refusals false) ∷ old.newest → new.tally ≡ old.tally → new.job ≡ old.job
      → new.tally.job ≡ option_map told_job new.job → old.tally.closed ≡ false → old.tally.due ≡ None → MayWork key old.screen → old.tally.lost ≡ false → old.screen.planned ≡ None → contents_after ≡ contents
      → faults_in faults old.newest ≤ count → (has_fault refusals ≡ true → HasRisen (faults_in faults old.newest) count) → IfKnown contents (λ log. AreRefused log refusals)
      → KeyWorks contents (rows_told old.newest) (next_id old.tally.last) now key refusals (noted_screen old) (noted_screen new) → old.quit ≡ false → new.dirty ≡ old.dirty → new.later ≡ old.later
      → DrawsFrame (asks_anew key || none_before old.newest) (frame_due (noted_screen new) (next_id old.tally.last) (rows_told old.newest)) shown old.out.put new.out.put
      → Adds contents contents_after faults old new (entry seat old.tally.calls count shown (Key key now refusals false))
  adds_key key now refusals more tally job tells unclosed looked sought unlost settled same later fault refused leads unasked dirty left draws = record {
    turn = tt;
    left = left;
    draws = draws;
    more = more;
    tally = tally ∙ open_tally old.tally unclosed;
    told = tells;
    timely = unplanned old unasked settled;
    counts = record { seat = main; later = later; fault = fault; calls = omega arith; most = omega arith };
    leads = (record { unclosed = unclosed; looked = looked; sought = subst (MayWork key) (sym (unasked_screen old unasked)) sought; unlost = unlost }, leads);
    sought = tt;
    caused = refused;
    traced = leads_still contents contents_after same old new (entry seat old.tally.calls count shown (Key key now refusals false)) refl dirty (λ log stays. record { after_is = stays; now_is = refl }) (job ∙ open_job old.tally.closed old.job unclosed);
    unknown = still_unknown contents contents_after same;
  }

  -- a key that was lost
  pub adds_lost : (key : KeyType) (now : ℕ) → new.newest ≡ entry seat old.tally.calls count shown (Key key now [] true) ∷ old.newest
      → new.tally ≡ record old.tally { lost = true } → new.job ≡ old.job → new.tally.job ≡ option_map told_job new.job
      → old.tally.closed ≡ false → old.tally.due ≡ None → MayWork key old.screen → old.tally.lost ≡ false → old.screen.planned ≡ None → contents_after ≡ contents
      → faults_in faults old.newest ≤ count → new.screen ≡ old.screen → new.quit ≡ old.quit → old.quit ≡ false → new.dirty ≡ old.dirty → new.later ≡ old.later → PutsNothing shown old.out.put new.out.put
      → Adds contents contents_after faults old new (entry seat old.tally.calls count shown (Key key now [] true))
  adds_lost key now more tally job tells unclosed looked sought unlost settled same later screen quit unasked dirty left put = record {
    turn = tt;
    left = left;
    draws = put;
    more = more;
    tally = tally ∙ ap (λ b. let r : Tally = record old.tally { job = if_closed b old.tally.job; lost = true } in r) (sym unclosed);
    told = tells;
    timely = unplanned old unasked settled;
    counts = record { seat = main; later = later; fault = λ h. absurd cc; calls = omega arith; most = omega arith };
    leads = (record { unclosed = unclosed; looked = looked; sought = subst (MayWork key) (sym (unasked_screen old unasked)) sought; unlost = unlost }, refl, same_noted old new screen quit);
    sought = tt;
    caused = λ log known. tt;
    traced = leads_still contents contents_after same old new (entry seat old.tally.calls count shown (Key key now [] true)) refl dirty (λ log stays. record { after_is = stays; now_is = refl }) (job ∙ open_job old.tally.closed old.job unclosed);
    unknown = still_unknown contents contents_after same;
  }

  -- a look
  pub adds_look : (now : ℕ) (refusals : List Refusal) → new.newest ≡ entry seat old.tally.calls count shown (Look refusals) ∷ old.newest
      → new.tally ≡ record old.tally { has_unseen_end = false; due = if can_step old.tally.job then old.tally.due else None } → new.job ≡ old.job → new.tally.job ≡ option_map told_job new.job
      → old.tally.closed ≡ false → IsSome old.tally.due → old.screen.planned ≡ None → contents_after ≡ contents
      → faults_in faults old.newest ≤ count → (has_fault refusals ≡ true → HasRisen (faults_in faults old.newest) count) → IfKnown contents (λ log. AreRefused log refusals)
      → LookLeads contents (rows_told old.newest) now old.tally.has_unseen_end (news_left old.newest) refusals old.screen new.screen → new.quit ≡ old.quit → old.quit ≡ false → new.dirty ≡ old.dirty → new.later ≡ old.later
      → DrawsFrame (none_before old.newest) (frame_due (noted_screen new) (next_id old.tally.last) (rows_told old.newest)) shown old.out.put new.out.put
      → Adds contents contents_after faults old new (entry seat old.tally.calls count shown (Look refusals))
  adds_look now refusals more tally job tells unclosed is_due settled same later fault refused leads quit unasked dirty left draws = record {
    turn = tt;
    left = left;
    draws = draws;
    more = more;
    tally = tally
        ∙ ap (λ b. let r : Tally = record old.tally { job = if_closed b old.tally.job; has_unseen_end = false; due = if can_step old.tally.job then old.tally.due else None } in r) (sym unclosed);
    told = tells;
    timely = unplanned old unasked settled;
    counts = record { seat = main; later = later; fault = fault; calls = omega arith; most = omega arith };
    leads = (
      unclosed,
      is_due,
      (
        now,
        subst (λ s. LookLeads contents (rows_told old.newest) now old.tally.has_unseen_end (news_left old.newest) refusals s (noted_screen new)) (sym (unasked_screen old unasked))
            (subst (λ s. LookLeads contents (rows_told old.newest) now old.tally.has_unseen_end (news_left old.newest) refusals old.screen s) (sym (unasked_screen new (quit ∙ unasked))) leads),
      ),
    );
    sought = tt;
    caused = refused;
    traced = leads_still contents contents_after same old new (entry seat old.tally.calls count shown (Look refusals)) refl dirty (λ log stays. record { after_is = stays; now_is = refl }) (job ∙ open_job old.tally.closed old.job unclosed);
    unknown = still_unknown contents contents_after same;
  }

  -- steps of a search
  pub adds_sought : new.newest ≡ entry seat old.tally.calls count shown Sought ∷ old.newest → new.tally ≡ old.tally → new.job ≡ old.job → new.tally.job ≡ option_map told_job new.job
      → old.tally.closed ≡ false → old.tally.due ≡ None → is_seeking old.screen ≡ true → old.screen.planned ≡ None → contents_after ≡ contents
      → (from : ℕ) → faults_in faults old.newest ≤ from → from ≤ count → HasSought contents from count old.screen new.screen → new.quit ≡ old.quit → old.quit ≡ false → new.dirty ≡ old.dirty → new.later ≡ old.later
      → DrawsFrame (none_before old.newest) (frame_due (noted_screen new) (next_id old.tally.last) (rows_told old.newest)) shown old.out.put new.out.put
      → Adds contents contents_after faults old new (entry seat old.tally.calls count shown Sought)
  adds_sought more tally job tells unclosed looked seeking settled same from had later made quit unasked dirty left draws = record {
    turn = tt;
    left = left;
    draws = draws;
    more = more;
    tally = tally ∙ open_tally old.tally unclosed;
    told = tells;
    timely = unplanned old unasked settled;
    counts = record { seat = main; later = omega (arith, had, later); fault = λ h. absurd h; calls = omega arith; most = omega arith };
    leads = (unclosed, looked, ap is_seeking (unasked_screen old unasked) ∙ seeking);
    sought = (
      from,
      had,
      subst (λ s. HasSought contents from count s (noted_screen new)) (sym (unasked_screen old unasked))
          (subst (λ s. HasSought contents from count old.screen s) (sym (unasked_screen new (quit ∙ unasked))) made),
    );
    caused = λ log known. tt;
    traced = leads_still contents contents_after same old new (entry seat old.tally.calls count shown Sought) refl dirty (λ log stays. record { after_is = stays; now_is = refl }) (job ∙ open_job old.tally.closed old.job unclosed);
    unknown = still_unknown contents contents_after same;
  }

  -- a job that was begun
  pub adds_began : (id : ℕ) (plan : Job) (background : Bool) (run : Running) → new.newest ≡ entry seat old.tally.calls count 0 (Began id plan background) ∷ old.newest
      → option_map (running id) (begun_work id (sources_of plan)) ≡ Some run → new.job ≡ Some run → new.tally ≡ record old.tally { job = Some (told_job run); last = id; due = Some id }
      → old.tally.closed ≡ false → rows_told old.newest ≡ [] → are_workable plan ≡ true → old.screen.planned ≡ Some (Begins plan background) → contents_after ≡ contents → faults_in faults old.newest ≤ count
      → next_id old.tally.last ≡ Some id → new.screen ≡ record old.screen { planned = None } → new.quit ≡ old.quit → old.quit ≡ false → old.job ≡ None → new.dirty ≡ old.dirty → new.later ≡ rest_of (sources_of plan) → new.out.put ≡ old.out.put
      → Adds contents contents_after faults old new (entry seat old.tally.calls count 0 (Began id plan background))
  adds_began id plan background run more started job tally unclosed idle workable planned same later id_is screen quit unasked none dirty left put = record {
    turn = tt;
    left = left;
    draws = record { same = put; none = refl };
    more = more;
    tally = tally
        ∙ (ap (λ j. let r : Tally = record old.tally { job = j; last = id; due = Some id } in r) told_then
        ∙ ap (λ b. let r : Tally = record old.tally { job = if_closed b (option_map (running id) (begun_work id (sources_of plan))); last = id; due = Some id } in r) (sym unclosed));
    told = ap (λ (t : Tally). t.job) tally ∙ sym (ap (option_map told_job) job);
    timely = tt;
    counts = record { seat = main; later = later; fault = λ h. absurd h; calls = omega arith; most = omega arith };
    leads = record {
      asked = ap (λ (s : Screen). s.planned) (unasked_screen old unasked) ∙ planned;
      idle = idle;
      workable = workable;
      number = id_is;
      carried_out = carried_out old new screen quit unasked;
    };
    sought = tt;
    caused = λ log known. tt;
    traced = leads_on contents contents_after same old new (entry seat old.tally.calls count 0 (Began id plan background)) (Some run) refl
        (λ log known. record { none_live = ap (λ j. before_others j []) none; after_is = begins id plan run old new started dirty; now_is = refl }) (job ∙ open_job old.tally.closed (Some run) unclosed);
    unknown = still_unknown contents contents_after same;
  }
    where
      told_then : Some (told_job run) ≡ option_map (running id) (begun_work id (sources_of plan))
      told_then = sym (ap (option_map told_job) started) ∙ began_first id (sources_of plan)

  -- a trouble that was answered
  pub adds_order : (answer : Answer) (live : Running) → new.newest ≡ entry seat old.tally.calls count 0 (Order live.id (Answered answer)) ∷ old.newest
      → old.job ≡ Some live → rows_told old.newest ≡ row_of live (waits_told old.newest) ∷ [] → takes_answer (row_of live (waits_told old.newest)) answer ≡ true → old.tally.job ≡ option_map told_job old.job
      → new.job ≡ Some (answered_job answer live)
      → new.tally ≡ record old.tally { job = Some (told_job (answered_job answer live)); due = Some live.id }
      → old.tally.closed ≡ false → old.screen.planned ≡ Some (Answers answer) → contents_after ≡ contents → faults_in faults old.newest ≤ count
      → new.screen ≡ record old.screen { planned = None } → new.quit ≡ old.quit → old.quit ≡ false → new.dirty ≡ old.dirty → new.later ≡ old.later → new.out.put ≡ old.out.put
      → Adds contents contents_after faults old new (entry seat old.tally.calls count 0 (Order live.id (Answered answer)))
  adds_order answer live more is rows takes tells job tally unclosed planned same later screen quit unasked dirty left put = record {
    turn = tt;
    left = left;
    draws = record { same = put; none = refl };
    more = more;
    tally = tally
        ∙ (ap (λ j. let r : Tally = record old.tally { job = j; due = Some live.id } in r) (ap Some (answered_told answer live) ∙ sym (ap (option_map (answered_job answer)) told_is))
        ∙ (ap (λ d. let r : Tally = record old.tally { job = option_map (answered_job answer) old.tally.job; due = d } in r) (sym (ap (option_map (λ (j : Running). j.id)) told_is))
        ∙ ap (λ b. let r : Tally = record old.tally { job = if_closed b (option_map (answered_job answer) old.tally.job); due = option_map (λ (j : Running). j.id) old.tally.job } in r) (sym unclosed)));
    told = ap (λ (t : Tally). t.job) tally ∙ sym (ap (option_map told_job) job);
    timely = tt;
    counts = record { seat = main; later = later; fault = λ h. absurd h; calls = omega arith; most = omega arith };
    leads = record {
      asked = ap (λ (s : Screen). s.planned) (unasked_screen old unasked) ∙ planned;
      row = row_of live (waits_told old.newest);
      live = rows;
      number = refl;
      fits = takes;
      carried_out = carried_out old new screen quit unasked;
    };
    sought = tt;
    caused = λ log known. tt;
    traced = leads_on contents contents_after same old new (entry seat old.tally.calls count 0 (Order live.id (Answered answer))) (Some (answered_job answer live)) refl
        (λ log known. record { after_is = answers answer live old new is dirty; now_is = refl }) (job ∙ open_job old.tally.closed (Some (answered_job answer live)) unclosed);
    unknown = still_unknown contents contents_after same;
  }
    where
      told_is : old.tally.job ≡ Some (told_job live)
      told_is = tells ∙ ap (option_map told_job) is

  -- the end of keys
  pub adds_closed : new.newest ≡ entry seat old.tally.calls count 0 Closed ∷ old.newest
      → new.tally ≡ record old.tally { job = option_map closed_job old.tally.job; closed = true; due = None } → new.job ≡ option_map closed_job old.job → new.tally.job ≡ option_map told_job new.job
      → old.screen.planned ≡ None → contents_after ≡ contents → faults_in faults old.newest ≤ count → new.screen ≡ old.screen → new.quit ≡ old.quit → new.dirty ≡ old.dirty → new.later ≡ old.later → new.out.put ≡ old.out.put
      → Adds contents contents_after faults old new (entry seat old.tally.calls count 0 Closed)
  adds_closed more tally job tells settled same later screen quit dirty left put = record {
    turn = tt;
    left = left;
    draws = record { same = put; none = refl };
    more = more;
    tally = tally;
    told = tells;
    timely = may_end old settled;
    counts = record { seat = main; later = later; fault = λ h. absurd h; calls = omega arith; most = omega arith };
    leads = same_noted old new screen quit;
    sought = tt;
    caused = λ log known. tt;
    traced = leads_still contents contents_after same old new (entry seat old.tally.calls count 0 Closed) refl dirty (λ log stays. record { after_is = stays; now_is = refl }) job;
    unknown = still_unknown contents contents_after same;
  }

  unseen_step : (id : ℕ) (did : Did) (b : Bool) → (ends did || b) ≡ end_unseen_event (Step id did) b
  unseen_step id (BeganPart part) b = refl
  unseen_step id (Chunk bytes) b = refl
  unseen_step id (Asked question) b = refl
  unseen_step id (Merges transfer pair names) b = refl
  unseen_step id (Moved pair) b = refl
  unseen_step id (Set path) b = refl
  unseen_step id (Placed path) b = refl
  unseen_step id (Removed path) b = refl
  unseen_step id (Made made) b = refl
  unseen_step id (Kept kept) b = refl
  unseen_step id (Skipped path cause) b = refl
  unseen_step id (Cleaned part) b = refl
  unseen_step id Barrier b = refl
  unseen_step id (Troubled trouble) b = refl
  unseen_step id (Ended ending part) b = refl

  stepped_tally : (t : Tally) (job job' : Option Running) (has_unseen_end has_unseen_end' : Bool) (calls : ℕ) → job ≡ job' → has_unseen_end ≡ has_unseen_end'
      → (let r : Tally = record t { job = job; has_unseen_end = has_unseen_end; calls = calls } in r) ≡ record t { job = job'; has_unseen_end = has_unseen_end'; calls = calls }
  stepped_tally t job job' has_unseen_end has_unseen_end' calls p q =
      ap (λ j. let r : Tally = record t { job = j; has_unseen_end = has_unseen_end; calls = calls } in r) p ∙ ap (λ u. let r : Tally = record t { job = job'; has_unseen_end = u; calls = calls } in r) q

  -- what a step says of the tree, once that goes on telling
  step_traced : (live stepped : Running) (did : Did) (made calls before after : ℕ) → old.job ≡ Some live → RunStep IsUnclaimed (step_made live stepped did made old.dirty new.dirty contents contents_after before after)
      → calls ≡ old.tally.calls + made → new.job ≡ if_closed old.tally.closed (if ends did then None else Some stepped) → (counted : IfKnown contents (λ log. IfKnown contents_after (HasMore log made)))
      → ((log : CallLog) → contents ≡ Some log → StillTells contents_after) → Leads contents contents_after old new (entry seat calls count 0 (Step live.id did))
  step_traced live stepped did made calls before after is run calls_is job counted tells log known =
      let here = tells log known in
      let more = counted log known here.0 here.1 in (
        here.0,
        (if ends did then None else Some stepped),
        here.1,
        steps old new live did (if ends did then None else Some stepped) log here.0 is
            (step_law live stepped did made old.dirty new.dirty log here.0 before after
            (subst (λ x. RunStep IsUnclaimed (step_made live stepped did made old.dirty new.dirty x (Some here.0) before after)) known
            (subst (λ x. RunStep IsUnclaimed (step_made live stepped did made old.dirty new.dirty contents x before after)) here.1 run))),
        job,
        omega (arith, more, calls_is),
      )

  -- a step of the job's own
  pub adds_step : (live stepped : Running) (did : Did) (made calls before after : ℕ) → old.job ≡ Some live → old.tally.job ≡ option_map told_job old.job
      → OwnStep IsUnclaimed (step_made live stepped did made old.dirty new.dirty contents contents_after before after) → calls ≡ old.tally.calls + made
      → new.newest ≡ entry seat calls count 0 (Step live.id did) ∷ old.newest
      → new.job ≡ if_closed old.tally.closed (if ends did then None else Some stepped)
      → new.tally ≡ record old.tally { job = option_map told_job new.job; has_unseen_end = ends did || old.tally.has_unseen_end; calls = calls }
      → old.screen.planned ≡ None → faults_in faults old.newest ≤ before → after ≤ count → new.screen ≡ old.screen → new.quit ≡ old.quit → new.out.put ≡ old.out.put
      → (finishes did ≡ true → old.later ≡ []) → new.later ≡ left_by did old.later
      → Adds contents contents_after faults old new (entry seat calls count 0 (Step live.id did))
  adds_step live stepped did made calls before after is tells o calls_is more job tally settled had now screen quit put turn left =
      let s = o.own in
      record {
        turn = in_turn live.id did old.later turn;
        left = left;
        draws = record { same = put; none = refl };
        more = more;
        tally = tally ∙ stepped_tally old.tally _ _ _ _ calls
            (ap (option_map told_job) job ∙ (closed_told old.tally.closed (if ends did then None else Some stepped)
            ∙ ap (if_closed old.tally.closed) (step_told live stepped did s.tells ∙ sym (ap (λ j. option_and_then (after_step did) j) told_is)))) (unseen_step live.id did old.tally.has_unseen_end);
        told = ap (λ (t : Tally). t.job) tally;
        timely = may_end old settled;
        counts = record {
          seat = main;
          later = let l = s.later in omega (arith, l, had, now);
          fault = λ h. let risen = s.fault (subst (λ j. StepFault j did) told_is h) in omega (arith, risen, had, now);
          calls = omega (arith, calls_is);
          most = let few = s.few in omega (arith, calls_is, few);
        };
        leads = (same_noted old new screen quit, (told_job live, told_is, refl, inl (live, stepped, refl, s.tells)));
        sought = tt;
        caused = λ log known. tt;
        traced = step_traced live stepped did made calls before after is (inl o) calls_is job s.counted (λ log known. step_tells IsUnclaimed live did stepped log contents_after (s.called log known));
        unknown = s.unknown;
      }
    where
      told_is : old.tally.job ≡ Some (told_job live)
      told_is = tells ∙ ap (option_map told_job) is

  -- the sync of what an ended job left dirty
  pub adds_settled : (live stepped : Running) (did : Did) (made calls before after : ℕ) → old.job ≡ Some live → old.tally.job ≡ option_map told_job old.job
      → OwedSyncStep (step_made live stepped did made old.dirty new.dirty contents contents_after before after) → calls ≡ old.tally.calls + made
      → new.newest ≡ entry seat calls count 0 (Step live.id did) ∷ old.newest
      → new.job ≡ if_closed old.tally.closed (if ends did then None else Some stepped)
      → new.tally ≡ record old.tally { job = option_map told_job new.job; has_unseen_end = ends did || old.tally.has_unseen_end; calls = calls }
      → old.screen.planned ≡ None → faults_in faults old.newest ≤ before → after ≤ count → new.screen ≡ old.screen → new.quit ≡ old.quit → new.out.put ≡ old.out.put
      → (finishes did ≡ true → old.later ≡ []) → new.later ≡ left_by did old.later
      → Adds contents contents_after faults old new (entry seat calls count 0 (Step live.id did))
  adds_settled live stepped did made calls before after is tells s calls_is more job tally settled had now screen quit put turn left = record {
    turn = in_turn live.id did old.later turn;
    left = left;
    draws = record { same = put; none = refl };
    more = more;
    tally = tally ∙ stepped_tally old.tally _ _ _ _ calls
        (ap (option_map told_job) (job ∙ ap (if_closed old.tally.closed) goes_on) ∙ (closed_told old.tally.closed (Some stepped)
        ∙ ap (if_closed old.tally.closed) (sync_told live did (Some stepped) s.fresh reported ∙ sym (ap (λ j. option_and_then (after_step did) j) told_is)))) (unseen_step live.id did old.tally.has_unseen_end);
    told = ap (λ (t : Tally). t.job) tally;
    timely = may_end old settled;
    counts = record {
      seat = main;
      later = let l = s.later in omega (arith, l, had, now);
      fault = λ h. let risen = s.fault (subst (λ j. StepFault j did) told_is h) in omega (arith, risen, had, now);
      calls = omega (arith, calls_is);
      most = let few = s.few in omega (arith, calls_is, few);
    };
    leads = (same_noted old new screen quit, (told_job live, told_is, refl, inr (inr (s.goes, fresh_told live.id live.work ∙ s.fresh, reports s.synced))));
    sought = tt;
    caused = λ log known. tt;
    traced = step_traced live stepped did made calls before after is (inr s) calls_is job s.counted (λ log known. owed_tells live stepped s.path did old.dirty new.dirty contents contents_after log known s.synced);
    unknown = s.unknown;
  }
    where
      told_is : old.tally.job ≡ Some (told_job live)
      told_is = tells ∙ ap (option_map told_job) is

      Syncs : Type 0
      Syncs = SyncsOwed live s.path did stepped old.dirty new.dirty contents contents_after

      not_ended : Syncs → ends did ≡ false
      not_ended (inl h) = ap ends h.did_is
      not_ended (inr h) = ap ends h.did_is

      goes_on : (if ends did then None else Some stepped) ≡ Some stepped
      goes_on = ap (λ b. if b then None else Some stepped) (not_ended s.synced)

      report : Syncs → ((did ≡ Barrier) × (Some stepped ≡ Some live)) ⊎ ((trouble : Trouble) × (did ≡ Troubled trouble) × (trouble.barrier ≡ true) × (Some stepped ≡ Some (record live { course = OwedSyncFailed trouble.cause })))
      report (inl h) = inl (h.did_is, ap Some h.new_is)
      report (inr h) = inr (h.trouble, h.did_is, h.barred, ap Some h.new_is)

      reported : ((did ≡ Barrier) × (Some stepped ≡ Some live)) ⊎ ((trouble : Trouble) × (did ≡ Troubled trouble) × (trouble.barrier ≡ true) × (Some stepped ≡ Some (record live { course = OwedSyncFailed trouble.cause })))
      reported = report s.synced

      reports : Syncs → (did ≡ Barrier) ⊎ ((trouble : Trouble) × (did ≡ Troubled trouble) × (trouble.barrier ≡ true))
      reports (inl h) = inl h.did_is
      reports (inr h) = inr (h.trouble, h.did_is, h.barred)

  -- the end of a job that ran out of memory
  pub adds_given_up : (live : Running) (part : Option Route) → old.job ≡ Some live → old.tally.job ≡ option_map told_job old.job → waits_on live.course ≡ false → part ≡ part_of live.work
      → new.newest ≡ entry seat old.tally.calls count 0 (Step live.id (Ended NoMemory part)) ∷ old.newest
      → new.job ≡ None → new.tally ≡ record old.tally { job = None; has_unseen_end = true }
      → old.screen.planned ≡ None → contents_after ≡ contents → faults_in faults old.newest ≤ count → new.screen ≡ old.screen → new.quit ≡ old.quit → new.dirty ≡ old.dirty → new.out.put ≡ old.out.put → new.later ≡ []
      → Adds contents contents_after faults old new (entry seat old.tally.calls count 0 (Step live.id (Ended NoMemory part)))
  adds_given_up live part is tells ready part_is more job tally settled same later screen quit dirty put left = record {
    turn = tt;
    left = left;
    draws = record { same = put; none = refl };
    more = more;
    tally = tally ∙ stepped_tally old.tally _ _ _ _ old.tally.calls (none_left old.tally.closed ∙ ap (if_closed old.tally.closed) (sym (ap (λ j. option_and_then (after_step (Ended NoMemory part)) j) told_is))) refl;
    told = ap (λ (t : Tally). t.job) tally ∙ sym (ap (option_map told_job) job);
    timely = may_end old settled;
    counts = record { seat = main; later = later; fault = λ h. absurd (subst (λ x. StepFault x (Ended NoMemory part)) told_is h); calls = omega arith; most = omega arith };
    leads = (same_noted old new screen quit, (told_job live, told_is, refl, inr (inl (waiting_told live ∙ ready, ap (Ended NoMemory) (part_is ∙ sym (part_told live))))));
    sought = tt;
    caused = λ log known. tt;
    traced = leads_on contents contents_after same old new (entry seat old.tally.calls count 0 (Step live.id (Ended NoMemory part))) None refl
        (λ log known. steps old new live (Ended NoMemory part) None log log is (inr (record { did_is = ap (Ended NoMemory) part_is; same = dirty; none = refl }, refl))) (job ∙ none_left old.tally.closed);
    unknown = still_unknown contents contents_after same;
  }
    where
      told_is : old.tally.job ≡ Some (told_job live)
      told_is = tells ∙ ap (option_map told_job) is

      none_left : (closed : Bool) → (let o : Option Running = None in o) ≡ if_closed closed None
      none_left true = refl
      none_left false = refl

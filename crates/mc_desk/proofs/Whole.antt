-- The entries of a desk leave a whole desk.
use Rattle.std.proofs.Common.{◌≡◌, ℕ, ◌+◌, ◌-◌, ◌^◌, ◌≤◌, min, Bool, true, false, ◌||◌, List, [], ◌∷◌, length, refl, sym, ◌∙◌, ap, subst, inl, inr, Option, Some, None, IsSome, arith}
use Rattle.std.specs.Prelude.{if◌then◌else◌}
use Rattle.std.specs.Option.{option_map}
use Rattle.key_screen.specs.declared.keys.Key.{Key as KeyType}
use Rattle.mc_text.specs.Routes.{Route}
use Rattle.tree_trait.specs.Change.{CallLog}
use Rattle.tree_trait.specs.Answers.{IfKnown, HasRisen}
use Rattle.job_reports.specs.declared.report.Did.{Did}
use Rattle.job_reports.specs.declared.report.Did.TheVariants.{Ended}
use Rattle.job_reports.specs.declared.report.Ending.TheVariants.{NoMemory}
use Rattle.job_reports.specs.declared.job.Job.{Job}
use Rattle.job_reports.specs.declared.row.JobRow.{JobRow}
use Rattle.session_entries.specs.Sources.{are_workable, sources_of}
use Rattle.session_entries.specs.SourcesLeft.{later as rest_of, left_by}
use Rattle.session_entries.specs.declared.history.Entry.{Entry}
use Rattle.session_entries.specs.declared.history.Event.TheVariants.{Key, Look, Sought, Began, Order, Step, Closed}
use Rattle.session_entries.specs.declared.history.JobOrder.TheVariants.{Answered}
use Rattle.job_reports.specs.declared.answer.Answer.{Answer}
use Rattle.session_entries.specs.declared.refusal.Refusal.{Refusal}
use Rattle.copy_move.specs.declared.run.Course.{Course}
use Rattle.copy_move.specs.declared.run.Course.TheVariants.{GoesOn, Asking, InTrouble, OwedSyncFailed, Skips, Ends}
use Rattle.copy_move.specs.Jobs.{Running, MayAnswer, answered_job, begun_work, closed_course, closed_job, part_of, waits_on}
use Rattle.job_reports.specs.Reports.{ends}
use Rattle.laws_sessions.specs.ToldJob.{after_event, live_job}
use Rattle.copy_move.specs.Told.{if_closed, running, told_job}
use Rattle.session_entries.specs.Entries.{is_closed}
use Rattle.copy_move.specs.JobStepReports.{RunStep, step_made}
use Rattle.session_entries.specs.Refusals.{AreRefused}
use Rattle.laws_sessions.specs.Traces.{IsUnclaimed}
use Rattle.ui_job_boxes.specs.LiveJobs.{takes_answer}
use Rattle.mc_ui.specs.Screens.{Screen, Begins, Answers, LookLeads}
use Rattle.ui_words.specs.declared.message.Message.{Message}
use Rattle.ui_plans.specs.Refused.{has_fault}
use Rattle.session_log.specs.Told.{news_left, waits_told}
use Rattle.mc_desk.specs.Tallies.{Tally, can_step, next_id}
use Rattle.mc_desk.specs.KeysAndFaults.{faults_in}
use Rattle.mc_desk.specs.declared.starts.Start.{Start}
use Rattle.mc_desk.specs.LiveRows.{row_of, rows_of, rows_told}
use Rattle.mc_desk.specs.Granting.{KeyWorks}
use Rattle.mc_desk.specs.Outputs.{FitsScreen, Output}
use Rattle.mc_ui.specs.Seekings.{is_seeking}
use Rattle.mc_desk.specs.Sessions.{MayWork}
use Rattle.mc_desk.specs.Searches.{HasSought}
use Rattle.job_sources.specs.Turning.{finishes}
use Rattle.mc_desk.specs.Redrawing.{asks_anew}
use Rattle.mc_desk.specs.Shown.{DrawsFrame, PutsNothing, frame_due, none_before}
use Rattle.mc_desk.specs.Desks.{Seen, kept_room, IsShown, IsWritten, IsDesk, noted_screen, state_of}
use Rattle.mc_desk.proofs.Showing.{shown_closed, shown_stepping}
use Rattle.mc_desk.proofs.Adding.{adds_began, adds_closed, adds_given_up, adds_key, adds_look, adds_lost, adds_order, adds_settled, adds_sought, adds_step, entry, unasked_screen}
use Rattle.mc_desk.proofs.Answering.{rows_untold}
use Rattle.mc_desk.proofs.Keeping.{written_more}
use Rattle.mc_desk.proofs.Troubles.{WaitsIn, may_answer, session_waits}

-- two entries are room enough
pub room_two : (closed : Bool) (job : Option Running) → kept_room closed job ≤ 2
room_two true None = omega arith
room_two true (Some job) = omega arith
room_two false None = omega arith
room_two false (Some job) = omega arith

-- a written desk on which nothing waits is whole
pub desk_of : (start : Option Start) (opening contents : Option CallLog) (faults : ℕ) (desk : Seen) → IsWritten start opening contents faults desk → desk.screen.planned ≡ None → (desk.tally.lost ≡ true → desk.tally.closed ≡ true)
    → (desk.quit ≡ true → desk.tally.due ≡ None) → (desk.tally.closed ≡ true → desk.tally.due ≡ None) → 2 ≤ desk.spare → IsShown desk → IsDesk start opening contents faults desk
desk_of start opening contents faults desk written settled lost asked shut room shown =
    record { written = written; settled = settled; asked = asked; lost = lost; shut = shut; room = let two = room_two desk.tally.closed desk.job in omega (arith, two, room); shown = shown }

closed_waits : (course : Course) → waits_on (closed_course course) ≡ false
closed_waits GoesOn = refl
closed_waits (InTrouble halt) = refl
closed_waits (OwedSyncFailed cause) = refl
closed_waits Asking = refl
closed_waits (Skips cause) = refl
closed_waits (Ends ending) = refl

never_waits : (job : Option Running) (live : Running) → if_closed true job ≡ Some live → waits_on live.course ≡ false
never_waits None live is = absurd cc
never_waits (Some job) live is = let same : closed_job job ≡ live = cc in sym (ap (λ (j : Running). waits_on j.course) same) ∙ closed_waits job.course

-- a closed desk's job never waits
pub closed_goes_on : (start : Option Start) (opening contents : Option CallLog) (faults : ℕ) (old : Seen) (live : Running) → IsDesk start opening contents faults old → old.tally.closed ≡ true → old.job ≡ Some live → waits_on live.course ≡ false
closed_goes_on start opening contents faults old live desk closed is =
    waits old.newest (sym (ap (λ (t : Tally). t.closed) desk.written.tally) ∙ closed)
    (sym (ap (λ (t : Tally). t.job) desk.written.tally) ∙ (desk.written.told ∙ ap (option_map told_job) is))
  where
    waits : (newest : List Entry) → is_closed newest ≡ true → live_job newest ≡ Some (told_job live) → waits_on live.course ≡ false
    waits [] shut at = absurd cc
    waits (e ∷ older) shut at = never_waits (after_event e.what (live_job older)) (told_job live) (ap (λ b. if_closed b (after_event e.what (live_job older))) (sym shut) ∙ at)

-- an open desk has lost no key
unlost : (start : Option Start) (opening contents : Option CallLog) (faults : ℕ) (old : Seen) → IsDesk start opening contents faults old → old.tally.closed ≡ false → old.tally.lost ≡ false
unlost start opening contents faults old desk unclosed = go old.tally.lost refl
  where
    go : (b : Bool) → old.tally.lost ≡ b → b ≡ false
    go false is = refl
    go true is = let shut = desk.lost is in cc

cleared : (s : Screen) → s.planned ≡ None → s ≡ (let c : Screen = record s { planned = None } in c)
cleared s h = ap (λ o. let c : Screen = record s { planned = o } in c) h

last_room : (job : Option Running) → kept_room true job ≤ 1
last_room None = omega arith
last_room (Some job) = omega arith

-- the rows of a desk are those that its history tells
pub rows_are : (start : Option Start) (opening contents : Option CallLog) (faults : ℕ) (desk : Seen) → IsWritten start opening contents faults desk → rows_told desk.newest ≡ rows_of desk.job (waits_told desk.newest)
rows_are start opening contents faults desk written =
    ap (λ j. rows_of j (waits_told desk.newest)) (sym (ap (λ (t : Tally). t.job) written.tally) ∙ written.told) ∙ rows_untold desk.job (waits_told desk.newest)

-- the live job may be answered as its row says
pub answers_live : (start : Option Start) (opening contents : Option CallLog) (faults : ℕ) (desk : Seen) (live : Running) (answer : Answer) → IsWritten start opening contents faults desk → desk.job ≡ Some live
    → takes_answer (row_of live (waits_told desk.newest)) answer ≡ true → MayAnswer live answer
answers_live start opening contents faults desk live answer written is takes =
    may_answer live (waits_told desk.newest) answer
    (subst (λ j. WaitsIn j (waits_told desk.newest)) (sym (ap (λ (t : Tally). t.job) written.tally) ∙ (written.told ∙ ap (option_map told_job) is))
    (session_waits start opening faults desk.newest (state_of contents desk) written.session)) takes

same_fits : (old new : Seen) → new.screen ≡ old.screen → new.out ≡ old.out → FitsScreen old.out.display.grid old.screen → FitsScreen new.out.display.grid new.screen
same_fits old new screen out fits = subst (λ s. FitsScreen new.out.display.grid s) (sym screen) (subst (λ (o : Output). FitsScreen o.display.grid old.screen) (sym out) fits)

module _ (start : Option Start) (opening contents contents_after : Option CallLog) (faults : ℕ) (old new : Seen) (count shown : ℕ) (key : KeyType) (now : ℕ) (desk : IsDesk start opening contents faults old)
    (unclosed : old.tally.closed ≡ false) (unasked : old.quit ≡ false) (looked : old.tally.due ≡ None) (sought : MayWork key old.screen) (same : contents_after ≡ contents) (later : faults_in faults old.newest ≤ count) where
  -- a key that was lost, and the end of keys
  pub desk_lost : new.newest ≡ entry 0 old.tally.calls count 0 Closed ∷ (entry 0 old.tally.calls count shown (Key key now [] true) ∷ old.newest)
      → new.tally ≡ record old.tally { job = option_map closed_job old.tally.job; closed = true; due = None; lost = true } → new.job ≡ option_map closed_job old.job → new.tally.job ≡ option_map told_job new.job
      → new.screen ≡ old.screen → new.quit ≡ old.quit → 1 ≤ new.spare → new.dirty ≡ old.dirty → new.later ≡ old.later → new.out ≡ old.out → PutsNothing shown old.out.put old.out.put
      → IsDesk start opening contents_after faults new
  desk_lost more is job tells screen quit room dirty left out puts = record {
    written =
        written_more faults mid new _ start opening contents_after contents_after
        (written_more faults old mid _ start opening contents contents_after desk.written
        (adds_lost contents contents_after faults old mid 0 count shown refl key now refl refl refl desk.written.told unclosed looked sought (unlost start opening contents faults old desk unclosed) desk.settled same later refl refl unasked refl refl puts))
        (adds_closed contents_after contents_after faults mid new 0 count 0 refl more is job tells desk.settled refl (omega arith) screen quit dirty left (ap (λ (o : Output). o.put) out));
    settled = ap (λ (s : Screen). s.planned) screen ∙ desk.settled;
    asked = λ h. ap (λ (t : Tally). t.due) is;
    lost = λ h. ap (λ (t : Tally). t.closed) is;
    shut = λ h. ap (λ (t : Tally). t.due) is;
    room = let closed = ap (λ (t : Tally). t.closed) is in rw closed (let one = last_room new.job in omega (arith, one, room));
    shown = shown_closed new (ap (λ (t : Tally). t.closed) is) (same_fits old new screen out desk.shown.size);
  }
    where
      mid : Seen
      mid = record old { newest = entry 0 old.tally.calls count shown (Key key now [] true) ∷ old.newest; tally = record old.tally { lost = true } }

  module _ (refusals : List Refusal) (fault : has_fault refusals ≡ true → HasRisen (faults_in faults old.newest) count) (refused : IfKnown contents (λ log. AreRefused log refusals))
      (settled : new.screen.planned ≡ None) (room : 2 ≤ new.spare) (shown_now : IsShown new) where
    -- a key that was worked
    pub desk_keyed : new.newest ≡ entry 0 old.tally.calls count shown (Key key now refusals false) ∷ old.newest → new.tally ≡ old.tally → new.job ≡ old.job → new.tally.job ≡ option_map told_job new.job
        → KeyWorks contents (rows_told old.newest) (next_id old.tally.last) now key refusals (noted_screen old) (noted_screen new) → new.dirty ≡ old.dirty → new.later ≡ old.later
        → DrawsFrame (asks_anew key || none_before old.newest) (frame_due (noted_screen new) (next_id old.tally.last) (rows_told old.newest)) shown old.out.put new.out.put → IsDesk start opening contents_after faults new
    desk_keyed more is job tells works dirty left draws =
        desk_of start opening contents_after faults new
        (written_more faults old new _ start opening contents contents_after desk.written
        (adds_key contents contents_after faults old new 0 count shown refl key now refusals more is job tells unclosed looked sought (unlost start opening contents faults old desk unclosed) desk.settled same later fault refused
        works unasked dirty left draws))
        settled (λ h. ap (λ (t : Tally). t.closed) is ∙ desk.lost (sym (ap (λ (t : Tally). t.lost) is) ∙ h)) (λ h. ap (λ (t : Tally). t.due) is ∙ looked)
        (λ h. ap (λ (t : Tally). t.due) is ∙ desk.shut (sym (ap (λ (t : Tally). t.closed) is) ∙ h)) room shown_now

    not_asked : new.quit ≡ true → new.quit ≡ old.quit → ⊥
    not_asked h quit = let no = unasked in cc

    -- the key, on a screen on which what it asked is still to be carried out
    abbrev pub keyed : Screen → Seen
    keyed screen = record old { newest = entry 0 old.tally.calls count shown (Key key now refusals false) ∷ old.newest; screen = screen; out = new.out }

    keyed_written : (screen : Screen) → KeyWorks contents (rows_told old.newest) (next_id old.tally.last) now key refusals (noted_screen old) screen
        → DrawsFrame (asks_anew key || none_before old.newest) (frame_due screen (next_id old.tally.last) (rows_told old.newest)) shown old.out.put new.out.put → IsWritten start opening contents_after faults (keyed screen)
    keyed_written screen works draws =
        written_more faults old (keyed screen) _ start opening contents contents_after desk.written
        (adds_key contents contents_after faults old (keyed screen) 0 count shown refl key now refusals refl refl refl desk.written.told unclosed looked sought (unlost start opening contents faults old desk unclosed) desk.settled same later fault
        refused (subst (λ s. KeyWorks contents (rows_told old.newest) (next_id old.tally.last) now key refusals (noted_screen old) s) (sym (unasked_screen (keyed screen) unasked)) works) unasked refl refl
        (subst (λ s. DrawsFrame (asks_anew key || none_before old.newest) (frame_due s (next_id old.tally.last) (rows_told old.newest)) shown old.out.put new.out.put) (sym (unasked_screen (keyed screen) unasked)) draws))

    -- a key that confirmed a job, and the job that it begins
    pub desk_began : (plan : Job) (background : Bool) (run : Running) (id began_count : ℕ) → run.id ≡ id → next_id old.tally.last ≡ Some run.id → old.job ≡ None → are_workable plan ≡ true
        → option_map (running run.id) (begun_work run.id (sources_of plan)) ≡ Some run
        → new.newest ≡ entry 0 old.tally.calls began_count 0 (Began id plan background) ∷ (entry 0 old.tally.calls count shown (Key key now refusals false) ∷ old.newest)
        → count ≤ began_count → new.job ≡ Some run → new.tally ≡ record old.tally { job = Some (told_job run); last = id; due = Some id } → new.quit ≡ old.quit → new.dirty ≡ old.dirty → new.later ≡ rest_of (sources_of plan)
        → KeyWorks contents (rows_told old.newest) (next_id old.tally.last) now key refusals (noted_screen old) (record new.screen { planned = Some (Begins plan background) })
        → DrawsFrame (asks_anew key || none_before old.newest) (frame_due (record new.screen { planned = Some (Begins plan background) }) (next_id old.tally.last) (rows_told old.newest)) shown old.out.put new.out.put → IsDesk start opening contents_after faults new
    desk_began plan background run id began_count number numbered idle workable started more counted job is quit dirty left works draws =
        let written = keyed_written screen works draws in
        desk_of start opening contents_after faults new
        (written_more faults (keyed screen) new _ start opening contents_after contents_after written
        (adds_began contents_after contents_after faults (keyed screen) new 0 began_count 0 refl id plan background run more
        (subst (λ n. option_map (running n) (begun_work n (sources_of plan)) ≡ Some run) number started) job is unclosed
        (rows_are start opening contents_after faults (keyed screen) written ∙ ap (λ j. rows_of j (waits_told (keyed screen).newest)) idle) workable refl refl counted
        (numbered ∙ ap Some number) (cleared new.screen settled) quit unasked idle dirty left refl))
        settled (λ h. ap (λ (t : Tally). t.closed) is ∙ desk.lost (sym (ap (λ (t : Tally). t.lost) is) ∙ h)) (λ h. absurd (not_asked h quit))
        (λ h. absurd (let shut = ap (λ (t : Tally). t.closed) is in cc)) room shown_now
      where
        screen : Screen
        screen = record new.screen { planned = Some (Begins plan background) }

    -- a key that answers the job's trouble, and the order
    pub desk_ordered : (answer : Answer) (live : Running) (order_count : ℕ) → old.job ≡ Some live → takes_answer (row_of live (waits_told old.newest)) answer ≡ true
        → new.newest ≡ entry 0 old.tally.calls order_count 0 (Order live.id (Answered answer)) ∷ (entry 0 old.tally.calls count shown (Key key now refusals false) ∷ old.newest)
        → count ≤ order_count → new.job ≡ Some (answered_job answer live)
        → new.tally ≡ record old.tally { job = Some (told_job (answered_job answer live)); due = Some live.id } → new.quit ≡ old.quit → new.dirty ≡ old.dirty → new.later ≡ old.later
        → KeyWorks contents (rows_told old.newest) (next_id old.tally.last) now key refusals (noted_screen old) (record new.screen { planned = Some (Answers answer) })
        → DrawsFrame (asks_anew key || none_before old.newest) (frame_due (record new.screen { planned = Some (Answers answer) }) (next_id old.tally.last) (rows_told old.newest)) shown old.out.put new.out.put → IsDesk start opening contents_after faults new
    desk_ordered answer live order_count was takes more counted job is quit dirty left works draws =
        let written = keyed_written screen works draws in
        desk_of start opening contents_after faults new
        (written_more faults (keyed screen) new _ start opening contents_after contents_after written
        (adds_order contents_after contents_after faults (keyed screen) new 0 order_count 0 refl answer live more was
        (rows_are start opening contents_after faults (keyed screen) written ∙ ap (λ j. rows_of j (waits_told (keyed screen).newest)) was) takes
        desk.written.told job is unclosed refl refl counted (cleared new.screen settled) quit unasked dirty left refl))
        settled (λ h. ap (λ (t : Tally). t.closed) is ∙ desk.lost (sym (ap (λ (t : Tally). t.lost) is) ∙ h)) (λ h. absurd (not_asked h quit))
        (λ h. absurd (let shut = ap (λ (t : Tally). t.closed) is in cc)) room shown_now
      where
        screen : Screen
        screen = record new.screen { planned = Some (Answers answer) }

closed_room : (job : Option Running) (spare spare_after : ℕ) → kept_room false job ≤ spare → spare ≤ spare_after + 1 → kept_room true (option_map closed_job job) ≤ spare_after
closed_room None spare spare_after had left = omega (arith, had, left)
closed_room (Some job) spare spare_after had left = omega (arith, had, left)

-- the end of keys, written down in the room that was kept for it
pub desk_closed : (start : Option Start) (opening contents : Option CallLog) (faults : ℕ) (old new : Seen) (count : ℕ) → IsDesk start opening contents faults old → old.tally.closed ≡ false → faults_in faults old.newest ≤ count
    → new.newest ≡ entry 0 old.tally.calls count 0 Closed ∷ old.newest
    → new.tally ≡ record old.tally { job = option_map closed_job old.tally.job; closed = true; due = None } → new.job ≡ option_map closed_job old.job → new.tally.job ≡ option_map told_job new.job
    → new.screen ≡ old.screen → new.quit ≡ old.quit → old.spare ≤ new.spare + 1 → new.dirty ≡ old.dirty → new.later ≡ old.later → new.out ≡ old.out → IsDesk start opening contents faults new
desk_closed start opening contents faults old new count desk unclosed later more is job tells screen quit room dirty left out = record {
  written = written_more faults old new _ start opening contents contents desk.written
      (adds_closed contents contents faults old new 0 count 0 refl more is job tells desk.settled refl later screen quit dirty left (ap (λ (o : Output). o.put) out));
  shown = shown_closed new (ap (λ (t : Tally). t.closed) is) (same_fits old new screen out desk.shown.size);
  settled = ap (λ (s : Screen). s.planned) screen ∙ desk.settled;
  asked = λ h. ap (λ (t : Tally). t.due) is;
  lost = λ h. ap (λ (t : Tally). t.closed) is;
  shut = λ h. ap (λ (t : Tally). t.due) is;
  room = subst (λ b. kept_room b new.job ≤ new.spare) (sym (ap (λ (t : Tally). t.closed) is)) (subst (λ j. kept_room true j ≤ new.spare) (sym job)
      (closed_room old.job old.spare new.spare (subst (λ b. kept_room b old.job ≤ old.spare) unclosed desk.room) room));
}

-- a look, written down
pub desk_looked : (start : Option Start) (opening contents contents_after : Option CallLog) (faults : ℕ) (old new : Seen) (count shown : ℕ) (now : ℕ) (refusals : List Refusal) (rows : List JobRow) (news : Option Message) → rows ≡ rows_of old.job (waits_told old.newest) → news ≡ news_left old.newest → IsDesk start opening contents faults old
    → old.tally.closed ≡ false → IsSome old.tally.due → contents_after ≡ contents → faults_in faults old.newest ≤ count → (has_fault refusals ≡ true → HasRisen (faults_in faults old.newest) count)
    → IfKnown contents (λ log. AreRefused log refusals) → LookLeads contents rows now old.tally.has_unseen_end news refusals old.screen new.screen
    → new.newest ≡ entry 0 old.tally.calls count shown (Look refusals) ∷ old.newest
    → new.tally ≡ record old.tally { has_unseen_end = false; due = if can_step old.tally.job then old.tally.due else None } → new.job ≡ old.job → new.tally.job ≡ option_map told_job new.job
    → new.screen.planned ≡ None → new.quit ≡ old.quit → 2 ≤ new.spare → new.dirty ≡ old.dirty → new.later ≡ old.later → old.quit ≡ false → IsShown new
    → DrawsFrame (none_before old.newest) (frame_due (noted_screen new) (next_id old.tally.last) (rows_told old.newest)) shown old.out.put new.out.put
    → IsDesk start opening contents_after faults new
desk_looked start opening contents contents_after faults old new count shown now refusals rows news rows_is news_is desk unclosed is_due same later fault refused leads more is job tells settled quit room dirty left unasked shown_now draws =
    desk_of start opening contents_after faults new
    (written_more faults old new _ start opening contents contents_after desk.written
    (adds_look contents contents_after faults old new 0 count shown refl now refusals more is job tells unclosed is_due desk.settled same later fault refused
    (subst (λ rs. LookLeads contents rs now old.tally.has_unseen_end (news_left old.newest) refusals old.screen new.screen) (rows_is ∙ sym (rows_are start opening contents faults old desk.written))
    (subst (λ p. LookLeads contents rows now old.tally.has_unseen_end p refusals old.screen new.screen) news_is leads)) quit unasked dirty left draws))
    settled (λ h. ap (λ (t : Tally). t.closed) is ∙ desk.lost (sym (ap (λ (t : Tally). t.lost) is) ∙ h)) (λ h. absurd (let no = unasked in cc)) (λ h. absurd (let shut = ap (λ (t : Tally). t.closed) is in cc)) room shown_now

-- the steps of a search, written down
pub desk_sought : (start : Option Start) (opening contents contents_after : Option CallLog) (faults : ℕ) (old new : Seen) (from count shown : ℕ) → IsDesk start opening contents faults old
    → old.tally.closed ≡ false → old.tally.due ≡ None → is_seeking old.screen ≡ true → contents_after ≡ contents → faults_in faults old.newest ≤ from → from ≤ count → HasSought contents from count old.screen new.screen
    → new.newest ≡ entry 0 old.tally.calls count shown Sought ∷ old.newest → new.tally ≡ old.tally → new.job ≡ old.job → new.tally.job ≡ option_map told_job new.job
    → new.screen.planned ≡ None → new.quit ≡ old.quit → 2 ≤ new.spare → new.dirty ≡ old.dirty → new.later ≡ old.later → old.quit ≡ false → IsShown new
    → DrawsFrame (none_before old.newest) (frame_due (noted_screen new) (next_id old.tally.last) (rows_told old.newest)) shown old.out.put new.out.put
    → IsDesk start opening contents_after faults new
desk_sought start opening contents contents_after faults old new from count shown desk unclosed looked seeking same had later made more is job tells settled quit room dirty left unasked shown_now draws =
    desk_of start opening contents_after faults new
    (written_more faults old new _ start opening contents contents_after desk.written
    (adds_sought contents contents_after faults old new 0 count shown refl more is job tells unclosed looked seeking desk.settled same from had later made quit unasked dirty left draws))
    settled (λ h. ap (λ (t : Tally). t.closed) is ∙ desk.lost (sym (ap (λ (t : Tally). t.lost) is) ∙ h)) (λ h. ap (λ (t : Tally). t.due) is ∙ looked)
    (λ h. ap (λ (t : Tally). t.due) is ∙ looked) room shown_now

-- a step makes at most three changing calls
few_made : (live stepped : Running) (did : Did) (made : ℕ) (dirty dirty_after : List Route) (contents contents_after : Option CallLog) (before after : ℕ)
    → RunStep IsUnclaimed (step_made live stepped did made dirty dirty_after contents contents_after before after) → made ≤ 3
few_made live stepped did made dirty dirty_after contents contents_after before after (inl o) = o.own.few
few_made live stepped did made dirty dirty_after contents contents_after before after (inr s) = let few = s.few in omega (arith, few)

-- a step of the job, written down
pub desk_stepped : (start : Option Start) (opening contents contents_after : Option CallLog) (faults : ℕ) (old new : Seen) (seat count made calls before after : ℕ) (live stepped : Running) (did : Did)
    → seat ≡ 0 → IsDesk start opening contents faults old → old.job ≡ Some live → RunStep IsUnclaimed (step_made live stepped did made old.dirty new.dirty contents contents_after before after) → length old.newest + 3 ≤ 2 ^ 56
    → calls ≡ min (old.tally.calls + made) (2 ^ 64 - 1) → faults_in faults old.newest ≤ before → after ≤ count
    → new.newest ≡ entry seat calls count 0 (Step live.id did) ∷ old.newest
    → new.job ≡ if_closed old.tally.closed (if ends did then None else Some stepped)
    → new.tally ≡ record old.tally { job = option_map told_job new.job; has_unseen_end = ends did || old.tally.has_unseen_end; calls = calls } → new.screen ≡ old.screen
    → new.quit ≡ old.quit → 2 ≤ new.spare → waits_on live.course ≡ false → new.out ≡ old.out
    → (finishes did ≡ true → old.later ≡ []) → new.later ≡ left_by did old.later → IsDesk start opening contents_after faults new
desk_stepped start opening contents contents_after faults old new seat count made calls before after live stepped did main desk is steps fits calls_is had now more job tally screen quit room ready out turn left =
    let all : calls ≡ old.tally.calls + made =
    let few = desk.written.calls in let three = few_made live stepped did made old.dirty new.dirty contents contents_after before after steps in omega (arith, calls_is, three, fits, few) in
    desk_of start opening contents_after faults new
    (written_more faults old new _ start opening contents contents_after desk.written (elim steps [
      | inl o ↦ adds_step contents contents_after faults old new seat count 0 main live stepped did made calls before after is desk.written.told o all more job tally desk.settled had now screen quit (ap (λ (o : Output). o.put) out) turn left
      | inr s ↦ adds_settled contents contents_after faults old new seat count 0 main live stepped did made calls before after is desk.written.told s all more job tally desk.settled had now screen quit (ap (λ (o : Output). o.put) out) turn left
    ]))
    (ap (λ (s : Screen). s.planned) screen ∙ desk.settled) (λ h. ap (λ (t : Tally). t.closed) tally ∙ desk.lost (sym (ap (λ (t : Tally). t.lost) tally) ∙ h))
    (λ h. ap (λ (t : Tally). t.due) tally ∙ desk.asked (sym quit ∙ h))
    (λ h. ap (λ (t : Tally). t.due) tally ∙ desk.shut (sym (ap (λ (t : Tally). t.closed) tally) ∙ h)) room
    (shown_stepping old new live desk.shown desk.written.tally (desk.written.told ∙ ap (option_map told_job) is) ready (ap (λ (t : Tally). t.closed) tally) (ap (λ (t : Tally). t.due) tally) out screen (ap none_before more))

pub room_left : (closed : Bool) (job : Option Running) (live : Running) (spare reserved left : ℕ) → job ≡ Some live → kept_room closed job ≤ spare → spare ≤ reserved → reserved ≤ left + 1 → kept_room closed None ≤ left
room_left closed job live spare reserved left is had kept noted = go closed (subst (λ j. kept_room closed j ≤ spare) is had)
  where
    go : (closed : Bool) → kept_room closed (Some live) ≤ spare → kept_room closed None ≤ left
    go true had = omega (arith, had, kept, noted)
    go false had = omega (arith, had, kept, noted)

-- the end of a job that ran out of memory, written down in the room that was kept for it
pub desk_gave_up : (start : Option Start) (opening contents contents_after : Option CallLog) (faults : ℕ) (old new : Seen) (seat count : ℕ) (live : Running) (part : Option Route)
    → contents_after ≡ contents → seat ≡ 0 → IsDesk start opening contents faults old → old.job ≡ Some live → waits_on live.course ≡ false → part ≡ part_of live.work → faults_in faults old.newest ≤ count
    → new.newest ≡ entry seat old.tally.calls count 0 (Step live.id (Ended NoMemory part)) ∷ old.newest
    → new.job ≡ None → new.tally ≡ record old.tally { job = None; has_unseen_end = true } → new.screen ≡ old.screen → new.quit ≡ old.quit → kept_room old.tally.closed None ≤ new.spare → new.dirty ≡ old.dirty → new.later ≡ []
    → new.out ≡ old.out → IsDesk start opening contents_after faults new
desk_gave_up start opening contents contents_after faults old new seat count live part same main desk is ready part_is later more job tally screen quit room dirty left out = record {
  shown = shown_stepping old new live desk.shown desk.written.tally (desk.written.told ∙ ap (option_map told_job) is) ready (ap (λ (t : Tally). t.closed) tally) (ap (λ (t : Tally). t.due) tally) out screen (ap none_before more);
  written = written_more faults old new _ start opening contents contents_after desk.written
      (adds_given_up contents contents_after faults old new seat count 0 main live part is desk.written.told ready part_is more job tally desk.settled same later screen quit dirty (ap (λ (o : Output). o.put) out) left);
  settled = ap (λ (s : Screen). s.planned) screen ∙ desk.settled;
  asked = λ h. ap (λ (t : Tally). t.due) tally ∙ desk.asked (sym quit ∙ h);
  lost = λ h. ap (λ (t : Tally). t.closed) tally ∙ desk.lost (sym (ap (λ (t : Tally). t.lost) tally) ∙ h);
  shut = λ h. ap (λ (t : Tally). t.due) tally ∙ desk.shut (sym (ap (λ (t : Tally). t.closed) tally) ∙ h);
  room = subst (λ j. kept_room new.tally.closed j ≤ new.spare) (sym job) (subst (λ b. kept_room b None ≤ new.spare) (sym (ap (λ (t : Tally). t.closed) tally)) room);
}

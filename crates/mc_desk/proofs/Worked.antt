-- A key that was worked, and what it asked for carried out, leave a whole desk.
use Rattle.std.proofs.Common.{◌≡◌, ℕ, ◌≤◌, ◌∷◌, ◌++◌, Bool, true, false, List, [], refl, sym, Result, ◌∙◌, ap, subst, Option, Some, None, arith}
use Rattle.std.specs.Prelude.{if◌then◌else◌, not, ◌&&◌, ◌||◌, IsOk}
use Rattle.std.specs.Option.{option_map}
use Rattle.std.proofs.lemmas.Bool.{false≢true}
use Rattle.key_screen.specs.Grids.{CellGrid}
use Rattle.tree_trait.specs.declared.devices.SinkError.{SinkError}
use Rattle.key_screen.specs.declared.keys.Key.{Key as KeyType}
use Rattle.mc_text.specs.Routes.{Route}
use Rattle.tree_trait.specs.Change.{CallLog}
use Rattle.tree_trait.specs.Answers.{IfKnown, HasRisen}
use Rattle.job_reports.specs.declared.row.JobRow.{JobRow}
use Rattle.session_entries.specs.declared.history.Event.TheVariants.{Key}
use Rattle.session_entries.specs.declared.refusal.Refusal.{Refusal}
use Rattle.session_entries.specs.Refusals.{AreRefused}
use Rattle.job_reports.specs.declared.answer.Answer.{Answer}
use Rattle.job_reports.specs.declared.answer.Answer.TheVariants.{Yes, No, All, Update, Nothing, SizeDiffers, Retry, Skip, SkipAll, Abort}
use Rattle.job_reports.specs.declared.job.Job.{Job as JobPlan}
use Rattle.job_reports.specs.declared.waits.Waits.{Waits}
use Rattle.job_answers.specs.Answers.{answer_result as then_after, to_barrier, to_trouble}
use Rattle.job_answers.specs.declared.answer.Waiting.TheVariants as waiting
use Rattle.job_reports.specs.declared.report.Cause.{Cause}
use Rattle.copy_move.specs.declared.work.Work.{Work}
use Rattle.copy_move.specs.declared.work.Work.TheVariants.{Copy, Delete, Make, Move, SetMode, RemoveEmptied}
use Rattle.copy_move.specs.declared.run.Course.{Course}
use Rattle.copy_move.specs.declared.run.Course.TheVariants.{GoesOn, Asking, InTrouble, OwedSyncFailed, Skips, Ends}
use Rattle.copy_move.specs.Jobs.{MayAnswer, Running, answered_job, answered_on, begun_work, kind_of, path_of, taken_anew, waiting_on, waits_on}
use Rattle.session_entries.specs.Sources.{sources_of}
use Rattle.copy_move.specs.Told.{running, told_job}
use Rattle.ui_job_boxes.specs.LiveJobs.{can_answer, takes_answer}
use Rattle.mc_ui.specs.Screens.{Answers, Begins, Screen}
use Rattle.mc_desk.specs.Sessions.{MayWork}
use Rattle.ui_plans.specs.Refused.{has_fault}
use Rattle.mc_desk.specs.declared.starts.Start.{Start}
use Rattle.mc_desk.specs.declared.granting.Deed.{Deed}
use Rattle.mc_desk.specs.declared.granting.Deed.TheVariants as deed
use Rattle.mc_desk.specs.declared.standing.Standing.{Standing}
use Rattle.mc_desk.specs.Granting.{CanBeDone, IsWorked, KeyWorks, with_deed}
use Rattle.session_log.specs.Told.{waits_told}
use Rattle.mc_desk.specs.LiveRows.{question_in, row_of, rows_of, rows_told, state_with, trouble_in}
use Rattle.session_entries.specs.declared.history.Entry.{Entry}
use Rattle.session_log.specs.Logs.{Logged, entries_with_event}
use Rattle.mc_desk.specs.Outputs.{FitsScreen, Output, ShowsFrame}
use Rattle.mc_desk.specs.Redrawing.{asks_anew}
use Rattle.mc_desk.specs.Shown.{DrawsFrame, begun_rows, frame_at, frame_due, ready_row, rows_then, none_before}
use Rattle.screen_draw.specs.Drawings.{Display}
use Rattle.mc_ui.specs.Frames.{frame_of}
use Rattle.mc_desk.specs.Standings.{MayCarryOut, after_answer, after_deed, awaited_look, event_of, order_of}
use Rattle.mc_desk.specs.Tallies.{can_step, next_id}
use Rattle.mc_desk.specs.KeysAndFaults.{faults_in}
use Rattle.mc_desk.specs.Desks.{IsDesk, IsShown, Seen, seen_of, with_end}
use Rattle.mc_desk.proofs.Adding.{entry, unasked_screen}
use Rattle.mc_desk.proofs.Answering.{none_of}
use Rattle.mc_desk.proofs.Showing.{followed_written, shown_drawn, shown_whole}
use Rattle.mc_desk.proofs.Whole.{answers_live, desk_began, desk_keyed, desk_ordered, rows_are}

module _ (start : Option Start) (opening contents : Option CallLog) (faults : ℕ) (desk : Seen) (whole : IsDesk start opening contents faults desk) (rows : List JobRow)
    (rows_is : rows ≡ rows_of desk.job (waits_told desk.newest)) where
  -- the live job is there where it can be answered, and takes the answer
  live_of : (answer : Answer) → can_answer rows answer ≡ true → (live : Running) × (desk.job ≡ Some live) × (takes_answer (row_of live (waits_told desk.newest)) answer ≡ true)
  live_of answer can = go desk.job refl (ap (λ rs. can_answer rs answer) (sym rows_is) ∙ can)
    where
      go : (job : Option Running) → desk.job ≡ job → can_answer (rows_of job (waits_told desk.newest)) answer ≡ true
          → (live : Running) × (desk.job ≡ Some live) × (takes_answer (row_of live (waits_told desk.newest)) answer ≡ true)
      go None is h = absurd (false≢true h)
      go (Some live) is h = (live, is, h)

  -- what can be done may be carried out
  pub may_carry_out : (next : Option ℕ) (done : Deed) → CanBeDone rows next done → MayCarryOut desk.job done
  may_carry_out next deed.Nothing can = tt
  may_carry_out next deed.Refuse can = tt
  may_carry_out next deed.End can = tt
  may_carry_out next (deed.Begin confirmed) can = tt
  may_carry_out next (deed.Answer answer) can =
      let here = live_of answer can in (here.0, here.1, answers_live start opening contents faults desk here.0 answer whole.written here.1 here.2)

not_twice : (b : Bool) → not (not b) ≡ b
not_twice true = refl
not_twice false = refl

-- a drawing is of all where it is asked to be, and where nothing was written down
all_as_written : (anew has_drawn none : Bool) → has_drawn ≡ not none → not (not anew && has_drawn) ≡ (anew || none)
all_as_written true has_drawn none is = refl
all_as_written false has_drawn none is = ap not is ∙ not_twice none

-- a drawing by a desk, as it is written down
pub draws_written : (anew : Bool) (desk : Seen) (frame due : CellGrid) (r : Result (Unit {0}) SinkError) (out_after : Output) → IsShown desk → desk.tally.closed ≡ false → ShowsFrame anew frame r desk.out out_after → frame ≡ due
    → DrawsFrame (anew || none_before desk.newest) due out_after.shown desk.out.put out_after.put
draws_written anew desk frame due r out_after shown unclosed s same =
    subst (λ f. DrawsFrame (anew || none_before desk.newest) f out_after.shown desk.out.put out_after.put) same
    (subst (λ b. DrawsFrame b frame out_after.shown desk.out.put out_after.put) (all_as_written anew desk.out.display.has_drawn (none_before desk.newest) (shown.drawn unclosed s.drawn.uncut)) s.drawn)

-- a job that waits for nothing has the row of one that is ready, whatever was told of it
ready_is : (job : Running) (t told : Option Waits) → waits_on job.course ≡ false → row_of job t ≡ ready_row (row_of job told)
ready_is job t told ready =
    ap (λ b. let w : Option Waits = if b then t else None in let r : JobRow = record { job = job.id; state = state_with w; kind = kind_of job.work; path = path_of job.work; background = false; asked = question_in w; trouble = trouble_in w } in r) ready

-- an answer changes nothing of what a job does
still_does : (course : Course) (answer : Answer) (job : Running) (t : Option Waits) → ready_row (row_of (answered_on course answer job) t) ≡ ready_row (row_of job t)
still_does course answer job t = go course answer
  where
    row : Work → JobRow
    row work = ready_row (row_of (record job { work = work }) t)

    anew : (work : Work) → row (taken_anew work) ≡ row work
    anew (Copy c) = refl
    anew (Delete d) = refl
    anew (Make m) = refl
    anew (Move m) = refl
    anew (SetMode s) = refl
    anew (RemoveEmptied r) = refl

    go : (course : Course) (answer : Answer) → ready_row (row_of (answered_on course answer job) t) ≡ ready_row (row_of job t)
    go (InTrouble halt) Retry = anew job.work
    go (InTrouble halt) Skip = refl
    go (InTrouble halt) SkipAll = refl
    go (InTrouble halt) Abort = refl
    go (InTrouble halt) Yes = refl
    go (InTrouble halt) No = refl
    go (InTrouble halt) All = refl
    go (InTrouble halt) Update = refl
    go (InTrouble halt) Nothing = refl
    go (InTrouble halt) SizeDiffers = refl
    go (OwedSyncFailed cause) Retry = anew job.work
    go (OwedSyncFailed cause) Skip = refl
    go (OwedSyncFailed cause) SkipAll = refl
    go (OwedSyncFailed cause) Abort = refl
    go (OwedSyncFailed cause) Yes = refl
    go (OwedSyncFailed cause) No = refl
    go (OwedSyncFailed cause) All = refl
    go (OwedSyncFailed cause) Update = refl
    go (OwedSyncFailed cause) Nothing = refl
    go (OwedSyncFailed cause) SizeDiffers = refl
    go Asking Yes = refl
    go Asking No = refl
    go Asking All = refl
    go Asking Update = refl
    go Asking Nothing = refl
    go Asking SizeDiffers = refl
    go Asking Retry = refl
    go Asking Skip = refl
    go Asking SkipAll = refl
    go Asking Abort = refl
    go GoesOn answer = refl
    go (Skips cause) answer = refl
    go (Ends ending) answer = refl

-- a job that was begun, or answered, waits for nothing
started_ready : (id : ℕ) (plan : JobPlan) (run : Running) → option_map (running id) (begun_work id (sources_of plan)) ≡ Some run → waits_on run.course ≡ false
started_ready id plan run started = go (begun_work id (sources_of plan)) started
  where
    go : (work : Option Work) → option_map (running id) work ≡ Some run → waits_on run.course ≡ false
    go None is = absurd cc
    go (Some work) is = let same : running id work ≡ run = cc in ap (λ (j : Running). waits_on j.course) (sym same)

-- neither a trouble nor a barrier is answered as a question is
neither : (barrier : Bool) (cause : Cause) (answer : Answer) → (IsOk (to_trouble answer) → ⊥) → (IsOk (to_barrier answer) → ⊥) → IsOk (then_after (Some (if barrier then waiting.Barrier else waiting.Trouble cause)) answer) → ⊥
neither true cause answer trouble stops h = stops h
neither false cause answer trouble stops h = trouble h

answered_ready : (course : Course) (answer : Answer) (job : Running) → IsOk (then_after (waiting_on course) answer) → waits_on (answered_on course answer job).course ≡ false
answered_ready (InTrouble halt) Retry job fits = refl
answered_ready (InTrouble halt) Skip job fits = refl
answered_ready (InTrouble halt) SkipAll job fits = refl
answered_ready (InTrouble halt) Abort job fits = refl
answered_ready (InTrouble halt) Yes job fits = absurd (neither halt.barrier halt.cause Yes false≢true false≢true fits)
answered_ready (InTrouble halt) No job fits = absurd (neither halt.barrier halt.cause No false≢true false≢true fits)
answered_ready (InTrouble halt) All job fits = absurd (neither halt.barrier halt.cause All false≢true false≢true fits)
answered_ready (InTrouble halt) Update job fits = absurd (neither halt.barrier halt.cause Update false≢true false≢true fits)
answered_ready (InTrouble halt) Nothing job fits = absurd (neither halt.barrier halt.cause Nothing false≢true false≢true fits)
answered_ready (InTrouble halt) SizeDiffers job fits = absurd (neither halt.barrier halt.cause SizeDiffers false≢true false≢true fits)
answered_ready (OwedSyncFailed cause) Retry job fits = refl
answered_ready (OwedSyncFailed cause) Abort job fits = refl
answered_ready (OwedSyncFailed cause) Skip job fits = absurd (false≢true fits)
answered_ready (OwedSyncFailed cause) SkipAll job fits = absurd (false≢true fits)
answered_ready (OwedSyncFailed cause) Yes job fits = absurd (false≢true fits)
answered_ready (OwedSyncFailed cause) No job fits = absurd (false≢true fits)
answered_ready (OwedSyncFailed cause) All job fits = absurd (false≢true fits)
answered_ready (OwedSyncFailed cause) Update job fits = absurd (false≢true fits)
answered_ready (OwedSyncFailed cause) Nothing job fits = absurd (false≢true fits)
answered_ready (OwedSyncFailed cause) SizeDiffers job fits = absurd (false≢true fits)
answered_ready Asking Yes job fits = refl
answered_ready Asking No job fits = refl
answered_ready Asking All job fits = refl
answered_ready Asking Update job fits = refl
answered_ready Asking Nothing job fits = refl
answered_ready Asking SizeDiffers job fits = refl
answered_ready Asking Abort job fits = refl
answered_ready Asking Retry job fits = absurd (false≢true fits)
answered_ready Asking Skip job fits = absurd (false≢true fits)
answered_ready Asking SkipAll job fits = absurd (false≢true fits)
answered_ready GoesOn answer job fits = absurd (false≢true fits)
answered_ready (Skips cause) answer job fits = absurd (false≢true fits)
answered_ready (Ends ending) answer job fits = absurd (false≢true fits)

cleared : (s : Screen) → s.planned ≡ None → s ≡ (let c : Screen = record s { planned = None } in c)
cleared s h = ap (λ o. let c : Screen = record s { planned = o } in c) h

module _ (start : Option Start) (opening contents contents_after : Option CallLog) (faults : ℕ) (log log_after : Logged) (screen screen_after : Screen) (was : Standing) (dirty : List Route) (out out_after : Output) (taken : ℕ)
    (pending : List ℕ) (count : ℕ) (key : KeyType) (now : ℕ) (desk : IsDesk start opening contents faults (seen_of log screen was dirty out taken pending)) (unclosed : was.closed ≡ false) (unasked : was.quit ≡ false)
    (looked : awaited_look was.due ≡ None) (sought : MayWork key screen) (same : contents_after ≡ contents) (later : faults_in faults log.newest ≤ count) (refusals : List Refusal)
    (fault : has_fault refusals ≡ true → HasRisen (faults_in faults log.newest) count) (refused : IfKnown contents (λ l. AreRefused l refusals)) (room : 2 ≤ log_after.spare)
    (rows : List JobRow) (rows_is : rows ≡ rows_of was.job (waits_told log.newest)) (r : Result (Unit {0}) SinkError) where
  abbrev pub old : Seen
  old = seen_of log screen was dirty out taken pending

  abbrev pub new : Standing → Seen
  new standing = seen_of log_after screen_after standing dirty out_after taken pending

  -- the key, on the screens on which the end is noted
  noted_works : (after : Screen) → KeyWorks contents rows (next_id was.last_id) now key refusals screen after → KeyWorks contents (rows_told log.newest) (next_id was.last_id) now key refusals (with_end was.quit screen) after
  noted_works after works =
      subst (λ s. KeyWorks contents (rows_told log.newest) (next_id was.last_id) now key refusals s after) (sym (unasked_screen old unasked))
      (subst (λ rs. KeyWorks contents rs (next_id was.last_id) now key refusals screen after) (rows_is ∙ sym (rows_are start opening contents faults old desk.written)) works)

  still_noted : KeyWorks contents rows (next_id was.last_id) now key refusals screen screen_after → KeyWorks contents (rows_told log.newest) (next_id was.last_id) now key refusals (with_end was.quit screen) (with_end was.quit screen_after)
  still_noted works =
      subst (λ b. KeyWorks contents (rows_told log.newest) (next_id was.last_id) now key refusals (with_end was.quit screen) (with_end b screen_after)) (sym unasked) (noted_works screen_after works)

  abbrev pub shown : ℕ
  shown = out_after.shown

  told_is : rows_told log.newest ≡ rows_of was.job (waits_told log.newest)
  told_is = rows_are start opening contents faults old desk.written

  abbrev due_of : Deed → CellGrid
  due_of done = frame_due (with_deed done screen_after) (next_id was.last_id) (rows_told log.newest)

  -- the frame that is drawn is the one that is due
  frame_as : (done : Deed) → IsWorked contents rows (next_id was.last_id) now key screen screen_after done refusals
      → frame_of screen_after (rows_of (after_deed done was).job (waits_told log.newest)) ≡ due_of done
  frame_as deed.Nothing w = plain w.settled
    where
      plain : screen_after.planned ≡ None → frame_of screen_after (rows_of was.job (waits_told log.newest)) ≡ due_of deed.Nothing
      plain none =
          ap (frame_of screen_after) (sym told_is)
          ∙ (ap (λ s. frame_of s (rows_told log.newest)) (cleared screen_after none) ∙ ap (λ p. frame_at screen_after (rows_then p (next_id was.last_id) (rows_told log.newest))) (sym none))
  frame_as deed.Refuse w =
      ap (frame_of screen_after) (sym told_is)
      ∙ (ap (λ s. frame_of s (rows_told log.newest)) (cleared screen_after w.settled) ∙ ap (λ p. frame_at screen_after (rows_then p (next_id was.last_id) (rows_told log.newest))) (sym w.settled))
  frame_as deed.End w = ap (frame_of screen_after) (sym told_is) ∙ ap (λ s. frame_of s (rows_told log.newest)) (cleared screen_after w.settled)
  frame_as (deed.Begin confirmed) w =
      let run = confirmed.run in
      let none : rows_told log.newest ≡ [] = told_is ∙ (sym rows_is ∙ w.can.0) in
      let waits = started_ready run.id confirmed.plan run confirmed.started in
      ap (λ row. frame_of screen_after (row ∷ [])) (ready_is run (waits_told log.newest) None waits ∙ sym (ready_is run None None waits))
      ∙ (ap (λ s. frame_of s (row_of run None ∷ [])) (cleared screen_after w.settled)
      ∙ (ap (λ j. frame_at screen_after (rows_of j None ++ [])) (sym confirmed.started)
      ∙ (ap (λ rs. frame_at screen_after (begun_rows run.id confirmed.plan ++ rs)) (sym none)
      ∙ ap (λ n. frame_at screen_after (rows_then (Some (Begins confirmed.plan confirmed.background)) n (rows_told log.newest))) (sym w.can.2))))
  frame_as (deed.Answer answer) w =
      let here = live_of start opening contents faults old desk rows rows_is answer w.can in
      let live = here.0 in
      let is : was.job ≡ Some live = here.1 in
      let may : MayAnswer live answer = answers_live start opening contents faults old live answer desk.written is here.2 in
      let ready = answered_ready live.course answer live may.fits in
      let told_job : rows_told log.newest ≡ row_of live (waits_told log.newest) ∷ [] = told_is ∙ ap (λ j. rows_of j (waits_told log.newest)) is in
      ap (λ j. frame_of screen_after (rows_of (after_answer answer j was).job (waits_told log.newest))) is
      ∙ (ap (λ row. frame_of screen_after (row ∷ [])) (ready_is (answered_job answer live) (waits_told log.newest) (waits_told log.newest) ready ∙ still_does live.course answer live (waits_told log.newest))
      ∙ (ap (λ s. frame_of s (ready_row (row_of live (waits_told log.newest)) ∷ [])) (cleared screen_after w.settled)
      ∙ ap (λ rs. frame_at screen_after (rows_then (Some (Answers answer)) (next_id was.last_id) rs)) (sym told_job)))

  -- what the terminal shows of it
  abbrev pub Shown : Deed → Type 0
  Shown done = ShowsFrame (asks_anew key) (frame_of screen_after (rows_of (after_deed done was).job (waits_told log.newest))) r out out_after

  shows_new : (standing : Standing) → FitsScreen out_after.display.grid screen_after → none_before log_after.newest ≡ false → ShowsFrame (asks_anew key) (frame_of screen_after (rows_of standing.job (waits_told log.newest))) r out out_after
      → waits_told log_after.newest ≡ waits_told log.newest → (standing.closed ≡ false → awaited_look standing.due ≡ None → can_step (option_map told_job standing.job) ≡ false) → IsShown (new standing)
  shows_new standing fits written s same still =
      shown_drawn (new standing) written fits
      (subst (λ t. out_after.put.is_cut ≡ false → out_after.display ≡ (let d : Display = record { grid = frame_of screen_after (rows_of standing.job t); has_drawn = true } in d)) (sym same)
      (shown_whole (asks_anew key) (frame_of screen_after (rows_of standing.job (waits_told log.newest))) r out out_after s))
      still

  drawn_for : (done : Deed) → IsWorked contents rows (next_id was.last_id) now key screen screen_after done refusals → Shown done
      → DrawsFrame (asks_anew key || none_before log.newest) (due_of done) shown out.put out_after.put
  drawn_for done w s = draws_written (asks_anew key) old (frame_of screen_after (rows_of (after_deed done was).job (waits_told log.newest))) (due_of done) r out_after desk.shown unclosed s (frame_as done w)

  -- where nothing is asked for, what is written down of the end is noted on the screen
  drawn_noted : DrawsFrame (asks_anew key || none_before log.newest) (frame_due screen_after (next_id was.last_id) (rows_told log.newest)) shown out.put out_after.put
      → DrawsFrame (asks_anew key || none_before log.newest) (frame_due (with_end was.quit screen_after) (next_id was.last_id) (rows_told log.newest)) shown out.put out_after.put
  drawn_noted d = subst (λ b. DrawsFrame (asks_anew key || none_before log.newest) (frame_due (with_end b screen_after) (next_id was.last_id) (rows_told log.newest)) shown out.put out_after.put) (sym unasked) d

  -- the key is written down
  abbrev key_entry : Entry
  key_entry = entry 0 was.calls count shown (Key key now refusals false)

  followed : (done : Deed) → log_after.newest ≡ entries_with_event was.calls count (event_of done was.job) (key_entry ∷ log.newest) → none_before log_after.newest ≡ false
  followed done more = ap none_before more ∙ followed_written was.calls count done was.job key_entry log.newest

  pub desk_worked : (done : Deed) → IsWorked contents rows (next_id was.last_id) now key screen screen_after done refusals → FitsScreen out_after.display.grid screen_after → Shown done
      → log_after.newest ≡ entries_with_event was.calls count (event_of done was.job) (entry 0 was.calls count shown (Key key now refusals false) ∷ log.newest) → IsDesk start opening contents_after faults (new (after_deed done was))
  desk_worked deed.Nothing w fits s more =
      desk_keyed start opening contents contents_after faults old (new was) count shown key now desk unclosed unasked looked sought same later refusals fault refused w.settled room
      (shows_new was fits (followed deed.Nothing more) s (ap waits_told more) desk.shown.still) more refl refl refl (still_noted w.works) refl refl (drawn_noted (drawn_for deed.Nothing w s))
  desk_worked deed.Refuse w fits s more =
      desk_keyed start opening contents contents_after faults old (new was) count shown key now desk unclosed unasked looked sought same later refusals fault refused w.settled room
      (shows_new was fits (followed deed.Refuse more) s (ap waits_told more) desk.shown.still) more refl refl refl (still_noted w.works) refl refl (drawn_noted (drawn_for deed.Refuse w s))
  desk_worked deed.End w fits s more =
      desk_keyed start opening contents contents_after faults old (new (after_deed deed.End was)) count shown key now desk unclosed unasked looked sought same later refusals fault refused w.settled room
      (shows_new (after_deed deed.End was) fits (followed deed.End more) s (ap waits_told more) desk.shown.still) more refl refl refl (noted_works (with_deed deed.End screen_after) w.works) refl refl (drawn_for deed.End w s)
  desk_worked (deed.Begin confirmed) w fits s more =
      desk_began start opening contents contents_after faults old (new (after_deed (deed.Begin confirmed) was)) count shown key now desk unclosed unasked looked sought same later refusals fault refused w.settled room
      (shows_new (after_deed (deed.Begin confirmed) was) fits (followed (deed.Begin confirmed) more) s (ap waits_told more) (λ unclosed none. absurd cc))
      confirmed.plan confirmed.background confirmed.run confirmed.run.id count refl w.can.2 (none_of was.job (waits_told log.newest) (sym rows_is ∙ w.can.0)) w.can.1 confirmed.started more (omega arith) refl refl refl refl confirmed.rest
      (noted_works (with_deed (deed.Begin confirmed) screen_after) w.works) (drawn_for (deed.Begin confirmed) w s)
  desk_worked (deed.Answer answer) w fits s more =
      let here = live_of start opening contents faults old desk rows rows_is answer w.can in
      let is : was.job ≡ Some here.0 = here.1 in
      let followed_is : log_after.newest ≡ entries_with_event was.calls count (order_of answer (Some here.0)) (entry 0 was.calls count shown (Key key now refusals false) ∷ log.newest) =
      more ∙ ap (λ j. entries_with_event was.calls count (order_of answer j) (entry 0 was.calls count shown (Key key now refusals false) ∷ log.newest)) is in
      subst (λ s. IsDesk start opening contents_after faults (new s)) (sym (ap (λ j. after_answer answer j was) is))
      (desk_ordered start opening contents contents_after faults old (new (after_answer answer (Some here.0) was)) count shown key now desk unclosed unasked looked sought same later refusals fault refused w.settled room
      (shows_new (after_answer answer (Some here.0) was) fits (followed (deed.Answer answer) more)
      (subst (λ j. ShowsFrame (asks_anew key) (frame_of screen_after (rows_of (after_answer answer j was).job (waits_told log.newest))) r out out_after) is s) (ap waits_told followed_is) (λ unclosed none. absurd cc))
      answer here.0 count is here.2 followed_is (omega arith) refl refl refl refl refl
      (noted_works (with_deed (deed.Answer answer) screen_after) w.works) (drawn_for (deed.Answer answer) w s))

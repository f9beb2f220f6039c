-- One entry more is a session still.
use Rattle.std.proofs.Common.{◌≡◌, ℕ, ◌+◌, ◌≤◌, Bool, true, false, not, ◌||◌, List, [], ◌∷◌, length, refl, sym, ◌∙◌, ap, subst, Option, Some, None, arith}
use Rattle.std.specs.Option.{option_map}
use Rattle.mc_text.specs.Routes.{Route}
use Rattle.tree_trait.specs.Change.{CallLog}
use Rattle.tree_trait.specs.Answers.{IfKnown}
use Rattle.session_entries.specs.declared.history.Entry.{Entry}
use Rattle.session_entries.specs.declared.history.Event.{Event}
use Rattle.session_entries.specs.declared.history.Event.TheVariants.{Key, Look, Sought, Began, Order, Step, Next, Closed}
use Rattle.copy_move.specs.Jobs.{Running}
use Rattle.copy_move.specs.Told.{told_job, if_closed}
use Rattle.session_entries.specs.Entries.{closes, is_closed, calls_in}
use Rattle.session_entries.specs.SourcesLeft.{AreInTurn, IsInTurn, left_after, sources_left}
use Rattle.laws_sessions.specs.Traces.{IsTraced, IsTracedTo, at_rest}
use Rattle.laws_sessions.specs.Traces as traces
use Rattle.laws_sessions.proofs.Moments.{traced_count}
use Rattle.mc_ui.specs.Screens.{Screen}
use Rattle.mc_desk.specs.declared.starts.Start.{Start}
use Rattle.mc_desk.specs.declared.starts.StartMode.{StartMode}
use Rattle.mc_desk.specs.declared.starts.StartMode.TheVariants.{Panels, View}
use Rattle.session_log.specs.Logs.{Logged}
use Rattle.session_log.specs.Told.{news_left}
use Rattle.mc_desk.specs.Tallies.{Tally, tally, after_entry, most_calls, next_id}
use Rattle.mc_desk.specs.KeysAndFaults.{faults_in}
use Rattle.mc_desk.specs.LiveRows.{rows_told}
use Rattle.mc_desk.specs.Sessions.{Before, IsOpeningIn, IsSession, SessionState, Traces, BeginsIn, EventLeads, HasCauses, IsTimely, Counts}
use Rattle.mc_desk.specs.StartedDesks.{IsOpened}
use Rattle.mc_desk.specs.declared.standing.Standing.{Standing}
use Rattle.mc_desk.specs.Outputs.{FitsScreen, Output}
use Rattle.mc_desk.specs.Searches.{EventSeeks}
use Rattle.mc_desk.specs.Redrawing.{draws_anew}
use Rattle.mc_desk.specs.Shown.{EventDraws, frame_due, none_before}
use Rattle.mc_desk.specs.DeskDevices.{HasPutNothing, Put}
use Rattle.mc_desk.specs.Standings.{fresh_standing}
use Rattle.mc_desk.specs.Desks.{Seen, IsWritten, IsDesk, noted_screen, seen_of, stand_of, stand_with, state_of}

-- nothing waits to be carried out as a session opens
plans_nothing : (mode : StartMode) (contents : Option CallLog) (home : Option Route) (lines columns : ℕ) (screen : Screen) → IsOpeningIn mode contents home lines columns screen → screen.planned ≡ None
plans_nothing (Panels left right) contents home lines columns screen is = ap (λ (s : Screen). s.planned) is.opened
plans_nothing (View path) contents home lines columns screen is = ap (λ (s : Screen). s.planned) is.opened

-- a desk on which nothing happened yet
pub kept_opening : (start : Option Start) (opening contents : Option CallLog) (faults : ℕ) (named : Start) (screen : Screen) (log : Logged) (standing : Standing) (dirty : List Route) (out : Output) (taken : ℕ) (pending : List ℕ)
    → BeginsIn start named → contents ≡ opening → IsOpened contents named screen log → standing ≡ fresh_standing → dirty ≡ [] → HasPutNothing out.put → out.display.has_drawn ≡ false → FitsScreen out.display.grid screen
    → IsDesk start opening contents faults (seen_of log screen standing dirty out taken pending)
kept_opening start opening contents faults named screen log standing dirty out taken pending begins same opened fresh none nothing undrawn fits =
    subst (λ s. IsDesk start opening contents faults (seen_of log screen s dirty out taken pending)) (sym fresh) (record {
      written = record {
        session = subst (λ es. IsSession start opening faults es now) (sym opened.empty)
            (subst (λ o. IsSession start o faults [] now) same (record { start = named; begins = begins; opened = opened.opening; idle = ap (stand_with None) none; same = refl; blank = nothing }));
        tally = ap tally (sym opened.empty);
        told = refl;
        left = ap sources_left (sym opened.empty);
        calls = omega arith;
      };
      settled = plans_nothing named.mode contents named.home named.lines named.columns screen opened.opening;
      asked = λ asked. absurd cc;
      lost = λ lost. absurd cc;
      shut = λ closed. absurd cc;
      room = let h = opened.room in omega (arith, h);
      shown = record {
        size = fits;
        drawn = λ unclosed uncut. undrawn ∙ ap (λ es. not (none_before es)) (sym opened.empty);
        current = λ unclosed uncut looked. absurd cc;
        still = λ unclosed looked. refl;
      };
    })
  where
    now : SessionState
    now = record { screen = screen; stand = stand_with None dirty; contents = contents; put = out.put }

-- what an entry says of the tree, of the live job and of the dirty folders, where the tree tells
abbrev pub Leads : Option CallLog → Option CallLog → Seen → Seen → Entry → Type 0
Leads contents contents_after old new e =
    IfKnown contents (λ log. (now : CallLog) × (after : Option Running) × (contents_after ≡ Some now) × traces.EventLeads (stand_of old) e.what (stand_with after new.dirty) log now
    × (new.job ≡ if_closed (closes e.what || old.tally.closed) after) × (length now.changes + old.tally.calls ≡ length log.changes + e.calls))

-- how a desk stands before an entry
abbrev pub before : Option CallLog → Seen → Before
before contents desk = record { contents = contents; tally = desk.tally; rows = rows_told desk.newest; news = news_left desk.newest; screen = noted_screen desk }

-- an entry that may follow: what it makes of the desk, of the screen and of the tree
pub record Adds (contents contents_after : Option CallLog) (faults : ℕ) (old new : Seen) (e : Entry) : Type 0 where
  pub more : new.newest ≡ e ∷ old.newest
  pub tally : new.tally ≡ after_entry e old.tally
  pub told : new.tally.job ≡ option_map told_job new.job
  pub turn : IsInTurn e.what old.later
  pub left : new.later ≡ left_after e.what old.later
  pub timely : IsTimely e.what (noted_screen old)
  pub counts : Counts (faults_in faults old.newest) old.tally.calls old.tally.job e
  pub leads : EventLeads (before contents old) e.what (noted_screen new)
  pub sought : EventSeeks e.what contents (faults_in faults old.newest) e.faults (noted_screen old) (noted_screen new)
  pub caused : IfKnown contents (HasCauses e.what)
  pub traced : Leads contents contents_after old new e
  pub unknown : contents ≡ None → contents_after ≡ None
  pub draws : EventDraws e.what (draws_anew e.what old.newest) (frame_due (noted_screen new) (next_id old.tally.last) (rows_told old.newest)) e.shown old.out.put new.out.put

-- the sources of each job are worked in turn
pub session_in_turn : (start : Option Start) (opening : Option CallLog) (faults : ℕ) (newest : List Entry) (now : SessionState) → IsSession start opening faults newest now → AreInTurn newest
session_in_turn start opening faults [] now begins = tt
session_in_turn start opening faults (e ∷ older) now (was, session, enters) = (enters.turn, session_in_turn start opening faults older was session)

-- a tree that told nothing at the opening never does
still_none : (start : Option Start) (faults : ℕ) (newest : List Entry) (now : SessionState) → IsSession start None faults newest now → now.contents ≡ None
still_none start faults [] now begins = begins.same
still_none start faults (e ∷ older) now (was, session, enters) = enters.traced

-- a session is a trace of its tree's calls
pub session_traced : (start : Option Start) (opening : CallLog) (faults : ℕ) (newest : List Entry) (now : SessionState) → IsSession start (Some opening) faults newest now
    → (log : CallLog) × (now.contents ≡ Some log) × IsTraced opening newest now.stand log
session_traced start opening faults [] now begins = (opening, begins.same, (begins.idle, refl))
session_traced start opening faults (e ∷ older) now (was, session, enters) =
    let had = session_traced start opening faults older was session in
    let t = enters.traced in
    let log_is : had.0 ≡ t.0 = let both : Some had.0 ≡ Some t.0 = sym had.1 ∙ t.2 in cc in
    (t.1, t.3, (was.stand, t.0, subst (λ l. IsTraced opening older was.stand l) log_is had.2, t.4))

pub session_traced_to : (start : Option Start) (opening : Option CallLog) (faults : ℕ) (newest : List Entry) (screen : Screen) (dirty : List Route) (contents : Option CallLog) (put : Put)
    → IsSession start opening faults newest (record { screen = screen; stand = at_rest dirty; contents = contents; put = put }) → IsTracedTo opening contents newest
session_traced_to start None faults newest screen dirty contents put h = still_none start faults newest (record { screen = screen; stand = at_rest dirty; contents = contents; put = put }) h
session_traced_to start (Some opening) faults newest screen dirty contents put h =
    let t = session_traced start opening faults newest (record { screen = screen; stand = at_rest dirty; contents = contents; put = put }) h in (t.0, dirty, t.1, t.2)

-- the close of a session sends its job another way, and leaves the dirty folders as they are
closed_stand : (closed : Bool) (job : Option Running) (dirty : List Route) → stand_with (if_closed closed job) dirty ≡ traces.if_closed closed (stand_with job dirty)
closed_stand true None dirty = refl
closed_stand true (Some job) dirty = refl
closed_stand false job dirty = refl

module _ (faults : ℕ) (old new : Seen) (e : Entry) where
  traced_more : (start : Option Start) (opening contents contents_after : Option CallLog) → IsWritten start opening contents faults old → Adds contents contents_after faults old new e
      → Traces opening e old.newest (stand_of old) contents (stand_of new) contents_after
  traced_more start None contents contents_after written adds = adds.unknown (still_none start faults old.newest (state_of contents old) written.session)
  traced_more start (Some opening) contents contents_after written adds =
      let had = session_traced start opening faults old.newest (state_of contents old) written.session in
      let t = adds.traced had.0 had.1 in
      let closed : old.tally.closed ≡ is_closed old.newest = ap (λ (t : Tally). t.closed) written.tally in
      let calls : old.tally.calls ≡ calls_in old.newest = ap (λ (t : Tally). t.calls) written.tally in
      let counted = t.5 in
      let long = traced_count opening had.0 old.newest (stand_of old) had.2 in (
        had.0,
        t.0,
        had.1,
        t.2,
        record {
          after = stand_with t.1 new.dirty;
          leads = t.3;
          stand_is = ap (λ job. stand_with job new.dirty) (t.4 ∙ ap (λ b. if_closed (closes e.what || b) t.1) closed) ∙ closed_stand (closes e.what || is_closed old.newest) t.1 new.dirty;
          counts = omega (arith, counted, calls, long);
        },
      )

  three_calls : (what : Event) → most_calls what ≤ 3
  three_calls (Key key now refusals lost) = omega arith
  three_calls (Look refusals) = omega arith
  three_calls Sought = omega arith
  three_calls (Began id plan background) = omega arith
  three_calls (Order id order) = omega arith
  three_calls (Step id did) = omega arith
  three_calls (Next id plan) = omega arith
  three_calls Closed = omega arith

  pub written_more : (start : Option Start) (opening contents contents_after : Option CallLog) → IsWritten start opening contents faults old → Adds contents contents_after faults old new e → IsWritten start opening contents_after faults new
  written_more start opening contents contents_after written adds = record {
    session = subst (λ es. IsSession start opening faults es (state_of contents_after new)) (sym adds.more) (
      state_of contents old,
      written.session,
      record {
        timely = adds.timely;
        turn = subst (IsInTurn e.what) written.left adds.turn;
        counts = subst (λ (t : Tally). Counts (faults_in faults old.newest) t.calls t.job e) written.tally adds.counts;
        leads = subst (λ t. EventLeads (let b : Before = record { contents = contents; tally = t; rows = rows_told old.newest; news = news_left old.newest; screen = noted_screen old } in b) e.what (noted_screen new)) written.tally
            adds.leads;
        sought = adds.sought;
        caused = adds.caused;
        traced = traced_more start opening contents contents_after written adds;
        draws = subst (λ n. EventDraws e.what (draws_anew e.what old.newest) (frame_due (noted_screen new) (next_id n) (rows_told old.newest)) e.shown old.out.put new.out.put) (ap (λ (t : Tally). t.last) written.tally) adds.draws;
      },
    );
    tally = adds.tally ∙ (ap (after_entry e) written.tally ∙ ap tally (sym adds.more));
    told = adds.told;
    left = adds.left ∙ (ap (left_after e.what) written.left ∙ ap sources_left (sym adds.more));
    calls =
        let is : new.tally.calls ≡ e.calls = ap (λ (t : Tally). t.calls) adds.tally in
        let three = three_calls e.what in
        let most = adds.counts.most in
        let had = written.calls in
        let size : length new.newest ≡ length old.newest + 1 = ap length adds.more ∙ omega arith in
        omega (arith, is, three, most, had, size);
  }

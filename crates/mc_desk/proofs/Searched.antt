-- The steps of a search leave a whole desk.
use Rattle.std.proofs.Common.{◌≡◌, ℕ, ◌≤◌, ◌∷◌, Bool, true, false, not, ◌||◌, ◌&&◌, List, Result, Ok, Err, IsOk, OnOk, refl, sym, ap, subst, Option, None}
use Rattle.tree_trait.specs.declared.devices.SinkError.{SinkError}
use Rattle.mc_text.specs.Routes.{Route}
use Rattle.tree_trait.specs.Change.{CallLog}
use Rattle.session_entries.specs.declared.history.Event.TheVariants.{Sought}
use Rattle.mc_ui.specs.Screens.{Screen}
use Rattle.mc_ui.specs.Seekings.{is_seeking}
use Rattle.mc_desk.specs.declared.starts.Start.{Start}
use Rattle.mc_desk.specs.declared.standing.Standing.{Standing}
use Rattle.session_log.specs.Told.{waits_told}
use Rattle.mc_desk.specs.LiveRows.{rows_of, rows_told}
use Rattle.session_log.specs.Logs.{Logged}
use Rattle.mc_desk.specs.Outputs.{FitsScreen, Output, ShowsFrame}
use Rattle.mc_desk.specs.Shown.{frame_due, none_before}
use Rattle.screen_draw.specs.Drawings.{Display}
use Rattle.mc_ui.specs.Frames.{frame_of}
use Rattle.mc_desk.specs.Searches.{HasSought}
use Rattle.mc_desk.specs.Standings.{awaited_look}
use Rattle.mc_desk.specs.Tallies.{next_id}
use Rattle.mc_desk.specs.KeysAndFaults.{faults_in}
use Rattle.mc_desk.specs.Desks.{IsDesk, Seen, seen_of, seeks, with_end}
use Rattle.mc_desk.proofs.Adding.{entry}
use Rattle.mc_desk.proofs.Looked.{frame_is_due}
use Rattle.mc_desk.proofs.Showing.{shown_drawn, shown_whole}
use Rattle.mc_desk.proofs.Whole.{desk_sought}
use Rattle.mc_desk.proofs.Worked.{draws_written}

-- a desk that seeks is open, its end wasn't asked for, and its screen seeks
pub seeks_open : (desk : Seen) → seeks desk ≡ true → (desk.tally.closed ≡ false) × (desk.quit ≡ false) × (is_seeking desk.screen ≡ true)
seeks_open desk h = go desk.tally.closed desk.quit (is_seeking desk.screen) h
  where
    go : (closed quit seeking : Bool) → (not (closed || quit) && seeking) ≡ true → (closed ≡ false) × (quit ≡ false) × (seeking ≡ true)
    go false false true h = (refl, refl, refl)
    go false false false h = absurd cc
    go false true seeking h = absurd cc
    go true quit seeking h = absurd cc

-- what holds of an answer that is Ok
pub of_ok : {A E : Type 0} (r : Result A E) (P : Type 0) → IsOk r → OnOk r P → P
of_ok (Ok x) P ok h = h
of_ok (Err e) P ok h = absurd cc

module _ (start : Option Start) (opening contents contents_after : Option CallLog) (faults : ℕ) (log log_after : Logged) (screen screen_after : Screen) (was : Standing) (dirty : List Route) (out out_after : Output) (taken : ℕ)
    (pending : List ℕ) (from count : ℕ) (desk : IsDesk start opening contents faults (seen_of log screen was dirty out taken pending)) (unclosed : was.closed ≡ false) (unasked : was.quit ≡ false) (looked : awaited_look was.due ≡ None)
    (seeking : is_seeking screen ≡ true) (same : contents_after ≡ contents) (had : faults_in faults log.newest ≤ from) (later : from ≤ count) where
  pub sought_whole : HasSought contents from count screen screen_after → screen_after.planned ≡ None → log_after.newest ≡ entry 0 was.calls count out_after.shown Sought ∷ log.newest → 2 ≤ log_after.spare
      → (r : Result (Unit {0}) SinkError) → FitsScreen out_after.display.grid screen_after → ShowsFrame false (frame_of screen_after (rows_of was.job (waits_told log.newest))) r out out_after
      → IsDesk start opening contents_after faults (seen_of log_after screen_after was dirty out_after taken pending)
  sought_whole made settled more room r fits s =
      desk_sought start opening contents contents_after faults _ (seen_of log_after screen_after was dirty out_after taken pending) from count out_after.shown desk unclosed looked seeking same had later made more
      refl refl refl settled refl room refl refl unasked
      (shown_drawn (seen_of log_after screen_after was dirty out_after taken pending) (ap none_before more) fits
      (subst (λ es. out_after.put.is_cut ≡ false → out_after.display ≡ (let d : Display = record { grid = frame_of screen_after (rows_of was.job (waits_told es)); has_drawn = true } in d)) (sym more)
      (shown_whole false (frame_of screen_after (rows_of was.job (waits_told log.newest))) r out out_after s))
      desk.shown.still)
      (draws_written false (seen_of log screen was dirty out taken pending) (frame_of screen_after (rows_of was.job (waits_told log.newest)))
      (frame_due (with_end was.quit screen_after) (next_id was.last_id) (rows_told log.newest)) r out_after desk.shown unclosed s
      (frame_is_due start opening contents faults log screen was dirty out taken pending desk unasked screen_after settled))

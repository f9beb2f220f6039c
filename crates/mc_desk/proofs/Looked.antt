-- A look leaves a whole desk.
use Rattle.std.proofs.Common.{◌≡◌, ℕ, ◌≤◌, ◌∷◌, Bool, true, false, List, Result, refl, sym, ◌∙◌, ap, subst, Option, Some, None, IsSome}
use Rattle.std.specs.Prelude.{if◌then◌else◌}
use Rattle.std.specs.Option.{option_map}
use Rattle.tree_trait.specs.declared.devices.SinkError.{SinkError}
use Rattle.mc_text.specs.Routes.{Route}
use Rattle.tree_trait.specs.Change.{CallLog}
use Rattle.tree_trait.specs.Answers.{IfKnown, HasRisen}
use Rattle.job_reports.specs.declared.row.JobRow.{JobRow}
use Rattle.session_entries.specs.declared.history.Event.TheVariants.{Look}
use Rattle.session_entries.specs.declared.refusal.Refusal.{Refusal}
use Rattle.session_entries.specs.Refusals.{AreRefused}
use Rattle.copy_move.specs.Told.{told_job}
use Rattle.mc_ui.specs.Screens.{LookLeads, Screen}
use Rattle.ui_words.specs.declared.message.Message.{Message}
use Rattle.ui_plans.specs.Refused.{has_fault}
use Rattle.mc_desk.specs.declared.starts.Start.{Start}
use Rattle.mc_desk.specs.declared.standing.Due.{Due}
use Rattle.mc_desk.specs.declared.standing.Standing.{Standing}
use Rattle.session_log.specs.Told.{waits_told, news_left}
use Rattle.mc_desk.specs.LiveRows.{rows_of, rows_told}
use Rattle.session_log.specs.Logs.{Logged}
use Rattle.mc_desk.specs.Outputs.{FitsScreen, Output, ShowsFrame}
use Rattle.mc_desk.specs.Shown.{frame_at, frame_due, none_before, rows_then}
use Rattle.screen_draw.specs.Drawings.{Display}
use Rattle.mc_ui.specs.Frames.{frame_of}
use Rattle.mc_desk.specs.Standings.{after_look, awaited_look, tally_of}
use Rattle.mc_desk.specs.Tallies.{Tally, can_step, next_id}
use Rattle.mc_desk.specs.KeysAndFaults.{faults_in}
use Rattle.mc_desk.specs.Desks.{IsDesk, Seen, seen_of, with_end}
use Rattle.mc_desk.proofs.Adding.{entry}
use Rattle.mc_desk.proofs.Answering.{steps_told}
use Rattle.mc_desk.proofs.Showing.{shown_drawn, shown_whole}
use Rattle.mc_desk.proofs.Whole.{desk_looked, rows_are}
use Rattle.mc_desk.proofs.Worked.{draws_written}

-- what is due after a look, by its number
due_by_number : (steps : Bool) (due : Due) → awaited_look (after_look steps due) ≡ (if steps then awaited_look due else None)
due_by_number true due = refl
due_by_number false due = refl

-- a desk on which something is due is open
pub open_due : (start : Option Start) (opening contents : Option CallLog) (faults : ℕ) (desk : Seen) (due : ℕ) → IsDesk start opening contents faults desk → desk.tally.due ≡ Some due → (desk.tally.closed ≡ false) × (desk.quit ≡ false)
open_due start opening contents faults desk due whole is = (go desk.tally.closed whole.shut, go desk.quit whole.asked)
  where
    go : (b : Bool) → (b ≡ true → desk.tally.due ≡ None) → b ≡ false
    go false none = refl
    go true none = absurd (let not_due = none refl in cc)

-- the frame that is drawn after a look, or the steps of a search, is the one that is due
pub frame_is_due : (start : Option Start) (opening contents : Option CallLog) (faults : ℕ) (log : Logged) (screen : Screen) (was : Standing) (dirty : List Route) (out : Output) (taken : ℕ) (pending : List ℕ)
    → IsDesk start opening contents faults (seen_of log screen was dirty out taken pending) → was.quit ≡ false → (screen_after : Screen) → screen_after.planned ≡ None
    → frame_of screen_after (rows_of was.job (waits_told log.newest)) ≡ frame_due (with_end was.quit screen_after) (next_id was.last_id) (rows_told log.newest)
frame_is_due start opening contents faults log screen was dirty out taken pending desk unasked screen_after settled =
    ap (frame_of screen_after) (sym told_is)
    ∙ (ap (λ s. frame_of s (rows_told log.newest)) (ap (λ o. let c : Screen = record screen_after { planned = o } in c) settled)
    ∙ (ap (λ p. frame_at screen_after (rows_then p (next_id was.last_id) (rows_told log.newest))) (sym settled)
    ∙ ap (λ b. frame_due (with_end b screen_after) (next_id was.last_id) (rows_told log.newest)) (sym unasked)))
  where
    told_is : rows_told log.newest ≡ rows_of was.job (waits_told log.newest)
    told_is = rows_are start opening contents faults (seen_of log screen was dirty out taken pending) desk.written

abbrev taken_up : Standing → Standing
taken_up was = record was { has_unseen_end = false; due = after_look (can_step was.job) was.due }

module _ (start : Option Start) (opening contents contents_after : Option CallLog) (faults : ℕ) (log log_after : Logged) (screen screen_after : Screen) (was now_is : Standing) (dirty : List Route) (out out_after : Output) (taken : ℕ)
    (pending : List ℕ) (count : ℕ) (desk : IsDesk start opening contents faults (seen_of log screen was dirty out taken pending)) (unclosed : was.closed ≡ false) (unasked : was.quit ≡ false) (is_due : IsSome (awaited_look was.due))
    (same : contents_after ≡ contents) (later : faults_in faults log.newest ≤ count) where
  pub looked_whole : (now : ℕ) (refusals : List Refusal) (rows : List JobRow) (news : Option Message) → rows ≡ rows_of was.job (waits_told log.newest) → news ≡ news_left log.newest
      → (has_fault refusals ≡ true → HasRisen (faults_in faults log.newest) count) → IfKnown contents (λ l. AreRefused l refusals) → LookLeads contents rows now was.has_unseen_end news refusals screen screen_after
      → screen_after.planned ≡ None → log_after.newest ≡ entry 0 was.calls count out_after.shown (Look refusals) ∷ log.newest → 2 ≤ log_after.spare → now_is ≡ taken_up was
      → (r : Result (Unit {0}) SinkError) → FitsScreen out_after.display.grid screen_after → ShowsFrame false (frame_of screen_after (rows_of was.job (waits_told log.newest))) r out out_after
      → IsDesk start opening contents_after faults (seen_of log_after screen_after now_is dirty out_after taken pending)
  looked_whole now refusals rows news rows_is news_is fault refused leads settled more room is r fits s =
      subst (λ s. IsDesk start opening contents_after faults (seen_of log_after screen_after s dirty out_after taken pending)) (sym is)
      (desk_looked start opening contents contents_after faults _ (seen_of log_after screen_after (taken_up was) dirty out_after taken pending) count out_after.shown now refusals rows news rows_is news_is desk unclosed is_due same later fault
      refused leads more
      (ap (λ d. let t : Tally = record (tally_of was) { has_unseen_end = false; due = d } in t)
      (due_by_number (can_step was.job) was.due ∙ ap (λ b. if b then awaited_look was.due else None) (sym (steps_told was.job))))
      refl refl settled refl room refl refl unasked
      (shown_drawn (seen_of log_after screen_after (taken_up was) dirty out_after taken pending) (ap none_before more) fits
      (subst (λ es. out_after.put.is_cut ≡ false → out_after.display ≡ (let d : Display = record { grid = frame_of screen_after (rows_of was.job (waits_told es)); has_drawn = true } in d)) (sym more)
      (shown_whole false (frame_of screen_after (rows_of was.job (waits_told log.newest))) r out out_after s))
      still)
      (draws_written false (seen_of log screen was dirty out taken pending) (frame_of screen_after (rows_of was.job (waits_told log.newest)))
      (frame_due (with_end was.quit screen_after) (next_id was.last_id) (rows_told log.newest)) r out_after desk.shown unclosed s
      (frame_is_due start opening contents faults log screen was dirty out taken pending desk unasked screen_after settled)))
    where
      -- a job that can't be stepped was not due, or is due no longer
      still : was.closed ≡ false → awaited_look (after_look (can_step was.job) was.due) ≡ None → can_step (option_map told_job was.job) ≡ false
      still unclosed none = go (can_step was.job) refl none
        where
          go : (b : Bool) → can_step was.job ≡ b → awaited_look (after_look b was.due) ≡ None → can_step (option_map told_job was.job) ≡ false
          go true is due = desk.shown.still unclosed due
          go false is due = steps_told was.job ∙ is

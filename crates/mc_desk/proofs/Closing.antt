-- The close of a session leaves a whole desk.
use Rattle.std.proofs.Common.{◌≡◌, ℕ, ◌+◌, ◌≤◌, ◌∷◌, Bool, true, false, List, [], refl, sym, ap, subst, Option, None}
use Rattle.key_screen.specs.declared.keys.Key.{Key as KeyType}
use Rattle.mc_text.specs.Routes.{Route}
use Rattle.tree_trait.specs.Change.{CallLog}
use Rattle.session_entries.specs.declared.history.Event.TheVariants.{Closed, Key}
use Rattle.copy_move.proofs.Telling.{closed_told}
use Rattle.mc_ui.specs.Screens.{Screen}
use Rattle.mc_desk.specs.Sessions.{MayWork}
use Rattle.mc_desk.specs.declared.starts.Start.{Start}
use Rattle.mc_desk.specs.declared.standing.Standing.{Standing}
use Rattle.session_log.specs.Logs.{Logged, plain_entry}
use Rattle.mc_desk.specs.Outputs.{Output}
use Rattle.mc_desk.specs.Shown.{PutsNothing}
use Rattle.mc_desk.specs.Standings.{awaited_look, closed_standing}
use Rattle.mc_desk.specs.Tallies.{Tally}
use Rattle.mc_desk.specs.KeysAndFaults.{faults_in}
use Rattle.mc_desk.specs.Desks.{IsDesk, seen_of}
use Rattle.mc_desk.proofs.Adding.{entry}
use Rattle.mc_desk.proofs.Whole.{desk_closed, desk_lost}

module _ (start : Option Start) (opening contents : Option CallLog) (faults : ℕ) (log log_after : Logged) (screen : Screen) (was now_is : Standing) (dirty : List Route) (out : Output) (taken : ℕ) (pending : List ℕ) (count : ℕ)
    (desk : IsDesk start opening contents faults (seen_of log screen was dirty out taken pending)) (unclosed : was.closed ≡ false) (later : faults_in faults log.newest ≤ count) where
  abbrev closed_tally : Bool → Tally
  closed_tally lost = record { job = None; last = was.last_id; has_unseen_end = was.has_unseen_end; closed = true; due = None; lost = lost; calls = was.calls }

  pub closed_whole : log_after.newest ≡ plain_entry was.calls count Closed ∷ log.newest → log.spare ≤ log_after.spare + 1 → now_is ≡ closed_standing was
      → IsDesk start opening contents faults (seen_of log_after screen now_is dirty out taken pending)
  closed_whole more room closed =
      subst (λ s. IsDesk start opening contents faults (seen_of log_after screen s dirty out taken pending)) (sym closed)
      (desk_closed start opening contents faults _ (seen_of log_after screen (closed_standing was) dirty out taken pending) count desk unclosed later more
      (ap (λ j. let t : Tally = record (closed_tally was.lost) { job = j } in t) (closed_told true was.job)) refl refl refl refl room refl refl refl)

  -- a key that was lost, and the end of keys
  pub lost_whole : (key : KeyType) (now shown : ℕ) → was.quit ≡ false → awaited_look was.due ≡ None → MayWork key screen
      → log_after.newest ≡ plain_entry was.calls count Closed ∷ (entry 0 was.calls count shown (Key key now [] true) ∷ log.newest) → 1 ≤ log_after.spare → now_is ≡ closed_standing (record was { lost = true }) → PutsNothing shown out.put out.put
      → IsDesk start opening contents faults (seen_of log_after screen now_is dirty out taken pending)
  lost_whole key now shown unasked looked sought more room closed puts =
      subst (λ s. IsDesk start opening contents faults (seen_of log_after screen s dirty out taken pending)) (sym closed)
      (desk_lost start opening contents contents faults _ (seen_of log_after screen (closed_standing (record was { lost = true })) dirty out taken pending) count shown key now desk unclosed unasked looked sought refl later more
      (ap (λ j. let t : Tally = record (closed_tally true) { job = j } in t) (closed_told true was.job)) refl refl refl refl room refl refl refl puts)

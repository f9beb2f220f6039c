-- What the terminal of a desk shows, from call to call.
use Rattle.std.proofs.Common.{◌≡◌, ℕ, ◌∷◌, Bool, true, false, List, [], refl, sym, ◌∙◌, ap, subst, Option, Some, None, Result, Ok, Err, OnOk}
use Rattle.std.specs.Prelude.{if◌then◌else◌, not}
use Rattle.std.proofs.lemmas.Bool.{false≢true, true≢false}
use Rattle.tree_trait.specs.declared.devices.SinkError.{SinkError}
use Rattle.key_screen.specs.Grids.{CellGrid}
use Rattle.session_entries.specs.declared.history.Entry.{Entry}
use Rattle.copy_move.specs.Jobs.{Running, waits_on}
use Rattle.copy_move.specs.Told.{told_job}
use Rattle.mc_ui.specs.Screens.{Screen}
use Rattle.mc_desk.specs.declared.granting.Deed.{Deed}
use Rattle.mc_desk.specs.declared.granting.Deed.TheVariants as deed
use Rattle.session_log.specs.Logs.{entries_with_event}
use Rattle.mc_desk.specs.Standings.{event_of}
use Rattle.session_log.specs.Told.{waits_told}
use Rattle.mc_desk.specs.Desks.{IsShown, Seen, ShowsDesk, frame_now}
use Rattle.mc_desk.specs.Outputs.{FitsScreen, Output, ShowsFrame, ShowsLast}
use Rattle.mc_desk.specs.Shown.{ShowsOverAny, none_before}
use Rattle.screen_draw.specs.Drawings.{Display, HasSizeOf}
use Rattle.mc_ui.specs.Screens.{HasSameSize}
use Rattle.mc_desk.specs.Tallies.{Tally, can_step, tally}

-- a drawing that wasn't cut short shows its frame
pub shown_whole : (anew : Bool) (frame : CellGrid) (r : Result (Unit {0}) SinkError) (before after : Output) → ShowsFrame anew frame r before after → after.put.is_cut ≡ false
    → after.display ≡ (let d : Display = record { grid = frame; has_drawn = true } in d)
shown_whole anew frame (Ok x) before after s uncut = s.whole.1
shown_whole anew frame (Err e) before after s uncut = absurd (true≢false (sym s.cut.0 ∙ uncut))

-- the grid has the size of the screen still
pub fits_after : (grid after : CellGrid) (screen now : Screen) → FitsScreen grid screen → HasSizeOf grid after → HasSameSize screen now → FitsScreen after now
fits_after grid after screen now fits sized same = record { lines = same.same_lines ∙ (fits.lines ∙ sym sized.lines); columns = same.same_columns ∙ (fits.columns ∙ sym sized.columns) }

-- a desk that is closed
pub shown_closed : (desk : Seen) → desk.tally.closed ≡ true → FitsScreen desk.out.display.grid desk.screen → IsShown desk
shown_closed desk closed fits = record {
  size = fits;
  drawn = λ unclosed uncut. absurd (true≢false (sym closed ∙ unclosed));
  current = λ unclosed uncut looked. absurd (true≢false (sym closed ∙ unclosed));
  still = λ unclosed looked. absurd (true≢false (sym closed ∙ unclosed));
}

-- a desk whose frame was drawn
pub shown_drawn : (desk : Seen) → none_before desk.newest ≡ false → FitsScreen desk.out.display.grid desk.screen → (desk.out.put.is_cut ≡ false → desk.out.display ≡ (let d : Display = record { grid = frame_now desk; has_drawn = true } in d))
    → (desk.tally.closed ≡ false → desk.tally.due ≡ None → can_step desk.tally.job ≡ false) → IsShown desk
shown_drawn desk written fits whole still = record {
  size = fits;
  drawn = λ unclosed uncut. ap (λ (d : Display). d.has_drawn) (whole uncut) ∙ ap not (sym written);
  current = λ unclosed uncut looked. ap (λ (d : Display). d.grid) (whole uncut);
  still = still;
}

-- something was written down where a job is live
some_written : (newest : List Entry) (job : Running) → (tally newest).job ≡ Some job → none_before newest ≡ false
some_written [] job is = absurd cc
some_written (e ∷ older) job is = refl

-- something was written down where nothing is due: at first the opening frame is
pub looked_written : (newest : List Entry) → (tally newest).due ≡ None → none_before newest ≡ false
looked_written [] none = absurd cc
looked_written (e ∷ older) none = refl

-- a job that can be stepped is due, so the frame needs not be drawn yet
pub shown_stepping : (old new : Seen) (live : Running) → IsShown old → old.tally ≡ tally old.newest → old.tally.job ≡ Some (told_job live) → waits_on live.course ≡ false → new.tally.closed ≡ old.tally.closed → new.tally.due ≡ old.tally.due
    → new.out ≡ old.out → new.screen ≡ old.screen → none_before new.newest ≡ false → IsShown new
shown_stepping old new live shown written is ready closed due out screen some = record {
  size = subst (λ s. FitsScreen new.out.display.grid s) (sym screen) (subst (λ (o : Output). FitsScreen o.display.grid old.screen) (sym out) shown.size);
  drawn = λ unclosed uncut.
      ap (λ (o : Output). o.display.has_drawn) out
      ∙ (shown.drawn (sym closed ∙ unclosed) (sym (ap (λ (o : Output). o.put.is_cut) out) ∙ uncut)
      ∙ ap not (some_written old.newest (told_job live) (sym (ap (λ (t : Tally). t.job) written) ∙ is) ∙ sym some));
  current = λ unclosed uncut looked. absurd (no unclosed looked);
  still = λ unclosed looked. absurd (no unclosed looked);
}
  where
    steps : can_step old.tally.job ≡ true
    steps = ap can_step is ∙ ap (λ b. if b then false else true) ready

    no : new.tally.closed ≡ false → new.tally.due ≡ None → ⊥
    no unclosed looked = false≢true (sym (shown.still (sym closed ∙ unclosed) (sym due ∙ looked)) ∙ steps)

-- a drawing that ended wasn't cut short
pub ended_uncut : (anew : Bool) (frame : CellGrid) (r : Result (Unit {0}) SinkError) (before after : Output) → ShowsFrame anew frame r before after → OnOk r (after.put.is_cut ≡ false)
ended_uncut anew frame (Ok x) before after s = s.whole.0
ended_uncut anew frame (Err e) before after s = tt

-- a terminal shows the desk whose frame was drawn
pub shows_drawn : (anew : Bool) (desk : Seen) (r : Result (Unit {0}) SinkError) (before : Output) → ShowsFrame anew (frame_now desk) r before desk.out → desk.out.put.is_cut ≡ false → ShowsLast desk.out → ShowsDesk desk
shows_drawn anew desk r before s uncut last bytes known =
    let is = shown_whole anew (frame_now desk) r before desk.out s uncut in
    subst (λ (d : Display). ShowsOverAny bytes d.grid) is (last (ap (λ (d : Display). d.has_drawn) is) bytes known)

-- something is written down behind an entry and what it is followed by
pub followed_written : (calls faults : ℕ) (done : Deed) (job : Option Running) (e : Entry) (older : List Entry) → none_before (entries_with_event calls faults (event_of done job) (e ∷ older)) ≡ false
followed_written calls faults deed.Nothing job e older = refl
followed_written calls faults deed.Refuse job e older = refl
followed_written calls faults deed.End job e older = refl
followed_written calls faults (deed.Begin confirmed) job e older = refl
followed_written calls faults (deed.Answer answer) None e older = refl
followed_written calls faults (deed.Answer answer) (Some live) e older = refl

-- what is written down of a request tells of no trouble
pub waits_followed : (calls faults : ℕ) (done : Deed) (job : Option Running) (newest : List Entry) → waits_told (entries_with_event calls faults (event_of done job) newest) ≡ waits_told newest
waits_followed calls faults deed.Nothing job newest = refl
waits_followed calls faults deed.Refuse job newest = refl
waits_followed calls faults deed.End job newest = refl
waits_followed calls faults (deed.Begin confirmed) job newest = refl
waits_followed calls faults (deed.Answer answer) None newest = refl
waits_followed calls faults (deed.Answer answer) (Some live) newest = refl

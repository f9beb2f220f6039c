-- What each terminal shows of the bytes that a session put, entry by entry. Histories
-- stand newest first here.
use Rattle.std.specs.Prelude.{◌≡◌, ◌⊎◌, ℕ, ◌≤◌, Bool, true, false, ⊤, not}
use Rattle.std.specs.Prelude.{List, [], ◌∷◌, ◌++◌, length, take, Option}
use Rattle.tree_trait.specs.Change.{CallLog}
use Rattle.session_entries.specs.declared.history.Event.{Event}
use Rattle.session_entries.specs.declared.history.Event.TheVariants.{Key, Look, Sought, Began}
use Rattle.session_entries.specs.declared.history.Event.TheVariants.{Order, Step, Next, Closed}
use Rattle.session_entries.specs.declared.history.Entry.{Entry}
use Rattle.session_entries.specs.Entries.{last_id}
use Rattle.key_screen.specs.Grids.{CellGrid}
use Rattle.mc_desk.specs.declared.starts.Start.{Start}
use Rattle.mc_desk.specs.LiveRows.{rows_told}
use Rattle.mc_desk.specs.Sessions.{IsSession, SessionState}
use Rattle.mc_desk.specs.Redrawing.{draws_anew}
use Rattle.mc_desk.specs.Shown.{DrawsBehind, ShowsOverAny, frame_due}
use Rattle.mc_desk.specs.Tallies.{next_id}

-- a key that was worked, a look, and the steps of a search draw
abbrev pub draws : Event → Bool
draws (Key key now refusals lost) = not lost
draws (Look refusals) = true
draws Sought = true
draws (Began id plan background) = false
draws (Order id order) = false
draws (Step id did) = false
draws (Next id plan) = false
draws Closed = false

-- none of these entries draws
abbrev pub NoneDraws : List Entry → Type 0
NoneDraws [] = ⊤
NoneDraws (e ∷ older) = (draws e.what ≡ false) × NoneDraws older

-- what a session came to with an entry, and the frame of that
pub record CameTo (start : Option Start) (opening : Option CallLog) (faults : ℕ) (e : Entry)
    (older : List Entry) (frame : CellGrid) : Type 0 where
  pub now : SessionState
  pub session : IsSession start opening faults (e ∷ older) now
  pub frame_is : frame ≡ frame_due now.screen (next_id (last_id older)) (rows_told older)

-- Each terminal shows of the bytes that were put, as many as the entry says, the frame of what the session
-- came to with it, whatever it showed before the session.
pub record ShowsEntry (start : Option Start) (opening : Option CallLog) (faults : ℕ) (e : Entry)
    (older : List Entry) (put : List ℕ) : Type 0 where
  pub frame : CellGrid
  pub came : CameTo start opening faults e older frame
  pub some : e.shown ≤ length put
  pub shows : ShowsOverAny (take e.shown put) frame

-- The drawing of an entry was cut short, which is the last that draws: what was put are the bytes of the
-- drawings that ended, as many as the entry says, and then perhaps a prefix of bytes that would have drawn
-- the frame of what the session came to with it.
pub record CutsEntry (start : Option Start) (opening : Option CallLog) (faults : ℕ) (later : List Entry)
    (e : Entry) (older : List Entry) (put : List ℕ) : Type 0 where
  pub last : NoneDraws later
  pub frame : CellGrid
  pub came : CameTo start opening faults e older frame
  pub ended : List ℕ
  pub counted : e.shown ≡ length ended
  pub put_is : (put ≡ ended) ⊎ ((drawn : List ℕ) × (count : ℕ) × (put ≡ ended ++ take count drawn)
      × DrawsBehind (draws_anew e.what older) ended frame drawn)

-- of each entry that draws each terminal shows its frame, but for the last one where
-- its drawing was cut short
abbrev pub ShowsEach : Option Start → Option CallLog → ℕ → List Entry → Bool → List ℕ → Type 0
ShowsEach start opening faults newest is_cut put =
    (later : List Entry) (e : Entry) (older : List Entry) → newest ≡ later ++ e ∷ older → draws e.what ≡ true
    → ShowsEntry start opening faults e older put
    ⊎ ((is_cut ≡ true) × CutsEntry start opening faults later e older put)

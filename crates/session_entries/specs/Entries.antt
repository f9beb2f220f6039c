-- What a history tells of its session. Histories stand newest first here.
use Rattle.std.specs.Prelude.{◌≡◌, ◌⊎◌, ℕ, ◌≤◌, Bool, true, false, ◌||◌, List, [], ◌∷◌}
use Rattle.session_entries.specs.declared.history.Event.{Event}
use Rattle.session_entries.specs.declared.history.Event.TheVariants.{Key, Look, Sought, Order}
use Rattle.session_entries.specs.declared.history.Event.TheVariants.{Step, Next, Closed}
use Rattle.session_entries.specs.declared.history.Event.TheVariants as event
use Rattle.session_entries.specs.declared.history.Entry.{Entry}

-- the event is the close of the session
abbrev pub closes : Event → Bool
closes Closed = true
closes (Key key now refusals lost) = false
closes (Look refusals) = false
closes Sought = false
closes (event.Began id plan background) = false
closes (Order id order) = false
closes (Step id did) = false
closes (Next id plan) = false

-- the session is closed after these entries
abbrev pub is_closed : List Entry → Bool
is_closed [] = false
is_closed (e ∷ older) = closes e.what || is_closed older

-- the number of the job begun last, after an event
abbrev pub id_after : Event → ℕ → ℕ
id_after (event.Began id plan background) before = id
id_after (Key key now refusals lost) before = before
id_after (Look refusals) before = before
id_after Sought before = before
id_after (Order id order) before = before
id_after (Step id did) before = before
id_after (Next id plan) before = before
id_after Closed before = before

-- the number of the job that these entries began last, or 0
abbrev pub last_id : List Entry → ℕ
last_id [] = 0
last_id (e ∷ older) = id_after e.what (last_id older)

-- how many changing calls were made by the end of these entries
abbrev pub calls_in : List Entry → ℕ
calls_in [] = 0
calls_in (e ∷ older) = e.calls

-- A moment of a session: these entries stand; that one is the same, or has the entry that is under way
-- besides; and so many changing calls were made.
abbrev pub IsMoment : List Entry → List Entry → List Entry → ℕ → Type 0
IsMoment [] standing coming calls = (standing ≡ []) × (coming ≡ []) × (calls ≡ 0)
IsMoment (e ∷ older) standing coming calls =
    ((standing ≡ e ∷ older) × (coming ≡ e ∷ older) × (calls ≡ e.calls))
    ⊎ (((standing ≡ older) × (coming ≡ e ∷ older) × (calls_in older ≤ calls) × (calls ≤ e.calls))
    ⊎ IsMoment older standing coming calls)

-- What can be seen of a history that is being written.
use Rattle.std.specs.Prelude.{ℕ, ◌+◌, List, [], ◌∷◌, Option, Some, None}
use Rattle.session_entries.specs.declared.history.Event.{Event}
use Rattle.session_entries.specs.declared.history.Event.TheVariants.{Began}
use Rattle.session_entries.specs.declared.history.Entry.{Entry}

-- its entries, the newest first, and how many more find room
pub record Logged : Type 0 where
  pub newest : List Entry
  pub spare : ℕ

-- an entry that draws nothing, and is written down with these counts
abbrev pub plain_entry : ℕ → ℕ → Event → Entry
plain_entry calls faults what = record { seat = 0; calls = calls; faults = faults; shown = 0; what = what }

-- these entries, and before them this event, if there is one
abbrev pub entries_with_event : ℕ → ℕ → Option Event → List Entry → List Entry
entries_with_event calls faults None newest = newest
entries_with_event calls faults (Some what) newest = plain_entry calls faults what ∷ newest

-- how many jobs these entries began
abbrev pub begun_by : Event → ℕ
begun_by (Began id plan background) = 1
begun_by event = 0

abbrev pub jobs_begun : List Entry → ℕ
jobs_begun [] = 0
jobs_begun (e ∷ more) = begun_by e.what + jobs_begun more

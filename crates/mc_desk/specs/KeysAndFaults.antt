-- What a history tells of keys and faults, whatever its jobs are. Histories stand newest first here.
use Rattle.std.specs.Prelude.{ℕ, Bool, false, ◌||◌, List, [], ◌∷◌, ◌++◌}
use Rattle.key_screen.specs.declared.keys.Key.{Key as KeyType}
use Rattle.session_entries.specs.declared.history.Event.{Event}
use Rattle.session_entries.specs.declared.history.Event.TheVariants.{Key, Look, Sought, Began}
use Rattle.session_entries.specs.declared.history.Event.TheVariants.{Order, Step, Next, Closed}
use Rattle.session_entries.specs.declared.history.Entry.{Entry}

-- a key was lost since memory ran out
abbrev pub loses : Event → Bool
loses (Key key now refusals lost) = lost
loses (Look refusals) = false
loses Sought = false
loses (Began id plan background) = false
loses (Order id order) = false
loses (Step id did) = false
loses (Next id plan) = false
loses Closed = false

abbrev pub has_lost : List Entry → Bool
has_lost [] = false
has_lost (e ∷ older) = loses e.what || has_lost older

-- how often the tree had failed by the end of these entries, counted from so often at the opening
abbrev pub faults_in : ℕ → List Entry → ℕ
faults_in opening [] = opening
faults_in opening (e ∷ older) = e.faults

-- the keys of a history, the first one first
abbrev pub keys_of : Event → List KeyType
keys_of (Key key now refusals lost) = key ∷ []
keys_of (Look refusals) = []
keys_of Sought = []
keys_of (Began id plan background) = []
keys_of (Order id order) = []
keys_of (Step id did) = []
keys_of (Next id plan) = []
keys_of Closed = []

abbrev pub keys_in : List Entry → List KeyType
keys_in [] = []
keys_in (e ∷ older) = keys_in older ++ keys_of e.what

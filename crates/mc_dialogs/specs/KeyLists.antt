-- What a box answers to a list of keys. Own.
use Rattle.std.specs.Prelude.{List, [], ◌∷◌}
use Rattle.key_screen.specs.declared.keys.Key.{Key}
use Rattle.mc_dialogs.specs.declared.shut.Shut.{Shut}
use Rattle.mc_dialogs.specs.declared.shut.Shut.TheVariants.{Stay, Closed}

-- an answer that closes a box stands; else that of the later keys counts
abbrev pub closed_or : Shut → Shut → Shut
closed_or (Closed reply) later = Closed reply
closed_or Stay later = later

-- The first key that closes a box gives its answer, and where none does it stays. Each key finds the box as
-- the keys before left it: `after` is a box after one key, and `shut` its answer to one.
abbrev pub answer_of : (S : Type 0) → (S → Key → S) → (S → Key → Shut) → S → List Key → Shut
answer_of S after shut s [] = Stay
answer_of S after shut s (key ∷ keys) = closed_or (shut s key) (answer_of S after shut (after s key) keys)

-- a box that an answer closes stays as it is then; else it is as the later keys leave it
abbrev pub left_or : (S : Type 0) → Shut → S → S → S
left_or S (Closed reply) now later = now
left_or S Stay now later = later

-- a box as a list of keys leaves it: as its first key that closes it does, or else as all of them do
abbrev pub left_by : (S : Type 0) → (S → Key → S) → (S → Key → Shut) → S → List Key → S
left_by S after shut s [] = s
left_by S after shut s (key ∷ keys) =
    left_or S (shut s key) (after s key) (left_by S after shut (after s key) keys)

-- what is read only while a box stays
abbrev pub while_it_stays : (S : Type 0) → Shut → List S → List S
while_it_stays S (Closed reply) states = []
while_it_stays S Stay states = states

-- a box before each key of a list, up to the first that closes it
abbrev pub states_before : (S : Type 0) → (S → Key → S) → (S → Key → Shut) → S → List Key → List S
states_before S after shut s [] = []
states_before S after shut s (key ∷ keys) =
    s ∷ while_it_stays S (shut s key) (states_before S after shut (after s key) keys)

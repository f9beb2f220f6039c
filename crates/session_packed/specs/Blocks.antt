-- What can be seen of some entries in one piece of memory, and in many.
use Rattle.std.specs.Prelude.{ℕ, List, [], ◌∷◌, ◌++◌, reverse}
use Rattle.session_entries.specs.declared.history.Entry.{Entry}

-- the entries, the newest first; how many more find room; and the counts of calls and faults after them
pub record BlockView : Type 0 where
  pub newest : List Entry
  pub spare : ℕ
  pub calls : ℕ
  pub faults : ℕ

-- the entries of these blocks, of which the newest stands first
abbrev pub entries_of : List BlockView → List Entry
entries_of [] = []
entries_of (block ∷ older) = block.newest ++ entries_of older

-- the entries of these blocks, of which the oldest stands first, the oldest first
abbrev pub entries_up : List BlockView → List Entry
entries_up [] = []
entries_up (block ∷ newer) = reverse block.newest ++ entries_up newer

-- the entries of a history, the newest first, and how many more find room
pub record Packed : Type 0 where
  pub newest : List Entry
  pub spare : ℕ

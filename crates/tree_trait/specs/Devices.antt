-- What the other devices do with what they hold: keys that come, bytes that a screen was
-- given, commands that ran.
use Rattle.std.specs.Prelude.{◌≡◌, ℕ, ◌<◌, ◌≤◌, Bool, false, ◌==◌, List, [], ◌∷◌, ◌++◌, length}
use Rattle.std.specs.Prelude.{take, drop, Option, Some, Result, Ok, Err}
use Rattle.tree_trait.specs.declared.devices.Command.{Command}
use Rattle.tree_trait.specs.declared.devices.RunOutcome.{RunOutcome}
use Rattle.tree_trait.specs.declared.devices.SourceFault.{SourceFault}
use Rattle.tree_trait.specs.declared.devices.SinkError.{SinkError}
use Rattle.tree_trait.specs.declared.devices.SpawnError.{SpawnError}
use Rattle.tree_trait.specs.declared.devices.SpawnError.TheVariants.{Fault, Memory}

-- bytes were taken from the front of those that are left, and none only at their end or into no room
pub record TakesPrefix (left : List ℕ) (room : List ℕ) (count : ℕ) (new : Option (List ℕ)) : Type 0 where
  pub some : count ≤ length left
  pub bytes : take count room ≡ take count left
  pub rest : new ≡ Some (drop count left)
  pub at_end : count ≡ 0 → 0 < length room → left ≡ []

-- what a source has left after a call that read into this room; a failed one took nothing
abbrev pub HasTaken : List ℕ → List ℕ → Result ℕ SourceFault → Option (List ℕ) → Type 0
HasTaken left room (Ok count) new = TakesPrefix left room count new
HasTaken left room (Err fault) new = new ≡ Some left

-- whether this byte is the next one of those that are left
abbrev pub is_next : ℕ → List ℕ → Bool
is_next byte [] = false
is_next byte (next ∷ rest) = next == byte

-- what a sink was given after a call; a failed one gave it a front of the bytes
abbrev pub HasPut : {T : Type 0} → List ℕ → List ℕ → Result T SinkError → Option (List ℕ) → Type 0
HasPut given bytes (Ok x) new = new ≡ Some (given ++ bytes)
HasPut given bytes (Err error) new = (count : ℕ) × (new ≡ Some (given ++ take count bytes))

-- what a spawner ran after a call; one that had a fault may have run the command, one
-- that found no memory has not
abbrev pub HasRun : List Command → Command → Result RunOutcome SpawnError → Option (List Command) → Type 0
HasRun runs command (Ok outcome) new = new ≡ Some (runs ++ command ∷ [])
HasRun runs command (Err Fault) new = new ≡ Some (runs ++ command ∷ [])
HasRun runs command (Err Memory) new = new ≡ Some runs

-- Which bytes of the keyboard a run takes, and which it leaves.
use Rattle.std.specs.Prelude.{◌≡◌, ◌⊎◌, ℕ, ◌+◌, ◌≤◌, true, List, [], length, take}
use Rattle.std.specs.Prelude.{drop, Option, Some, None, Result, Ok, Err}
use Rattle.std.specs.Option.{option_map}
use Rattle.tree_trait.specs.Answers.{IfKnown}
use Rattle.tree_trait.specs.Devices.{is_next}
use Rattle.tree_trait.specs.declared.devices.SourceFault.{SourceFault}
use Rattle.key_screen.specs.DecodedKeys.{decoded_keys}
use Rattle.session_entries.specs.declared.history.Entry.{Entry}
use Rattle.mc_desk.specs.KeysAndFaults.{keys_in}
use Rattle.mc_desk.specs.KeysTaken.{LacksSecond, stop_byte}
use Rattle.mc_main.specs.declared.session.SessionEnd.{SessionEnd}
use Rattle.mc_main.specs.declared.session.SessionEnd.TheVariants.{ScreenFailed, NoMemory}
use Rattle.mc_main.specs.Statuses.{IsCutShort}

-- what a keyboard that gives these bytes has left once so many were taken
abbrev pub left_of : Option (List ℕ) → ℕ → Option (List ℕ)
left_of stream taken = option_map (drop taken) stream

-- all of them were taken
abbrev pub TookAll : Option (List ℕ) → Option (List ℕ) → Type 0
TookAll stream left = IfKnown stream (λ bytes. left ≡ Some [])

-- The keys of a run are those of the bytes that its session took, the first that the keyboard gives, and
-- the others are left. Bytes behind the last key, as half of one at which the keyboard ends, complete none:
-- they were taken, and nothing comes of them. Where the run was cut short, the second of two keys that the
-- last byte completed may lack, and one byte more may be gone.
pub record ReadsKeys (bytes : List ℕ) (left : Option (List ℕ)) (status : ℕ)
    (newest : List Entry) : Type 0 where
  pub taken : ℕ
  pub some : taken ≤ length bytes
  pub keys : ((decoded_keys (take taken bytes)).keys ≡ keys_in newest)
      ⊎ (LacksSecond (take taken bytes) newest × IsCutShort status)
  pub others : (left ≡ Some (drop taken bytes)) ⊎ ((left ≡ Some (drop (taken + 1) bytes)) × IsCutShort status)

-- the next byte that a source gives, where that is known, is that of C-c, which stops a search
abbrev pub StopIsNext : Option (List ℕ) → Type 0
StopIsNext left = IfKnown left (λ bytes. is_next stop_byte bytes ≡ true)

-- how many bytes a source gave
abbrev pub bytes_given : Result (Option ℕ) SourceFault → ℕ
bytes_given (Ok None) = 0
bytes_given (Ok (Some byte)) = 1
bytes_given (Err fault) = 0

-- the session was cut short by a draw that failed, or since memory ran out
abbrev pub IsCut : Option SessionEnd → Type 0
IsCut end = (end ≡ Some ScreenFailed) ⊎ (end ≡ Some NoMemory)

-- the keyboard has left what its session didn't take; where that was cut short perhaps one byte less
abbrev pub LeavesOthers : Option (List ℕ) → ℕ → Option SessionEnd → Option (List ℕ) → Type 0
LeavesOthers stream taken end left =
    (left ≡ left_of stream taken) ⊎ ((left ≡ left_of stream (taken + 1)) × IsCut end)

-- The sequences of ECMA-48 that are written to a terminal, by the bytes after their escape: `[r;cH` places
-- the next cluster (CUP), `[2J` clears (ED), `[0m`, `[1m` and `[7m` say how text looks (SGR). That no
-- others are read is our own.
use Rattle.std.specs.Prelude.{ℕ, ◌+◌, ◌-◌, ◌*◌, min, Bool, ◌&&◌, ◌==◌, nat_le}
use Rattle.std.specs.Prelude.{if◌then◌else◌, List, [], ◌∷◌, drop, Option, Some, None}
use Rattle.key_screen.specs.declared.cells.Attr.TheVariants.{Plain, Bold, Reverse}
use Rattle.key_screen.specs.declared.control.Control.{Control}
use Rattle.key_screen.specs.declared.control.Control.TheVariants.{Clear, Look, Place}
use Rattle.key_screen.specs.declared.control.Number.{Number}
use Rattle.key_screen.specs.declared.control.Sequence.{Sequence}

-- one more digit of a number; past 65,535 none is on any screen
abbrev pub with_digit : ℕ → ℕ → ℕ
with_digit n digit = min (n * 10 + (digit - 48)) 65536

-- a byte is a decimal digit
abbrev pub is_digit : ℕ → Bool
is_digit byte = nat_le 48 byte && nat_le byte 57

-- the number that bytes begin with, behind digits that make `n`
abbrev pub number_from : ℕ → ℕ → List ℕ → Number
number_from n digits [] = record { value = n; digits = digits }
number_from n digits (byte ∷ bytes) =
    if is_digit byte then number_from (with_digit n byte) (digits + 1) bytes
    else record { value = n; digits = digits }

-- a control, and how many bytes it takes after its escape
abbrev pub sequence_of : Control → ℕ → Option Sequence
sequence_of control bytes = Some (record { control = control; bytes = bytes })

-- after the second number of a placement
abbrev pub placement_sequence : Number → Number → List ℕ → Option Sequence
placement_sequence row column [] = None
placement_sequence row column (byte ∷ bytes) =
    if byte == 72 then sequence_of (Place row.value column.value) (row.digits + column.digits + 3) else None

-- after the first number of a placement
abbrev pub placed_in_row : Number → List ℕ → Option Sequence
placed_in_row row [] = None
placed_in_row row (byte ∷ bytes) =
    if byte == 59 then
    (let column = number_from 0 0 bytes in placement_sequence row column (drop column.digits bytes)) else None

-- after `[`: a placement
abbrev pub placement_of : List ℕ → Option Sequence
placement_of bytes = let row = number_from 0 0 bytes in placed_in_row row (drop row.digits bytes)

-- after `[`: clearing, a look, or a placement
abbrev pub bracket_sequence : List ℕ → Option Sequence
bracket_sequence (first ∷ (second ∷ bytes)) =
    if first == 48 && second == 109 then sequence_of (Look Plain) 3
    else if first == 49 && second == 109 then sequence_of (Look Bold) 3
    else if first == 55 && second == 109 then sequence_of (Look Reverse) 3
    else if first == 50 && second == 74 then sequence_of Clear 3
    else placement_of (first ∷ (second ∷ bytes))
bracket_sequence bytes = None

-- the sequence that bytes after an escape begin with, if they begin with one that is read
abbrev pub control_of : List ℕ → Option Sequence
control_of [] = None
control_of (byte ∷ bytes) = if byte == 91 then bracket_sequence bytes else None

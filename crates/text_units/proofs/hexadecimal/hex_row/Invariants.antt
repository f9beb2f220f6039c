-- The columns so far, and those that are left, are the row.
use Rattle.std.proofs.Common.{◌≡◌, ◌+◌, ◌-◌, ◌++◌, min, length, string_bytes}
use Rattle.text_units.specs.HexRows.{offset_digits, hex_columns}
use Rattle.text_units.proofs.hexadecimal.hex_row.Given as goal

abbrev pub invariant-loop-column : goal.invariant-loop-column
invariant-loop-column l =
    string_bytes l.row ++ hex_columns l.offset l.bytes l.column (min l.columns (offset_digits l.offset + 52 + length l.bytes) - l.column)
    ≡ hex_columns l.offset l.bytes 0 (min l.columns (offset_digits l.offset + 52 + length l.bytes))

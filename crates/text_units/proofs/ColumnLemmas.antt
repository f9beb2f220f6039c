-- One column of a row, and those behind it.
use Rattle.std.proofs.Common.{◌≡◌, ℕ, suc, List, [], ◌∷◌, ◌+◌, ap}
use Rattle.text_units.specs.HexRows.{hex_column, hex_columns}

pub hex-further : (offset : ℕ) (bytes : List ℕ) (column left more : ℕ) → more ≡ suc left
    → hex_columns offset bytes column more ≡ hex_column offset bytes column ∷ hex_columns offset bytes (column + 1) left
unfolding hex_columns
hex-further offset bytes column left more one_more = ap (hex_columns offset bytes column) one_more

pub hex-none : (offset : ℕ) (bytes : List ℕ) (column count : ℕ) → count ≡ 0 → hex_columns offset bytes column count ≡ []
unfolding hex_columns
hex-none offset bytes column count none = ap (hex_columns offset bytes column) none

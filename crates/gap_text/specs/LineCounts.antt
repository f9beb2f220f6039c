-- How many newlines there are in the first block of a text, in the first two, and so on. Own.
use Rattle.std.specs.Prelude.{◌≡◌, ℕ, ◌+◌, ◌*◌, ◌<◌, ◌≤◌, List, length, take, reverse, slice_index}
use Rattle.std.specs.List.{count_by}
use Rattle.memchr.specs.Find.{is_byte}
use Rattle.gap_text.specs.declared.line_counts.Side.{Side}
use Rattle.gap_text.specs.declared.line_counts.Side.TheVariants.{Front, Back}

abbrev pub newlines : List ℕ → ℕ
newlines bytes = count_by (is_byte 10) bytes

-- a half of a text, seen from the text's end on its side
abbrev pub seen_from : Side → List ℕ → List ℕ
seen_from Front half = half
seen_from Back half = reverse half

-- the newlines of the first block, of the first two, and so on; there may be further blocks
pub record AreCounts (counts bytes : List ℕ) : Type 0 where
  pub fits : 65536 * length counts ≤ length bytes
  pub each : (i : ℕ) → i < length counts → slice_index counts i ≡ newlines (take (65536 * (i + 1)) bytes)

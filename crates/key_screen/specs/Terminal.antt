-- What a terminal shows after bytes: text, and the sequences of specs/Controls. As xterm does, but for what
-- isn't read, which is our own, and so is that bold and reverse never add up.
use Rattle.std.specs.Prelude.{◌≡◌, ⊤, ℕ, ◌+◌, ◌-◌, ◌*◌, min, Bool, true, false, ◌&&◌}
use Rattle.std.specs.Prelude.{◌==◌, nat_le, if◌then◌else◌, List, [], ◌∷◌, length, take}
use Rattle.std.specs.Prelude.{drop, replicate, Option, Some, None, Result, Ok, Err}
use Rattle.std.specs.Str.{is_utf8}
use Rattle.std.specs.Str.Lossy.{utf8_valid_len}
use Rattle.unicode_segmentation.specs.Grapheme.{graphemes}
use Rattle.key_screen.specs.declared.cells.Attr.{Attr}
use Rattle.key_screen.specs.declared.cells.Attr.TheVariants.{Plain}
use Rattle.key_screen.specs.declared.cells.Cell.{Cell}
use Rattle.key_screen.specs.declared.control.Control.{Control}
use Rattle.key_screen.specs.declared.control.Control.TheVariants.{Clear, Look, Place}
use Rattle.key_screen.specs.declared.control.Sequence.{Sequence}
use Rattle.key_screen.specs.declared.grid.GridError.{GridError}
use Rattle.key_screen.specs.declared.grid.GridError.TheVariants.{BadByte, Memory}
use Rattle.key_screen.specs.Cells.{blank_cell}
use Rattle.key_screen.specs.Controls.{control_of}
use Rattle.key_screen.specs.DrawnText.{cluster_columns, drawn_glyph, is_drawable, put_glyph}
use Rattle.key_screen.specs.Grids.{CellGrid}
use Rattle.key_screen.specs.KeySpelling.{is_within}

-- the cells of a terminal, the place of the next cluster in them, the columns left in its
-- row, and how it will look
pub record TerminalState : Type 0 where
  pub lines : ℕ
  pub columns : ℕ
  pub cells : List Cell
  pub at : ℕ
  pub room : ℕ
  pub mode : Attr

-- a terminal before any byte; one of no lines has no room
abbrev pub blank_terminal : ℕ → ℕ → TerminalState
blank_terminal lines columns =
    record {
      lines = lines;
      columns = columns;
      cells = replicate (lines * columns) blank_cell;
      at = 0;
      room = min columns (lines * columns);
      mode = Plain;
    }

-- a terminal shows a cluster that can be drawn, and for which its row has room
abbrev pub can_show : TerminalState → List ℕ → Bool
can_show t cluster = is_drawable cluster && nat_le (cluster_columns cluster) t.room

-- a cluster was shown, and the next goes behind it
abbrev pub with_cluster : TerminalState → List ℕ → TerminalState
with_cluster t cluster =
    record t {
      cells = put_glyph t.cells t.at (drawn_glyph cluster) t.mode;
      at = t.at + cluster_columns cluster;
      room = t.room - cluster_columns cluster;
    }

-- a cluster at a position of the bytes is read
abbrev pub cluster_read : TerminalState → ℕ → List ℕ → Result TerminalState ℕ
cluster_read t position cluster = if can_show t cluster then Ok (with_cluster t cluster) else Err position

-- clusters are read up to one that isn't shown, whose position is told; the first stands at this position
abbrev pub clusters_read : TerminalState → ℕ → List (List ℕ) → Result TerminalState ℕ
clusters_read t position [] = Ok t
clusters_read t position (cluster ∷ clusters) =
    if can_show t cluster then clusters_read (with_cluster t cluster) (position + length cluster) clusters
    else Err position

-- behind what is read stands a byte that isn't, at this position
abbrev pub up_to_fault : Result TerminalState ℕ → ℕ → Result TerminalState ℕ
up_to_fault (Ok t) position = Err position
up_to_fault (Err earlier) position = Err earlier

-- text is read as its clusters, up to what is no UTF-8
abbrev pub text_read : TerminalState → ℕ → List ℕ → Result TerminalState ℕ
text_read t position bytes =
    if is_utf8 bytes then clusters_read t position (graphemes true bytes)
    else up_to_fault (clusters_read t position (graphemes true (take (utf8_valid_len bytes) bytes)))
    (position + utf8_valid_len bytes)

-- what an answer tells of what was to be read: all of it, or the first byte that isn't read
abbrev pub Reads : {T : Type 0} → Result TerminalState ℕ → Result T GridError → TerminalState → Type 0
Reads told (Ok x) new = told ≡ Ok new
Reads told (Err (BadByte position)) new = told ≡ Err position
Reads told (Err Memory) new = ⊤

-- bold or reverse is read only while the mode is plain
abbrev pub looking : TerminalState → Attr → Attr → Option TerminalState
looking t Plain attr = Some (record t { mode = attr })
looking t other attr = None

-- what a control makes of a terminal, if it is read there
abbrev pub controlled_terminal : TerminalState → Control → Option TerminalState
controlled_terminal t Clear = Some (record t { cells = replicate (length t.cells) blank_cell })
controlled_terminal t (Look Plain) = Some (record t { mode = Plain })
controlled_terminal t (Look attr) = looking t t.mode attr
controlled_terminal t (Place row column) =
    if is_within 1 t.lines row && is_within 1 t.columns column
    then Some (record t { at = (row - 1) * t.columns + (column - 1); room = t.columns - (column - 1) })
    else None

-- the text behind a control, if that is read; its escape stands at this position
abbrev pub behind_control : ℕ → List ℕ → Sequence → Option TerminalState → Result TerminalState ℕ
behind_control position bytes sequence None = Err position
behind_control position bytes sequence (Some t) =
    text_read t (position + 1 + sequence.bytes) (drop sequence.bytes bytes)

abbrev pub behind_sequence : TerminalState → ℕ → List ℕ → Option Sequence → Result TerminalState ℕ
behind_sequence t position bytes None = Err position
behind_sequence t position bytes (Some sequence) =
    behind_control position bytes sequence (controlled_terminal t sequence.control)

-- the bytes after an escape at this position, up to the next one, are read
abbrev pub sequence_read : TerminalState → ℕ → List ℕ → Result TerminalState ℕ
sequence_read t position bytes = behind_sequence t position bytes (control_of bytes)

-- a control was read, or it was not and nothing has changed
abbrev pub Obeys : Option TerminalState → Bool → TerminalState → Type 0
Obeys told true new = told ≡ Some new
Obeys told false new = told ≡ None

-- bytes are cut at each escape: what stands before the first, and what follows each of them
abbrev pub in_front : ℕ → List (List ℕ) → List (List ℕ)
in_front byte [] = (byte ∷ []) ∷ []
in_front byte (segment ∷ segments) = (byte ∷ segment) ∷ segments

abbrev pub segments : List ℕ → List (List ℕ)
segments [] = [] ∷ []
segments (byte ∷ bytes) = if byte == 27 then [] ∷ segments bytes else in_front byte (segments bytes)

-- what follows each escape is read, behind what was read before; the first escape stands at this position
abbrev pub sequences_read : Result TerminalState ℕ → ℕ → List (List ℕ) → Result TerminalState ℕ
sequences_read told position [] = told
sequences_read (Ok t) position (bytes ∷ more) =
    sequences_read (sequence_read t position bytes) (position + 1 + length bytes) more
sequences_read (Err earlier) position (bytes ∷ more) = Err earlier

-- all bytes, cut at their escapes, are read
abbrev pub all_read : TerminalState → List (List ℕ) → Result TerminalState ℕ
all_read t [] = Ok t
all_read t (text ∷ sequences) = sequences_read (text_read t 0 text) (length text) sequences

-- what a terminal shows
abbrev pub shown_grid : Result TerminalState ℕ → Result CellGrid ℕ
shown_grid (Ok t) = Ok (record { lines = t.lines; columns = t.columns; cells = t.cells })
shown_grid (Err position) = Err position

-- what a blank terminal of this size shows after these bytes, or the position of the first
-- byte that it doesn't read
abbrev pub screen_after : ℕ → ℕ → List ℕ → Result CellGrid ℕ
screen_after lines columns bytes = shown_grid (all_read (blank_terminal lines columns) (segments bytes))

-- what an answer tells of a screen
abbrev pub TellsScreen : Result CellGrid ℕ → Result CellGrid GridError → Type 0
TellsScreen told (Ok grid) = told ≡ Ok grid
TellsScreen told (Err (BadByte position)) = told ≡ Err position
TellsScreen told (Err Memory) = ⊤

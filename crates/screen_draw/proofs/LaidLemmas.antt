-- whatever a terminal reads, it shows cells that are laid out
use Rattle.std.proofs.Common.{◌≡◌, ℕ, ◌+◌, ◌-◌, ◌*◌, ◌≤◌, Bool, true, false, ◌&&◌, nat_le, if◌then◌else◌, List, [], ◌∷◌, length, take, drop, replicate, Option, Some, None, Result, Ok, Err, refl, ◌∙◌, ap, subst, arith, mul-le-mul_right}
use Rattle.std.specs.Prelude.{⊤}
use Rattle.std.specs.Str.{is_utf8}
use Rattle.std.specs.Str.Lossy.{utf8_valid_len}
use Rattle.std.proofs.lemmas.List.{length-replicate}
use Rattle.std.proofs.lemmas.Bool.Decides.{nat_tests}
use Rattle.unicode_segmentation.specs.Grapheme.{graphemes}
use Rattle.key_screen.specs.declared.cells.Attr.{Attr}
use Rattle.key_screen.specs.declared.cells.Attr.TheVariants.{Plain, Bold, Reverse}
use Rattle.key_screen.specs.declared.control.Control.{Control}
use Rattle.key_screen.specs.declared.control.Control.TheVariants.{Clear, Look, Place}
use Rattle.key_screen.specs.declared.control.Sequence.{Sequence}
use Rattle.key_screen.specs.Cells.{blank_cell}
use Rattle.key_screen.specs.Controls.{control_of}
use Rattle.key_screen.specs.DrawnText.{cluster_columns, is_drawable, drawn_glyph, put_glyph}
use Rattle.key_screen.specs.Grids.{CellGrid}
use Rattle.key_screen.specs.KeySpelling.{is_within}
use Rattle.key_screen.specs.Layout.{IsLaidOut, IsRowEnd}
use Rattle.key_screen.specs.Terminal.{TerminalState, blank_terminal, can_show, with_cluster, clusters_read, text_read, up_to_fault, looking, controlled_terminal, behind_control, behind_sequence, sequence_read, sequences_read, all_read, segments, shown_grid}
use Rattle.key_screen.proofs.RowLemmas.{blanks-laid_out, blank_room, row_end, cluster-laid_out, length-put_glyph}
use Rattle.screen_draw.specs.Drawings.{Shows}
use Rattle.screen_draw.proofs.ReadingLemmas.{state}
use Rattle.screen_draw.proofs.TestLemmas.{and_left, and_right}

-- what a terminal keeps
record Keeps (t : TerminalState) : Type 0 where
  pub size : length t.cells ≡ t.lines * t.columns
  pub within : t.at + t.room ≤ length t.cells
  pub short : t.room ≤ t.columns
  pub end : IsRowEnd t.columns (t.at + t.room)
  pub laid : IsLaidOut t.columns t.cells

abbrev KeepsTold : Result TerminalState ℕ → Type 0
KeepsTold (Ok t) = Keeps t
KeepsTold (Err position) = ⊤

abbrev KeepsSome : Option TerminalState → Type 0
KeepsSome (Some t) = Keeps t
KeepsSome None = ⊤

keeps-cluster : (t : TerminalState) (cluster : List ℕ) → Keeps t → can_show t cluster ≡ true → Keeps (with_cluster t cluster)
keeps-cluster t cluster keeps shown =
    let drawable : is_drawable cluster ≡ true = and_left (is_drawable cluster) (nat_le (cluster_columns cluster) t.room) shown in
    let room : nat_le (cluster_columns cluster) t.room ≡ true = and_right (is_drawable cluster) (nat_le (cluster_columns cluster) t.room) shown in
    let fits : cluster_columns cluster ≤ t.room = grind (arith, nat_tests) in
    let short = keeps.short in
    let within = keeps.within in
    let size : length (put_glyph t.cells t.at (drawn_glyph cluster) t.mode) ≡ length t.cells = length-put_glyph t.cells t.at (drawn_glyph cluster) t.mode in
    let sum : t.at + t.room ≡ t.at + cluster_columns cluster + (t.room - cluster_columns cluster) = omega arith in record {
      size = size ∙ keeps.size;
      within = omega arith;
      short = omega arith;
      end = subst (IsRowEnd t.columns) sum keeps.end;
      laid = cluster-laid_out t.columns t.cells t.at t.room cluster (drawn_glyph cluster) t.mode drawable refl fits short keeps.end within keeps.laid;
    }

keeps-clusters : (t : TerminalState) (position : ℕ) (clusters : List (List ℕ)) → Keeps t → KeepsTold (clusters_read t position clusters)
keeps-clusters t position [] keeps = keeps
keeps-clusters t position (cluster ∷ clusters) keeps =
    by_test (can_show t cluster) refl (λ (next : Keeps (with_cluster t cluster)). keeps-clusters (with_cluster t cluster) (position + length cluster) clusters next) where
      by_test : (test : Bool) → can_show t cluster ≡ test → (Keeps (with_cluster t cluster) → KeepsTold (clusters_read (with_cluster t cluster) (position + length cluster) clusters))
          → KeepsTold (if test then clusters_read (with_cluster t cluster) (position + length cluster) clusters else Err position)
      by_test true is go_on = go_on (keeps-cluster t cluster keeps is)
      by_test false is go_on = tt

keeps-fault : (told : Result TerminalState ℕ) (position : ℕ) → KeepsTold (up_to_fault told position)
keeps-fault (Ok t) position = tt
keeps-fault (Err earlier) position = tt

keeps-text : (t : TerminalState) (position : ℕ) (bytes : List ℕ) → Keeps t → KeepsTold (text_read t position bytes)
keeps-text t position bytes keeps = by_test (is_utf8 bytes) where
  by_test : (test : Bool) → KeepsTold (if test then clusters_read t position (graphemes true bytes)
      else up_to_fault (clusters_read t position (graphemes true (take (utf8_valid_len bytes) bytes))) (position + utf8_valid_len bytes))
  by_test true = keeps-clusters t position (graphemes true bytes) keeps
  by_test false = keeps-fault (clusters_read t position (graphemes true (take (utf8_valid_len bytes) bytes))) (position + utf8_valid_len bytes)

keeps-mode : (t : TerminalState) (attr : Attr) → Keeps t → Keeps (record t { mode = attr })
keeps-mode t attr keeps = record { size = keeps.size; within = keeps.within; short = keeps.short; end = keeps.end; laid = keeps.laid }

keeps-looking : (t : TerminalState) (mode attr : Attr) → Keeps t → KeepsSome (looking t mode attr)
keeps-looking t Plain attr keeps = keeps-mode t attr keeps
keeps-looking t Bold attr keeps = tt
keeps-looking t Reverse attr keeps = tt

keeps-place : (t : TerminalState) (row column : ℕ) → Keeps t → (is_within 1 t.lines row && is_within 1 t.columns column) ≡ true
    → Keeps (record t { at = (row - 1) * t.columns + (column - 1); room = t.columns - (column - 1) })
keeps-place t row column keeps is =
    let rows = and_left (is_within 1 t.lines row) (is_within 1 t.columns column) is in
    let columns = and_right (is_within 1 t.lines row) (is_within 1 t.columns column) is in
    let first : 1 ≤ row = grind (arith, nat_tests, rows) in
    let last : row ≤ t.lines = grind (arith, nat_tests, rows) in
    let left : 1 ≤ column = grind (arith, nat_tests, columns) in
    let right : column ≤ t.columns = grind (arith, nat_tests, columns) in
    let end : (row - 1) * t.columns + (column - 1) + (t.columns - (column - 1)) ≡ row * t.columns = row_end t.columns row column first left right in
    let whole : row * t.columns ≤ t.lines * t.columns = mul-le-mul_right t.columns last in
    let size = keeps.size in record {
      size = keeps.size;
      within = omega arith;
      short = omega arith;
      end = (row, end);
      laid = keeps.laid;
    }

keeps-control : (t : TerminalState) (control : Control) → Keeps t → KeepsSome (controlled_terminal t control)
keeps-control t (Look Plain) keeps = keeps-mode t Plain keeps
keeps-control t (Look Bold) keeps = keeps-looking t t.mode Bold keeps
keeps-control t (Look Reverse) keeps = keeps-looking t t.mode Reverse keeps
keeps-control t Clear keeps =
    let size : length (replicate (length t.cells) blank_cell) ≡ length t.cells = length-replicate (length t.cells) blank_cell in
    let within = keeps.within in record {
      size = size ∙ keeps.size;
      within = omega arith;
      short = keeps.short;
      end = keeps.end;
      laid = blanks-laid_out t.columns (length t.cells);
    }
keeps-control t (Place row column) keeps = by_test (is_within 1 t.lines row && is_within 1 t.columns column) refl where
  by_test : (test : Bool) → (is_within 1 t.lines row && is_within 1 t.columns column) ≡ test
      → KeepsSome (if test then Some (record t { at = (row - 1) * t.columns + (column - 1); room = t.columns - (column - 1) }) else None)
  by_test true is = keeps-place t row column keeps is
  by_test false is = tt

keeps-behind : (position : ℕ) (bytes : List ℕ) (sequence : Sequence) (told : Option TerminalState) → KeepsSome told → KeepsTold (behind_control position bytes sequence told)
keeps-behind position bytes sequence None keeps = tt
keeps-behind position bytes sequence (Some t) keeps = keeps-text t (position + 1 + sequence.bytes) (drop sequence.bytes bytes) keeps

keeps-sequence : (t : TerminalState) (position : ℕ) (bytes : List ℕ) (sequence : Option Sequence) → Keeps t → KeepsTold (behind_sequence t position bytes sequence)
keeps-sequence t position bytes None keeps = tt
keeps-sequence t position bytes (Some sequence) keeps = keeps-behind position bytes sequence (controlled_terminal t sequence.control) (keeps-control t sequence.control keeps)

keeps-sequences : (told : Result TerminalState ℕ) (position : ℕ) (sequences : List (List ℕ)) → KeepsTold told → KeepsTold (sequences_read told position sequences)
keeps-sequences told position [] keeps = keeps
keeps-sequences (Ok t) position (bytes ∷ more) keeps =
    keeps-sequences (sequence_read t position bytes) (position + 1 + length bytes) more (keeps-sequence t position bytes (control_of bytes) keeps)
keeps-sequences (Err earlier) position (bytes ∷ more) keeps = tt

keeps-all : (t : TerminalState) (all : List (List ℕ)) → Keeps t → KeepsTold (all_read t all)
keeps-all t [] keeps = keeps
keeps-all t (text ∷ sequences) keeps = keeps-sequences (text_read t 0 text) (length text) sequences (keeps-text t 0 text keeps)

keeps-blank : (lines columns : ℕ) → Keeps (blank_terminal lines columns)
keeps-blank lines columns =
    let size : length (replicate (lines * columns) blank_cell) ≡ lines * columns = length-replicate (lines * columns) blank_cell in record {
      size = size;
      within = omega arith;
      short = omega arith;
      end = blank_room lines columns;
      laid = blanks-laid_out columns (lines * columns);
    }

-- a terminal that shows a screen: its place, room and look, and how its cells stand
pub record IsTerminal (told : Result TerminalState ℕ) (screen : CellGrid) : Type 0 where
  pub at : ℕ
  pub room : ℕ
  pub mode : Attr
  pub is : told ≡ Ok (state screen.lines screen.columns screen.cells at room mode)
  pub size : length screen.cells ≡ screen.lines * screen.columns
  pub laid : IsLaidOut screen.columns screen.cells

terminal_of : (told : Result TerminalState ℕ) (screen : CellGrid) → KeepsTold told → shown_grid told ≡ Ok screen → IsTerminal told screen
terminal_of (Ok t) screen keeps shows =
    let grid : CellGrid = record { lines = t.lines; columns = t.columns; cells = t.cells } in
    let same : grid ≡ screen = cc in record {
      at = t.at;
      room = t.room;
      mode = t.mode;
      is = ap (λ (g : CellGrid). Ok (state g.lines g.columns g.cells t.at t.room t.mode)) same;
      size = subst (λ (g : CellGrid). length g.cells ≡ g.lines * g.columns) same keeps.size;
      laid = subst (λ (g : CellGrid). IsLaidOut g.columns g.cells) same keeps.laid;
    }
terminal_of (Err position) screen keeps shows = absurd (cc)

pub shows-terminal : (given : List ℕ) (screen : CellGrid) → Shows given screen → IsTerminal (all_read (blank_terminal screen.lines screen.columns) (segments given)) screen
shows-terminal given screen shows =
    terminal_of (all_read (blank_terminal screen.lines screen.columns) (segments given)) screen
    (keeps-all (blank_terminal screen.lines screen.columns) (segments given) (keeps-blank screen.lines screen.columns)) shows

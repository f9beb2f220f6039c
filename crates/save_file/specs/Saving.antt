-- The save of a file as it stands: the copy of its bytes to the target, in which the target stands for a
-- source too, and the bytes.
use Rattle.std.specs.Prelude.{◌≡◌, ℕ, ⊤, List, length, take, drop, nat_lt, if◌then◌else◌}
use Rattle.mc_text.specs.Routes.{Route}
use Rattle.copy_file.specs.declared.stage.Stage.{Stage}
use Rattle.copy_file.specs.declared.stage.Stage.TheVariants.{Begin, Fill, Clean, Left, Decided}
use Rattle.copy_file.specs.Copying as file
use Rattle.copy_file.specs.Copying.{Copying, chunk_bytes}
use Rattle.save_file.specs.declared.piece.Piece.{Piece}
use Rattle.save_file.specs.declared.piece.Piece.TheVariants.{Make, Write, Settle}

pub record Saving : Type 0 where
  pub copy : Copying
  pub bytes : List ℕ

abbrev pub saving : Copying → List ℕ → Saving
saving copy bytes = record { copy = copy; bytes = bytes }

-- the save just begun
abbrev pub begun_save : ℕ → Route → List ℕ → Saving
begun_save job target bytes = saving (file.begun_copy job target target) bytes

-- a part is that of a file with so many bytes
abbrev pub IsOfSize : ℕ → Stage → Type 0
IsOfSize size (Fill part facts done) = facts.size ≡ size
IsOfSize size Begin = ⊤
IsOfSize size (Clean part follows) = ⊤
IsOfSize size (Left part) = ⊤
IsOfSize size Decided = ⊤

-- the copy is of these bytes, and reads no source of its own
pub record IsOwn (s : Saving) : Type 0 where
  pub source : s.copy.source ≡ s.copy.target
  pub size : IsOfSize (length s.bytes) s.copy.stage

-- the next bytes, once so many are written
abbrev pub chunk_at : List ℕ → ℕ → List ℕ
chunk_at bytes done = take chunk_bytes (drop done bytes)

-- which piece of work comes next
abbrev pub piece_at : Stage → Piece
piece_at Begin = Make
piece_at (Fill part facts done) = if nat_lt done facts.size then Write done else Settle
piece_at (Clean part follows) = Settle
piece_at (Left part) = Settle
piece_at Decided = Settle

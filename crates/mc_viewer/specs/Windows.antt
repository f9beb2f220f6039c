-- How much of a file a row's text rests on, and the piece of it that is kept (own).
use Rattle.std.specs.Prelude.{◌≡◌, ℕ, ◌+◌, ◌*◌, List, length, take, drop, Option}
use Rattle.tree_trait.specs.Change.{CallLog}
use Rattle.tree_trait.specs.Answers.{IfKnown}
use Rattle.mc_viewer.specs.declared.layout.Shape.{Shape}
use Rattle.mc_viewer.specs.declared.layout.Shape.TheVariants.{Wrapped, Unwrapped, Hex}
use Rattle.mc_viewer.specs.declared.subject.Subject.{Subject}
use Rattle.mc_viewer.specs.Viewing.{held_bytes}

-- the bytes from a row's start on that say what it shows: a character has four at most, and a column at least
abbrev pub window_of : Shape → ℕ → ℕ → ℕ
window_of Wrapped columns left = 4 * columns + 9
window_of Unwrapped columns left = 4 * (left + columns) + 9
window_of Hex columns left = 16

-- the bytes that stand from a place on
abbrev pub IsPieceAt : List ℕ → ℕ → List ℕ → Type 0
IsPieceAt bytes start piece = piece ≡ take (length piece) (drop start bytes)

-- these are bytes of what is viewed from a place on, where its bytes are known
abbrev pub IsKept : Option CallLog → Subject → ℕ → List ℕ → Type 0
IsKept contents subject start piece =
    IfKnown (held_bytes contents subject) (λ bytes. IsPieceAt bytes start piece)

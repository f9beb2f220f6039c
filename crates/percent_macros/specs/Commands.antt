-- A command with prompts, and the text that it has when they are answered (own).
use Rattle.std.specs.Prelude.{ℕ, ◌+◌, List, [], ◌∷◌, ◌++◌, map}
use Rattle.percent_macros.specs.declared.pieces.Piece.{Piece}
use Rattle.percent_macros.specs.declared.pieces.Piece.TheVariants.{Plain, Prompt}

-- a part of a command: a byte that stands there, or the question of a prompt
pub data CommandPart : Type 0 where
  Typed : (byte : ℕ) → CommandPart
  Asked : (question : List ℕ) → CommandPart

-- the parts of a piece
abbrev pub parts_of_piece : Piece → List CommandPart
parts_of_piece (Plain text) = map Typed text
parts_of_piece (Prompt question) = Asked question ∷ []

-- how many prompts a command has
abbrev pub prompts_in : List CommandPart → ℕ
prompts_in [] = 0
prompts_in (Typed byte ∷ parts) = prompts_in parts
prompts_in (Asked question ∷ parts) = 1 + prompts_in parts

-- the command with the answers in their prompts' places
abbrev pub filled_command : List CommandPart → List (List ℕ) → List ℕ
filled_command [] answers = []
filled_command (Typed byte ∷ parts) answers = byte ∷ filled_command parts answers
filled_command (Asked question ∷ parts) [] = filled_command parts []
filled_command (Asked question ∷ parts) (answer ∷ answers) = answer ++ filled_command parts answers

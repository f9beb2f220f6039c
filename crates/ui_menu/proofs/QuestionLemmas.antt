-- The questions of a command, piece by piece, and how many there are.
use Rattle.std.proofs.Common.{◌≡◌, ℕ, zero, suc, ◌+◌, ◌<◌, List, [], ◌∷◌, ◌++◌, length, map, Option, Some, None, slice_get, refl, arith}
use Rattle.std.specs.List.{flat_map}
use Rattle.std.specs.Option.{option_map}
use Rattle.mc_dialogs.specs.InputKeys.{InputState}
use Rattle.percent_macros.specs.declared.pieces.Piece.{Piece}
use Rattle.percent_macros.specs.declared.pieces.Piece.TheVariants.{Plain, Prompt}
use Rattle.percent_macros.specs.Commands.{CommandPart, Typed, Asked, parts_of_piece, prompts_in}
use Rattle.ui_menu.specs.Questions.{question_line, questions_in}

typed : (text : List ℕ) (rest : List CommandPart) → questions_in (map Typed text ++ rest) ≡ questions_in rest
typed [] rest = refl
typed (byte ∷ text) rest = typed text rest

-- plain text asks nothing
pub plain-first : (text : List ℕ) (pieces : List Piece)
    → questions_in (flat_map parts_of_piece (Plain text ∷ pieces)) ≡ questions_in (flat_map parts_of_piece pieces)
plain-first text pieces = typed text (flat_map parts_of_piece pieces)

-- there are as many questions as prompts
pub questions-count : (parts : List CommandPart) → length (questions_in parts) ≡ prompts_in parts
questions-count [] = refl
questions-count (Typed byte ∷ parts) = questions-count parts
questions-count (Asked question ∷ parts) = let next : suc (length (questions_in parts)) ≡ 1 + prompts_in parts = omega (arith, questions-count parts) in next

past : (questions : List (List ℕ)) (place : ℕ) → slice_get questions place ≡ None → length questions < place + 1
past [] place none = omega arith
past (question ∷ questions) zero none = absurd (cc)
past (question ∷ questions) (suc place) none = omega (arith, past questions place none)

-- where no question stands behind so many answers, the next answer is the last one
pub last-answer : (parts : List CommandPart) (answered : ℕ) → answered < prompts_in parts → slice_get (questions_in parts) (answered + 1) ≡ None
    → answered + 1 ≡ prompts_in parts
last-answer parts answered due none = omega (arith, due, questions-count parts, past (questions_in parts) (answered + 1) none)

within : (questions : List (List ℕ)) (place : ℕ) (question : List ℕ) → slice_get questions place ≡ Some question → place < length questions
within [] place question is = absurd (cc)
within (first ∷ questions) zero question is = omega arith
within (first ∷ questions) (suc place) question is = omega (arith, within questions place question is)

-- the line of a question stands at a prompt, and where there is none at the first place there is no prompt
pub line-asked : (parts : List CommandPart) (place : ℕ) (question : Option (List ℕ)) (line : InputState)
    → slice_get (questions_in parts) place ≡ question → option_map question_line question ≡ Some line → place < prompts_in parts
line-asked parts place None line is some = absurd (cc)
line-asked parts place (Some question) line is some = omega (arith, questions-count parts, within (questions_in parts) place question is)

pub none-asked : (parts : List CommandPart) (question : Option (List ℕ))
    → slice_get (questions_in parts) 0 ≡ question → option_map question_line question ≡ None → 0 ≡ prompts_in parts
none-asked parts None is none = omega (arith, questions-count parts, past (questions_in parts) 0 is)
none-asked parts (Some question) is none = absurd (cc)

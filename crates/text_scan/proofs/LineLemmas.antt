-- A text without a newline is one line, and what stands before the first newline is the first line.
use Rattle.std.proofs.Common.{◌≡◌, ◌≢◌, ℕ, suc, ◌<◌, false, cond, eqb, ◌==◌, List, [], ◌∷◌, ◌++◌, length, get_or, refl, ap, ◌∙◌, arith}
use Rattle.text_scan.specs.Lines.{IsWithout, onto_first, lines_of}

onto_cond : (byte : ℕ) (rest : List ℕ) → (byte == 10) ≡ false → lines_of (byte ∷ rest) ≡ onto_first byte (lines_of rest)
onto_cond byte rest other = ap (λ is. cond is ([] ∷ lines_of rest) (onto_first byte (lines_of rest))) other

pub lines_of-cut : (line rest : List ℕ) → IsWithout 10 line → lines_of (line ++ 10 ∷ rest) ≡ line ∷ lines_of rest
lines_of-cut [] rest without = refl
lines_of-cut (byte ∷ line) rest without =
    onto_cond byte (line ++ 10 ∷ rest) without.0 ∙ ap (onto_first byte) (lines_of-cut line rest without.1)

pub lines_of-last : (line : List ℕ) → IsWithout 10 line → 0 < length line → lines_of line ≡ line ∷ []
lines_of-last [] without some = absurd (omega arith)
lines_of-last (byte ∷ []) without some = onto_cond byte [] without.0
lines_of-last (byte ∷ next ∷ line) without some =
    onto_cond byte (next ∷ line) without.0 ∙ ap (onto_first byte) (lines_of-last (next ∷ line) without.1 (omega arith))

-- what holds of each place holds of each byte
pub IsWithout-from_places : (mark : ℕ) (text : List ℕ) → ((i : ℕ) → i < length text → get_or text i 0 ≢ mark) → IsWithout mark text
IsWithout-from_places mark [] other = tt
IsWithout-from_places mark (byte ∷ text) other =
    (neq byte mark (other 0 (omega arith)), IsWithout-from_places mark text (λ i below. other (suc i) (omega arith)))
  where
    neq : (a b : ℕ) → a ≢ b → eqb a b ≡ false
    neq a b h = grind arith

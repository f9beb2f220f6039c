-- A part takes its characters from the front of the text, so a text has no more parts than characters.
use Rattle.std.proofs.Common.{◌≡◌, ℕ, zero, suc, ◌-◌, ◌≤◌, Bool, true, false, cond, ◌==◌, List, [], ◌∷◌, ◌++◌, length, Option, Some, None, option_map, Result, Ok, Err, encode_utf8_all, refl, subst, ap, ◌∙◌, arith, append_assoc}
use Rattle.tagging.specs.Brackets.{Bracket}
use Rattle.tagging.specs.GlobText.{marks_up_to_close, marks_of, after_marks, listed_bracket, bracket_of, quoted_part, bracket_part, first_part, after_parts, and_then_parts, parts_within, spans_after}
use Rattle.tagging.specs.declared.error.PatternError.{PatternError}
use Rattle.tagging.specs.declared.glob.GlobPart.{GlobPart}
use Rattle.tagging.specs.declared.glob.GlobPart.TheVariants.{Plain, AnyOne, AnyText}
use Rattle.tagging.specs.declared.parse.Mark.{Mark}

-- no more text is left than there was
abbrev LeavesNoMore : {A : Type 0} → List ℕ → Option (A × List ℕ) → Type 0
LeavesNoMore text None = Unit {0}
LeavesNoMore text (Some (read, rest)) = length rest ≤ length text

abbrev PartLeavesNoMore : List ℕ → Result (GlobPart × List ℕ) PatternError → Type 0
PartLeavesNoMore text (Err fault) = Unit {0}
PartLeavesNoMore text (Ok (part, rest)) = length rest ≤ length text

after_marks-leaves : (prefix : List Mark) (c : ℕ) (text : List ℕ) (found : Option (List Mark × List ℕ)) → LeavesNoMore text found → LeavesNoMore (c ∷ text) (after_marks prefix found)
after_marks-leaves prefix c text None leaves = tt
after_marks-leaves prefix c text (Some (marks, rest)) leaves = omega arith

marks-leave : (quoted : Bool) (text : List ℕ) → LeavesNoMore text (marks_up_to_close quoted text)
marks-leave quoted [] = tt
marks-leave true (c ∷ text) = after_marks-leaves (record { character = c; quoted = true } ∷ []) c text (marks_up_to_close false text) (marks-leave false text)
marks-leave false (c ∷ text) = go (c == 93) (c == 92) (marks-leave true text) (marks-leave false text)
  where
    longer : (found : Option (List Mark × List ℕ)) → LeavesNoMore text found → LeavesNoMore (c ∷ text) found
    longer None leaves = tt
    longer (Some (marks, rest)) leaves = omega arith

    go : (closes quotes : Bool) → LeavesNoMore text (marks_up_to_close true text) → LeavesNoMore text (marks_up_to_close false text)
        → LeavesNoMore (c ∷ text) (cond closes (Some ([], text)) (cond quotes (marks_up_to_close true text) (after_marks (record { character = c; quoted = false } ∷ []) (marks_up_to_close false text))))
    go true quotes quoted plain = omega arith
    go false true quoted plain = longer (marks_up_to_close true text) quoted
    go false false quoted plain = after_marks-leaves (record { character = c; quoted = false } ∷ []) c text (marks_up_to_close false text) plain

marks_of-leaves : (text : List ℕ) → LeavesNoMore text (marks_of text)
marks_of-leaves [] = tt
marks_of-leaves (c ∷ text) = go (c == 93)
  where
    go : (closes : Bool) → LeavesNoMore (c ∷ text) (cond closes (after_marks (record { character = c; quoted = false } ∷ []) (marks_up_to_close false text)) (marks_up_to_close false (c ∷ text)))
    go true = after_marks-leaves (record { character = c; quoted = false } ∷ []) c text (marks_up_to_close false text) (marks-leave false text)
    go false = marks-leave false (c ∷ text)

listed-leaves : (negated : Bool) (text : List ℕ) → LeavesNoMore text (listed_bracket negated text)
listed-leaves negated text = go (marks_of text) (marks_of-leaves text)
  where
    go : (found : Option (List Mark × List ℕ)) → LeavesNoMore text found
        → LeavesNoMore {A = Bracket} text (option_map (λ (marks, rest). (record { negated = negated; spans = spans_after 0 marks }, rest)) found)
    go None leaves = tt
    go (Some (marks, rest)) leaves = leaves

bracket_of-leaves : (text : List ℕ) → LeavesNoMore text (bracket_of text)
bracket_of-leaves [] = tt
bracket_of-leaves (c ∷ text) = go (c == 33)
  where
    longer : (found : Option (Bracket × List ℕ)) → LeavesNoMore text found → LeavesNoMore (c ∷ text) found
    longer None leaves = tt
    longer (Some (bracket, rest)) leaves = omega arith

    go : (negated : Bool) → LeavesNoMore (c ∷ text) (cond negated (listed_bracket true text) (listed_bracket false (c ∷ text)))
    go true = longer (listed_bracket true text) (listed-leaves true text)
    go false = listed-leaves false (c ∷ text)

quoted_part-leaves : (at : ℕ) (text : List ℕ) → PartLeavesNoMore text (quoted_part at text)
quoted_part-leaves at [] = tt
quoted_part-leaves at (c ∷ text) = omega arith

bracket_part-leaves : (at : ℕ) (text : List ℕ) (found : Option (Bracket × List ℕ)) → LeavesNoMore text found → PartLeavesNoMore text (bracket_part at found)
bracket_part-leaves at text None leaves = tt
bracket_part-leaves at text (Some (bracket, rest)) leaves = leaves

first_part-leaves : (at c : ℕ) (text : List ℕ) → PartLeavesNoMore text (first_part at c text)
first_part-leaves at c text = go (c == 42) (c == 63) (c == 92) (c == 91)
  where
    go : (star one quote bracket : Bool) → PartLeavesNoMore text (cond star (Ok (AnyText, text)) (cond one (Ok (AnyOne, text))
        (cond quote (quoted_part at text) (cond bracket (bracket_part at (bracket_of text)) (Ok (Plain c, text))))))
    go true one quote bracket = omega arith
    go false true quote bracket = omega arith
    go false false true bracket = quoted_part-leaves at text
    go false false false true = bracket_part-leaves at text (bracket_of text) (bracket_of-leaves text)
    go false false false false = omega arith

-- two counts that are both enough give the same parts
pub parts_within-enough : (n m size : ℕ) (text : List ℕ) → length text ≤ n → length text ≤ m → parts_within n size text ≡ parts_within m size text
parts_within-enough zero zero size text few many = refl
parts_within-enough zero (suc m) size [] few many = refl
parts_within-enough zero (suc m) size (c ∷ text) few many = absurd (omega arith)
parts_within-enough (suc n) zero size [] few many = refl
parts_within-enough (suc n) zero size (c ∷ text) few many = absurd (omega arith)
parts_within-enough (suc n) (suc m) size [] few many = refl
parts_within-enough (suc n) (suc m) size (c ∷ text) few many =
    go (first_part (size - length (encode_utf8_all (c ∷ text))) c text) (first_part-leaves (size - length (encode_utf8_all (c ∷ text))) c text)
    (λ rest fewer. parts_within-enough n m size rest (omega arith) (omega arith))
  where
    go : (first : Result (GlobPart × List ℕ) PatternError) → PartLeavesNoMore text first
        → ((rest : List ℕ) → length rest ≤ length text → parts_within n size rest ≡ parts_within m size rest)
        → and_then_parts first (parts_within n size) ≡ and_then_parts first (parts_within m size)
    go (Err fault) leaves same = refl
    go (Ok (part, rest)) leaves same = ap (after_parts (part ∷ [])) (same rest leaves)

-- the parts of a text with a first part
pub parts_within-first : (size c : ℕ) (text : List ℕ) (part : GlobPart) (rest : List ℕ)
    → first_part (size - length (encode_utf8_all (c ∷ text))) c text ≡ Ok (part, rest)
    → parts_within (length (c ∷ text)) size (c ∷ text) ≡ after_parts (part ∷ []) (parts_within (length rest) size rest)
parts_within-first size c text part rest is =
    ap (λ first. and_then_parts first (parts_within (length text) size)) is
    ∙ ap (after_parts (part ∷ [])) (parts_within-enough (length text) (length rest) size rest (leaves is (first_part-leaves _ c text)) (omega arith))
  where
    leaves : {first : Result (GlobPart × List ℕ) PatternError} → first ≡ Ok (part, rest) → PartLeavesNoMore text first → length rest ≤ length text
    leaves {first} e h = subst (PartLeavesNoMore text) e h

pub parts_within-fault : (size c : ℕ) (text : List ℕ) (fault : PatternError)
    → first_part (size - length (encode_utf8_all (c ∷ text))) c text ≡ Err fault
    → parts_within (length (c ∷ text)) size (c ∷ text) ≡ Err fault
parts_within-fault size c text fault is = ap (λ first. and_then_parts first (parts_within (length text) size)) is

pub after_parts-push : (prefix : List GlobPart) (part : GlobPart) (parts : Result (List GlobPart) PatternError)
    → after_parts (prefix ++ part ∷ []) parts ≡ after_parts prefix (after_parts (part ∷ []) parts)
after_parts-push prefix part (Err fault) = refl
after_parts-push prefix part (Ok parts) = ap Ok (append_assoc prefix (part ∷ []) parts)

pub after_parts-nil : (parts : Result (List GlobPart) PatternError) → after_parts [] parts ≡ parts
after_parts-nil (Err fault) = refl
after_parts-nil (Ok parts) = refl

-- Each term leaves less of the text, so its bytes bound how many there are.
use Rattle.std.proofs.Common.{◌≡◌, ℕ, zero, suc, ◌+◌, ◌<◌, ◌≤◌, ◌||◌, true, false, cond, ◌==◌, List, [], ◌∷◌, ◌++◌, length, Option, Some, None, IfSome, option_map, refl, ap, ◌∙◌, sym, arith, length-drop, append_assoc, subst}
use Rattle.std.specs.Option.{option_map_or}
use Rattle.std.specs.List.{position_or_len}
use Rattle.tagging.specs.declared.pattern.PatternKind.{PatternKind}
use Rattle.text_scan.specs.Words.{behind_word, unindented_text, is_blank}
use Rattle.user_menu.specs.Words.{FirstWord, cut_word, first_word}
use Rattle.user_menu.specs.declared.condition.Joint.{Joint}
use Rattle.user_menu.specs.declared.condition.Joined.{Joined}
use Rattle.user_menu.specs.declared.condition.Test.{Test}
use Rattle.user_menu.specs.declared.term.Letter.{Letter}
use Rattle.user_menu.specs.Conditions.{sense_of, behind_signs, letters, FirstLetter, letter_among, letter_of, test_of, FirstTerm, with_test, with_argument, with_letter, first_term, joint_of, behind_joint, before_others, from_term, terms_within, terms_of}
use Rattle.user_menu.specs.Courses.{onto_terms, IsBehind}
use Rattle.user_menu.specs.declared.reading.Course.{Course}
use Rattle.user_menu.specs.declared.reading.Course.TheVariants.{Ends, GoesOn, Breaks}

-- ---- what is read leaves less

weaker : {A : Type 0} (P Q : A → Type 0) (o : Option A) → ((x : A) → P x → Q x) → IfSome o P → IfSome o Q
weaker P Q None more h = h
weaker P Q (Some x) more h = more x h

unindented-short : (text : List ℕ) → length (unindented_text text) ≤ length text
unindented-short [] = omega arith
unindented-short (byte ∷ text) =
    let ih = unindented-short text in
    elim (is_blank byte) as (λ b. length (cond b (unindented_text text) (byte ∷ text)) ≤ length (byte ∷ text)) [ true ↦ omega (arith, ih) | false ↦ omega arith ]

behind_signs-short : (text : List ℕ) → length (behind_signs text) ≤ length text
behind_signs-short [] = omega arith
behind_signs-short (byte ∷ text) =
    let ih = behind_signs-short text in
    elim (byte == 33 || is_blank byte) as (λ b. length (cond b (behind_signs text) (byte ∷ text)) ≤ length (byte ∷ text)) [ true ↦ omega (arith, ih) | false ↦ omega arith ]

cut_word-short : (words : List ℕ) → IfSome (cut_word words) (λ read. length read.rest < length words)
cut_word-short [] = tt
cut_word-short (byte ∷ text) =
    let cut = length-drop (position_or_len is_blank (byte ∷ text) + 1) (byte ∷ text) in
    omega (arith, cut)

first_word-short : (text : List ℕ) → IfSome (first_word text) (λ read. length read.rest < length text)
first_word-short text =
    let less = unindented-short text in
    weaker (λ (read : FirstWord). length read.rest < length (unindented_text text)) (λ (read : FirstWord). length read.rest < length text)
    (first_word text) (λ read h. omega (arith, less, h)) (cut_word-short (unindented_text text))

behind_word-short : (word text : List ℕ) → IfSome (behind_word word text) (λ rest. length rest ≤ length text)
behind_word-short [] text = omega arith
behind_word-short (letter ∷ word) [] = tt
behind_word-short (letter ∷ word) (byte ∷ text) =
    elim (byte == letter) as (λ b. IfSome (cond b (behind_word word text) None) (λ rest. length rest ≤ length (byte ∷ text))) [
      | true ↦ weaker (λ (rest : List ℕ). length rest ≤ length text) (λ (rest : List ℕ). length rest ≤ length (byte ∷ text)) (behind_word word text)
          (λ rest h. omega (arith, h)) (behind_word-short word text)
      | false ↦ tt
    ]

letter-short : (all : List (List ℕ × Letter)) (text : List ℕ) → IfSome (letter_among all text) (λ read. length read.rest ≤ length text)
letter-short [] text = tt
letter-short ((spelled, letter) ∷ others) text = go (behind_word spelled text) (behind_word-short spelled text) (letter_among others text) (letter-short others text)
  where
    go : (o : Option (List ℕ)) → IfSome o (λ rest. length rest ≤ length text)
        → (other : Option FirstLetter) → IfSome other (λ read. length read.rest ≤ length text)
        → IfSome (option_map_or (λ rest. Some (let read : FirstLetter = record { letter = letter; rest = rest } in read)) o other) (λ read. length read.rest ≤ length text)
    go None short other h = h
    go (Some rest) short other h = short

-- a term is never empty
pub first_term-short : (kind : PatternKind) (text : List ℕ) → IfSome (first_term kind text) (λ read. length read.rest < length text)
first_term-short kind text = lettered (letter_of (behind_signs text)) (letter-short letters (behind_signs text))
  where
    tested : (rest : List ℕ) (test : Option Test) → length rest < length text
        → IfSome (with_test (sense_of text) rest test) (λ read. length read.rest < length text)
    tested rest None short = tt
    tested rest (Some test) short = short

    argued : (letter : Letter) (size : ℕ) (word : Option FirstWord) → size ≤ length text → IfSome word (λ read. length read.rest < size)
        → IfSome (with_argument kind (sense_of text) letter word) (λ read. length read.rest < length text)
    argued letter size None less short = tt
    argued letter size (Some word) less short = tested word.rest (test_of kind letter word.word) (omega (arith, less, short))

    lettered : (o : Option FirstLetter) → IfSome o (λ read. length read.rest ≤ length (behind_signs text))
        → IfSome (with_letter kind (sense_of text) o) (λ read. length read.rest < length text)
    lettered None short = tt
    lettered (Some read) short =
        let less = behind_signs-short text in
        argued read.letter (length read.rest) (first_word read.rest) (omega (arith, less, short)) (first_word-short read.rest)

-- ---- so the bound on the terms doesn't count

behind-same : (first : Joined) (size : ℕ) (f g : Joint → List ℕ → Option (List Joined)) (rest : List ℕ) (joint : Option Joint)
    → ((j : Joint) (r : List ℕ) → length r < size → f j r ≡ g j r) → length rest < size
    → behind_joint first joint (λ j. f j rest) ≡ behind_joint first joint (λ j. g j rest)
behind-same first size f g rest None same short = refl
behind-same first size f g rest (Some joint) same short = ap (option_map (λ more. first ∷ more)) (same joint rest short)

before-same : (first : Joined) (size : ℕ) (f g : Joint → List ℕ → Option (List Joined)) (word : Option FirstWord)
    → ((j : Joint) (r : List ℕ) → length r < size → f j r ≡ g j r) → IfSome word (λ read. length read.rest < size)
    → before_others first word f ≡ before_others first word g
before-same first size f g None same short = refl
before-same first size f g (Some word) same short = behind-same first size f g word.rest (joint_of word.word) same short

from-same : (joint : Joint) (size : ℕ) (f g : Joint → List ℕ → Option (List Joined)) (read : Option FirstTerm)
    → ((j : Joint) (r : List ℕ) → length r < size → f j r ≡ g j r) → IfSome read (λ one. length one.rest < size)
    → from_term joint read f ≡ from_term joint read g
from-same joint size f g None same short = refl
from-same joint size f g (Some read) same short =
    before-same (record { joint = joint; term = read.term }) size f g (first_word read.rest) same
    (weaker (λ (word : FirstWord). length word.rest < length read.rest) (λ (word : FirstWord). length word.rest < size) (first_word read.rest)
    (λ word h. omega (arith, h, short)) (first_word-short read.rest))

bound : (n m : ℕ) (kind : PatternKind) (joint : Joint) (text : List ℕ) → length text ≤ n → length text ≤ m
    → terms_within n kind joint text ≡ terms_within m kind joint text
bound zero zero kind joint text few many = refl
bound zero (suc m) kind joint [] few many = refl
bound zero (suc m) kind joint (byte ∷ text) few many = absurd (omega arith)
bound (suc n) zero kind joint [] few many = refl
bound (suc n) zero kind joint (byte ∷ text) few many = absurd (omega arith)
bound (suc n) (suc m) kind joint text few many =
    from-same joint (length text) (terms_within n kind) (terms_within m kind) (first_term kind text)
    (λ j r short. bound n m kind j r (omega arith) (omega arith)) (first_term-short kind text)

-- a term, and then others
pub terms_of-step : (kind : PatternKind) (joint : Joint) (text : List ℕ)
    → terms_of kind joint text ≡ from_term joint (first_term kind text) (terms_of kind)
unfolding terms_of
terms_of-step kind joint [] = refl
terms_of-step kind joint (byte ∷ text) =
    from-same joint (length (byte ∷ text)) (terms_within (length text) kind) (λ j r. terms_within (length r) kind j r) (first_term kind (byte ∷ text))
    (λ j r short. bound (length text) (length r) kind j r (omega arith) (omega arith)) (first_term-short kind (byte ∷ text))

-- ---- one term taken

onto-cons : (prefix : List Joined) (first : Joined) (more : Option (List Joined))
    → onto_terms prefix (option_map (λ others. first ∷ others) more) ≡ onto_terms (prefix ++ first ∷ []) more
onto-cons prefix first None = refl
onto-cons prefix first (Some more) = ap Some (sym (append_assoc prefix (first ∷ []) more))

abbrev joined_term : Joint → FirstTerm → Joined
joined_term joint read = record { joint = joint; term = read.term }

-- a text that begins with no term
pub taken-no_term : (kind : PatternKind) (joint : Joint) (text : List ℕ) (terms : List Joined) → None ≡ first_term kind text
    → onto_terms terms (terms_of kind joint text) ≡ None
taken-no_term kind joint text terms none =
    ap (onto_terms terms) (terms_of-step kind joint text ∙ ap (λ read. from_term joint read (terms_of kind)) (sym none))

-- a text that begins with a term
pub taken-term : (kind : PatternKind) (joint : Joint) (text : List ℕ) (terms : List Joined) (read : FirstTerm) → Some read ≡ first_term kind text
    → onto_terms terms (terms_of kind joint text) ≡ onto_terms terms (before_others (joined_term joint read) (first_word read.rest) (terms_of kind))
taken-term kind joint text terms read is =
    ap (onto_terms terms) (terms_of-step kind joint text ∙ ap (λ one. from_term joint one (terms_of kind)) (sym is))

-- what stands behind it is shorter
pub term-short : (kind : PatternKind) (text : List ℕ) (read : FirstTerm) → Some read ≡ first_term kind text → length read.rest < length text
term-short kind text read is = subst (λ o. IfSome o (λ (one : FirstTerm). length one.rest < length text)) (sym is) (first_term-short kind text)

-- what stands behind a word is shorter
pub word-short : (text : List ℕ) (read : FirstWord) → Some read ≡ first_word text → length read.rest < length text
word-short text read is = subst (λ o. IfSome o (λ (one : FirstWord). length one.rest < length text)) (sym is) (first_word-short text)

-- what is behind a text is behind a longer one
pub behind-further : (text longer : List ℕ) (course : Course) → length text < length longer → IsBehind text course → IsBehind longer course
behind-further text longer Ends more behind = behind
behind-further text longer (GoesOn joint rest) more behind = omega arith
behind-further text longer Breaks more behind = behind

-- How a condition is written (mc(1), "Menu File Edit"; that `&` and `|` stand alone between blanks is own).
-- Its terms are joined from left to right. Bytes: ! 33.
use Rattle.std.specs.Prelude.{ℕ, zero, suc, ◌==◌, ◌||◌, if◌then◌else◌, List, []}
use Rattle.std.specs.Prelude.{◌∷◌, length, Option, Some, None, option_map, codes}
use Rattle.std.specs.Option.{option_map_or}
use Rattle.std.specs.Str.{bytes_eq}
use Rattle.tagging.specs.declared.pattern.PatternKind.{PatternKind}
use Rattle.text_scan.specs.Words.{behind_word, is_blank}
use Rattle.tagging.specs.TypedPatterns.{pattern_in}
use Rattle.user_menu.specs.Words.{FirstWord, first_word}
use Rattle.user_menu.specs.declared.condition.Panel.TheVariants.{Here, There}
use Rattle.user_menu.specs.declared.condition.Sense.{Sense}
use Rattle.user_menu.specs.declared.condition.Sense.TheVariants.{Plain, Turned}
use Rattle.user_menu.specs.declared.condition.Test.{Test}
use Rattle.user_menu.specs.declared.condition.Test.TheVariants as test
use Rattle.user_menu.specs.declared.condition.Term.{Term}
use Rattle.user_menu.specs.declared.condition.Joint.{Joint}
use Rattle.user_menu.specs.declared.condition.Joint.TheVariants.{And, Or}
use Rattle.user_menu.specs.declared.condition.Joined.{Joined}
use Rattle.user_menu.specs.declared.term.Letter.{Letter}
use Rattle.user_menu.specs.declared.term.Letter.TheVariants.{Name, Folder, Types, Program, Never}

abbrev pub opposite : Sense → Sense
opposite Plain = Turned
opposite Turned = Plain

-- a sense in which another one stands
abbrev pub turned_sense : Sense → Sense → Sense
turned_sense Plain inner = inner
turned_sense Turned inner = opposite inner

-- the sense that leading signs give, among which blanks may stand: each turns it
abbrev pub sense_of : List ℕ → Sense
sense_of [] = Plain
sense_of (byte ∷ text) =
    if byte == 33 then opposite (sense_of text) else if is_blank byte then sense_of text else Plain

-- the text behind leading signs and blanks
abbrev pub behind_signs : List ℕ → List ℕ
behind_signs [] = []
behind_signs (byte ∷ text) = if byte == 33 || is_blank byte then behind_signs text else byte ∷ text

-- the letters, and what each asks
abbrev pub letters : List (List ℕ × Letter)
letters =
    (codes "f", Name Here)
    ∷ (codes "F", Name There)
    ∷ (codes "d", Folder Here)
    ∷ (codes "D", Folder There)
    ∷ (codes "t", Types Here)
    ∷ (codes "T", Types There)
    ∷ (codes "x", Program)
    ∷ (codes "y", Never)
    ∷ []

-- a letter that was read, and the text behind it
pub record FirstLetter : Type 0 where
  pub letter : Letter
  pub rest : List ℕ

-- the first of some letters with which a text begins
abbrev pub letter_among : List (List ℕ × Letter) → List ℕ → Option FirstLetter
letter_among [] text = None
letter_among ((spelled, letter) ∷ others) text =
    option_map_or (λ rest. Some (record { letter = letter; rest = rest })) (behind_word spelled text)
    (letter_among others text)

abbrev pub letter_of : List ℕ → Option FirstLetter
letter_of = letter_among letters

-- what a letter asks with an argument
abbrev pub test_of : PatternKind → Letter → List ℕ → Option Test
test_of kind (Name panel) argument = option_map (test.Name panel) (pattern_in kind argument)
test_of kind (Folder panel) argument = option_map (test.Folder panel) (pattern_in kind argument)
test_of kind (Types panel) argument = Some (test.Types panel argument)
test_of kind Program argument = Some (test.Program argument)
test_of kind Never argument = Some test.Never

-- a term that was read, and the text behind it
pub record FirstTerm : Type 0 where
  pub term : Term
  pub rest : List ℕ

abbrev pub with_test : Sense → List ℕ → Option Test → Option FirstTerm
with_test sense rest None = None
with_test sense rest (Some test) = Some (record { term = record { sense = sense; test = test }; rest = rest })

-- the argument runs up to the next blank
abbrev pub with_argument : PatternKind → Sense → Letter → Option FirstWord → Option FirstTerm
with_argument kind sense letter None = None
with_argument kind sense letter (Some argument) =
    with_test sense argument.rest (test_of kind letter argument.word)

abbrev pub with_letter : PatternKind → Sense → Option FirstLetter → Option FirstTerm
with_letter kind sense None = None
with_letter kind sense (Some read) = with_argument kind sense read.letter (first_word read.rest)

-- the term with which a text begins: signs, a letter, an argument
abbrev pub first_term : PatternKind → List ℕ → Option FirstTerm
first_term kind text = with_letter kind (sense_of text) (letter_of (behind_signs text))

-- the joint that a word stands for
abbrev pub joint_of : List ℕ → Option Joint
joint_of word =
    if bytes_eq word (codes "&") then Some And else if bytes_eq word (codes "|") then Some Or else None

-- a term before those that stand behind a joint
abbrev pub behind_joint : Joined → Option Joint → (Joint → Option (List Joined)) → Option (List Joined)
behind_joint first None others = None
behind_joint first (Some joint) others = option_map (λ more. first ∷ more) (others joint)

-- a term, and then nothing, or a joint and other terms
abbrev pub before_others : Joined → Option FirstWord → (Joint → List ℕ → Option (List Joined))
    → Option (List Joined)
before_others first None others = Some (first ∷ [])
before_others first (Some word) others =
    behind_joint first (joint_of word.word) (λ joint. others joint word.rest)

abbrev pub from_term : Joint → Option FirstTerm → (Joint → List ℕ → Option (List Joined))
    → Option (List Joined)
from_term joint None others = None
from_term joint (Some read) others =
    before_others (record { joint = joint; term = read.term }) (first_word read.rest) others

-- the terms of a text, if they are `count` at most; the first is joined so
abbrev pub terms_within : ℕ → PatternKind → Joint → List ℕ → Option (List Joined)
terms_within zero kind joint text = None
terms_within (suc count) kind joint text = from_term joint (first_term kind text) (terms_within count kind)

-- the terms of a text, which has no more of them than bytes
unfoldable pub terms_of : PatternKind → Joint → List ℕ → Option (List Joined)
terms_of kind joint text = terms_within (length text) kind joint text

-- blanks alone ask nothing
abbrev pub unless_blank : Option FirstWord → Option (List Joined) → Option (List Joined)
unless_blank None terms = Some []
unless_blank (Some word) terms = terms

-- the terms of a condition, or none where the text is no condition
abbrev pub condition_of : PatternKind → List ℕ → Option (List Joined)
condition_of kind text = unless_blank (first_word text) (terms_of kind And text)

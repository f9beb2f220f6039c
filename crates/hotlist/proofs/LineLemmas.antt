-- What the readers of words give on texts that do not begin as they want.
use Rattle.std.proofs.Common.{◌≡◌, ◌≢◌, ℕ, zero, suc, Bool, false, true, cond, ◌==◌, ◌||◌, List, [], ◌∷◌, ◌++◌, Option, Some, None, refl, ap, ◌∙◌, sym, arith, MatchOption, drop}
use Rattle.std.proofs.lemmas.Bool.Decides.{nat_tests}
use Rattle.hotlist.specs.HotLines.{behind_word, without_blanks, behind_blanks, quoted_text, up_to_quote, ReadText, reading_of, reading_of_words, LineReading, Passed, behind_first_word}
use Rattle.hotlist.specs.LineViews.{reading_of_text}

same : (a b : ℕ) → (a == b) ≡ true → a ≡ b
same a b is = grind (arith, nat_tests)

differs : (a b : ℕ) → a ≢ b → (a == b) ≡ false
differs a b other = grind arith

equal : (a : ℕ) → (a == a) ≡ true
equal a = grind arith

-- a text doesn't begin with a mark
abbrev pub DoesNotBegin : ℕ → List ℕ → Type 0
DoesNotBegin mark text = (rest : List ℕ) → text ≢ mark ∷ rest

first_differs : (mark byte : ℕ) (text : List ℕ) → DoesNotBegin mark (byte ∷ text) → (byte == mark) ≡ false
first_differs mark byte text other = differs byte mark (λ is. other text (ap (λ b. b ∷ text) is))

pub without_blanks-none : (text : List ℕ) → DoesNotBegin 32 text → without_blanks text ≡ text
without_blanks-none [] other = refl
without_blanks-none (byte ∷ text) other = ap (λ is. cond is (without_blanks text) (byte ∷ text)) (first_differs 32 byte text other)

pub behind_blanks-none : (text : List ℕ) → DoesNotBegin 32 text → behind_blanks text ≡ None
behind_blanks-none [] other = refl
behind_blanks-none (byte ∷ text) other = ap (λ is. cond is (Some (without_blanks text)) None) (first_differs 32 byte text other)

pub quoted_text-none : (text : List ℕ) → DoesNotBegin 34 text → quoted_text text ≡ None
quoted_text-none [] other = refl
quoted_text-none (byte ∷ text) other = ap (λ is. cond is (up_to_quote false text) None) (first_differs 34 byte text other)

pub reading_of-words : (text : List ℕ) → DoesNotBegin 32 text → DoesNotBegin 9 text → reading_of text ≡ reading_of_words text
reading_of-words [] blank tab = refl
reading_of-words (byte ∷ text) blank tab =
    ap (λ is. cond (is || byte == 9) (reading_of text) (reading_of_words (byte ∷ text))) (first_differs 32 byte text blank)
    ∙ ap (λ is. cond is (reading_of text) (reading_of_words (byte ∷ text))) (first_differs 9 byte text tab)

pub reading_of_words-text : (text : List ℕ) → text ≢ [] → DoesNotBegin 35 text → reading_of_words text ≡ reading_of_text text
reading_of_words-text [] some mark = absurd (some refl)
reading_of_words-text (byte ∷ text) some mark =
    ap (λ is. cond is Passed (reading_of_text (byte ∷ text))) (first_differs 35 byte text mark)

pub behind_word-is : (word text rest : List ℕ) → text ≡ word ++ rest → behind_word word text ≡ Some rest
behind_word-is word text rest is = ap (behind_word word) is ∙ go word
  where
    go : (w : List ℕ) → behind_word w (w ++ rest) ≡ Some rest
    go [] = refl
    go (letter ∷ w) = ap (λ is. cond is (behind_word w (w ++ rest)) None) (equal letter) ∙ go w

pub behind_word-none : (word text : List ℕ) → ((rest : List ℕ) → text ≢ word ++ rest) → behind_word word text ≡ None
behind_word-none [] text lacks = absurd (lacks text refl)
behind_word-none (letter ∷ word) [] lacks = refl
behind_word-none (letter ∷ word) (byte ∷ text) lacks = go (byte == letter) refl (behind_word-none word text)
  where
    go : (is : Bool) → (byte == letter) ≡ is → (((rest : List ℕ) → text ≢ word ++ rest) → behind_word word text ≡ None)
        → cond is (behind_word word text) None ≡ None
    go false e behind = refl
    go true e behind = behind (λ rest whole. lacks rest (ap (λ b. b ∷ text) (same byte letter e) ∙ ap (λ t. letter ∷ t) whole))

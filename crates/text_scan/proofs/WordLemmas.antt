-- What stands behind a word.
use Rattle.std.proofs.Common.{◌≡◌, ◌≢◌, ℕ, Bool, false, true, cond, ◌==◌, List, [], ◌∷◌, ◌++◌, Some, None, refl, ap, ◌∙◌, arith}
use Rattle.std.proofs.lemmas.Bool.Decides.{nat_tests}
use Rattle.text_scan.specs.Words.{behind_word}

same : (a b : ℕ) → (a == b) ≡ true → a ≡ b
same a b is = grind (arith, nat_tests)

equal : (a : ℕ) → (a == a) ≡ true
equal a = grind arith

pub behind_word-is : (word text rest : List ℕ) → text ≡ word ++ rest → behind_word word text ≡ Some rest
behind_word-is word text rest is = ap (behind_word word) is ∙ go word
  where
    go : (w : List ℕ) → behind_word w (w ++ rest) ≡ Some rest
    go [] = refl
    go (letter ∷ w) = ap (λ is. cond is (behind_word w (w ++ rest)) None) (equal letter) ∙ go w

pub behind_word-none : (word text : List ℕ) → ((rest : List ℕ) → text ≢ word ++ rest) → behind_word word text ≡ None
behind_word-none [] text lacks = absurd (lacks text refl)
behind_word-none (letter ∷ word) [] lacks = refl
behind_word-none (letter ∷ word) (byte ∷ text) lacks = go (byte == letter) refl (behind_word-none word text)
  where
    go : (is : Bool) → (byte == letter) ≡ is → (((rest : List ℕ) → text ≢ word ++ rest) → behind_word word text ≡ None)
        → cond is (behind_word word text) None ≡ None
    go false e behind = refl
    go true e behind = behind (λ rest whole. lacks rest (ap (λ b. b ∷ text) (same byte letter e) ∙ ap (λ t. letter ∷ t) whole))

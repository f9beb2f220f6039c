-- A byte that isn't ASCII stands for itself.
use Rattle.std.proofs.Common.{◌≡◌, ℕ, ◌≤◌, false, true, cond, ◌==◌, ◌||◌, List, [], ◌∷◌, ◌++◌, refl, ap, ◌∙◌, arith}
use Rattle.std.proofs.lemmas.Bool.Decides.{nat_tests}
use lib.Dec.{leb}
use Rattle.text_scan.specs.HighBytes.{AreHigh}
use Rattle.percent_macros.specs.Quoting.{is_letter_or_digit, is_plain, quoted_byte, quoted_bytes}

pub is_plain-high : (byte : ℕ) → 128 ≤ byte → is_plain byte ≡ true
is_plain-high byte high =
    ap (λ is. is || is_letter_or_digit byte || byte == 95 || byte == 46 || byte == 47 || byte == 45 || byte == 43 || byte == 44) (test byte high)
  where
    test : (n : ℕ) → 128 ≤ n → leb 128 n ≡ true
    test n h = grind (arith, nat_tests)

other : (byte : ℕ) → 128 ≤ byte → (byte == 10) ≡ false
other byte high = grind arith

pub quoted_byte-high : (byte : ℕ) → 128 ≤ byte → quoted_byte byte ≡ byte ∷ []
quoted_byte-high byte high =
    ap (λ is. cond is (39 ∷ 10 ∷ 39 ∷ []) (cond (is_plain byte) (byte ∷ []) (92 ∷ byte ∷ []))) (other byte high)
    ∙ ap (λ is. cond is (byte ∷ []) (92 ∷ byte ∷ [])) (is_plain-high byte high)

pub quoted_bytes-high : (bytes : List ℕ) → AreHigh bytes → quoted_bytes bytes ≡ bytes
quoted_bytes-high [] high = refl
quoted_bytes-high (byte ∷ bytes) high =
    ap (λ prefix. prefix ++ quoted_bytes bytes) (quoted_byte-high byte high.0) ∙ ap (λ rest. byte ∷ rest) (quoted_bytes-high bytes high.1)

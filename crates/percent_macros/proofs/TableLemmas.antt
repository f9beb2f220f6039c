-- Each letter of a macro is ASCII.
use Rattle.std.proofs.Common.{◌≡◌, ◌≢◌, ℕ, ◌≤◌, ◌<◌, false, ◌==◌, List, [], ◌∷◌, ◌++◌, length, Some, None, refl, ◌∙◌, sym, subst, arith, ⊎_elim, encode_utf8}
use Rattle.std.proofs.lemmas.Bool.{cases_lt}
use Rattle.std.proofs.lemmas.Str.{length-encode, len_utf8_bounds}
use Rattle.text_scan.specs.HighBytes.{AreHigh}
use Rattle.percent_macros.specs.declared.macros.Macro.{Macro}
use Rattle.percent_macros.specs.MacroTable.{macro_named}
use Rattle.percent_macros.specs.Expansion.{BeginsNoMacro}

differs : (byte k : ℕ) → 128 ≤ byte → k < 128 → (byte == k) ≡ false
differs byte k high low = grind arith

differs_from : (byte k : ℕ) → byte ≢ k → (byte == k) ≡ false
differs_from byte k other = grind arith

pub macro_named-high : (byte : ℕ) → 128 ≤ byte → macro_named byte ≡ None
macro_named-high byte high =
    let f : (k : ℕ) → k < 128 → (byte == k) ≡ false = λ k. differs byte k high in
    rw (
      f 37 (omega arith),
      f 102 (omega arith),
      f 112 (omega arith),
      f 70 (omega arith),
      f 120 (omega arith),
      f 98 (omega arith),
      f 100 (omega arith),
      f 68 (omega arith),
      f 116 (omega arith),
      f 84 (omega arith),
      f 117 (omega arith),
      f 85 (omega arith),
      f 115 (omega arith),
      f 83 (omega arith),
    ) refl

pub macro_named-ascii : (letter : ℕ) (meant : Macro) → macro_named letter ≡ Some meant → letter < 128
macro_named-ascii letter meant is =
    ⊎_elim (λ low. low) (λ high. let e : None ≡ Some meant = sym (macro_named-high letter high) ∙ is in absurd (cc)) (cases_lt letter 128)

high_begins : (bytes rest : List ℕ) → 1 ≤ length bytes → AreHigh bytes → BeginsNoMacro (bytes ++ rest)
high_begins [] rest some high = absurd (omega arith)
high_begins (byte ∷ bytes) rest some high = (macro_named-high byte high.0, differs byte 123 high.0 (omega arith))

-- a text whose first character is no macro's letter and no brace
pub BeginsNoMacro-char : (text rest : List ℕ) (letter : ℕ) → text ≡ encode_utf8 letter ++ rest → (letter < 128 → text ≡ letter ∷ rest)
    → (128 ≤ letter → AreHigh (encode_utf8 letter)) → macro_named letter ≡ None → letter ≢ 123 → BeginsNoMacro text
BeginsNoMacro-char text rest letter bytes ascii high none other =
    ⊎_elim (λ low. subst BeginsNoMacro (sym (ascii low)) (none, differs_from letter 123 other))
    (λ above. subst BeginsNoMacro (sym bytes) (high_begins (encode_utf8 letter) rest (omega (arith, length-encode letter, (len_utf8_bounds letter).0)) (high above)))
    (cases_lt letter 128)

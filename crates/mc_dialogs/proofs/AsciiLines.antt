-- the letters and digits of a mode are ASCII
use Rattle.std.proofs.Common.{◌≡◌, ℕ, ◌+◌, ◌/◌, ◌%◌, ◌<◌, zero, suc, Bool, true, false, List, [], ◌∷◌, if◌then◌else◌, arith}
use Rattle.std.specs.Prelude.{slice_index, ⊤}
use Rattle.std.specs.Str.{IsUtf8, IsAscii}
use Rattle.std.proofs.lemmas.Str.{IsUtf8-from_ascii}
use Rattle.mc_text.specs.declared.kind.Kind.TheVariants.{File}
use Rattle.mc_text.specs.Permissions.{has, letter, last_letter, perm_text}
use Rattle.mc_dialogs.specs.ModeKeys.{octal_digit, octal}

-- each byte is below 128
abbrev pub AreAscii : List ℕ → Type 0
AreAscii [] = ⊤
AreAscii (byte ∷ bytes) = (byte < 128) × AreAscii bytes

ascii_at : (bytes : List ℕ) → AreAscii bytes → (i : ℕ) → slice_index bytes i < 128
ascii_at [] all i = omega arith
ascii_at (byte ∷ bytes) all zero = all.0
ascii_at (byte ∷ bytes) all (suc i) = ascii_at bytes all.1 i

pub utf8-ascii : (bytes : List ℕ) → AreAscii bytes → IsUtf8 bytes
utf8-ascii bytes all = IsUtf8-from_ascii bytes (ascii_at bytes all)

choice-ascii : (test : Bool) (x y : ℕ) → x < 128 → y < 128 → (if test then x else y) < 128
choice-ascii true x y left right = left
choice-ascii false x y left right = right

letter-ascii : (mode bit shown : ℕ) → shown < 128 → letter mode bit shown < 128
letter-ascii mode bit shown small = choice-ascii (has mode bit) shown 45 small (omega arith)

last-ascii : (mode bit special small large : ℕ) → small < 128 → large < 128 → last_letter mode bit special small large < 128
last-ascii mode bit special small large left right =
    choice-ascii (has mode special) (if has mode bit then small else large) (letter mode bit 120)
    (choice-ascii (has mode bit) small large left right) (letter-ascii mode bit 120 (omega arith))

pub letters-utf8 : (mode : ℕ) → IsUtf8 (perm_text File mode)
letters-utf8 mode = utf8-ascii (perm_text File mode) (
  omega arith,
  (
    letter-ascii mode 0o400 114 (omega arith),
    (
      letter-ascii mode 0o200 119 (omega arith),
      (
        last-ascii mode 0o100 0o4000 115 83 (omega arith) (omega arith),
        (
          letter-ascii mode 0o040 114 (omega arith),
          (
            letter-ascii mode 0o020 119 (omega arith),
            (
              last-ascii mode 0o010 0o2000 115 83 (omega arith) (omega arith),
              (letter-ascii mode 0o004 114 (omega arith), (letter-ascii mode 0o002 119 (omega arith), (last-ascii mode 0o001 0o1000 116 84 (omega arith) (omega arith), tt))),
            ),
          ),
        ),
      ),
    ),
  ),
)

pub octal-utf8 : (mode : ℕ) → IsUtf8 (octal mode)
octal-utf8 mode = utf8-ascii (octal mode) (omega arith, (omega arith, (omega arith, (omega arith, tt))))

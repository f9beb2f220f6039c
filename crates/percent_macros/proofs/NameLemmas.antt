-- The last dot of a name.
use Rattle.std.proofs.Common.{◌≡◌, ℕ, cond, List, [], ◌∷◌, ◌++◌, Some, None, refl, ap, ◌∙◌, ◌<◌, length, arith}
use Rattle.text_scan.specs.Lines.{IsWithout}
use Rattle.percent_macros.specs.Extensions.{behind_byte, around_last_dot, with_first, name_parts}

around_last_dot-none : (text : List ℕ) → IsWithout 46 text → around_last_dot text ≡ None
around_last_dot-none [] without = refl
around_last_dot-none (byte ∷ text) without =
    ap (behind_byte byte text) (around_last_dot-none text without.1)
    ∙ ap (λ is. cond is (Some (record { stem = []; extension = text })) None) without.0

around_last_dot-found : (stem extension : List ℕ) → IsWithout 46 extension
    → around_last_dot (stem ++ 46 ∷ extension) ≡ Some (record { stem = stem; extension = extension })
around_last_dot-found [] extension without = ap (behind_byte 46 extension) (around_last_dot-none extension without)
around_last_dot-found (byte ∷ stem) extension without =
    ap (behind_byte byte (stem ++ 46 ∷ extension)) (around_last_dot-found stem extension without)

pub name_parts-none : (name : List ℕ) → IsWithout 46 name → name_parts name ≡ record { stem = name; extension = [] }
name_parts-none [] without = refl
name_parts-none (byte ∷ name) without = ap (with_first byte name) (around_last_dot-none name without.1)

pub name_parts-first : (extension : List ℕ) → IsWithout 46 extension
    → name_parts (46 ∷ extension) ≡ record { stem = 46 ∷ extension; extension = [] }
name_parts-first extension without = ap (with_first 46 extension) (around_last_dot-none extension without)

pub name_parts-found : (byte : ℕ) (stem extension : List ℕ) → IsWithout 46 extension
    → name_parts (byte ∷ (stem ++ 46 ∷ extension)) ≡ record { stem = byte ∷ stem; extension = extension }
name_parts-found byte stem extension without = ap (with_first byte (stem ++ 46 ∷ extension)) (around_last_dot-found stem extension without)

-- the same, of a stem that isn't empty
pub name_parts-split : (name stem extension : List ℕ) → name ≡ stem ++ 46 ∷ extension → IsWithout 46 extension → 0 < length stem
    → name_parts name ≡ record { stem = stem; extension = extension }
name_parts-split name [] extension is without some = absurd (omega arith)
name_parts-split name (byte ∷ stem) extension is without some = ap name_parts is ∙ name_parts-found byte stem extension without

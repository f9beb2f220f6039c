-- A printable character of ASCII is a unit of one byte, which shows as itself in one column.
use Rattle.std.proofs.Common.{◌≡◌, ℕ, zero, suc, ◌+◌, ◌-◌, ◌<◌, ◌≤◌, ◌⊎◌, inl, inr, Bool, true, false, ◌==◌, nat_le, nat_lt, ◌&&◌, ◌||◌, not, List, [], ◌∷◌, ◌++◌, length, take, drop, get_or, refl, sym, ap, ◌∙◌, arith, ⊎_elim, subst, min, max, replicate, string_bytes, encode_utf8}
use Rattle.std.specs.Prelude.{sum_by}
use Rattle.std.specs.Str.{IsAscii, is_utf8, bytes_eq, chars}
use Rattle.std.specs.Char.{is_control}
use Rattle.std.specs.List.{list_any, list_all}
use Rattle.std.proofs.lemmas.Str.{IsUtf8-from_ascii, is_utf8-from_IsUtf8, chars-IsAscii, encode_ascii}
use Rattle.std.proofs.lemmas.Bool.{cond-true, cond-false, ne_eqb}
use Rattle.std.proofs.lemmas.Bool.Decides.{nat_tests}
use Rattle.std.proofs.lemmas.List.{append-nil}
use Rattle.std.proofs.Math.Seq.{drop-cons}
use Rattle.unicode_width.specs.Width.{char_width, str_width}
use Rattle.unicode_width.proofs.Rules.{is_simple, width_or_zero, str_width-simple}
use Rattle.mc_text.specs.Fit.{cluster_columns}
use Rattle.mc_text.specs.Drawn.{is_drawable}
use Rattle.text_units.specs.Units.{is_shown, unit_columns, unit_text, columns_in_sight, piece_in_sight}
use Rattle.mc_viewer.specs.Units.{unit_length, first_unit, is_plain}

plain-below : (byte : ℕ) → is_plain byte ≡ true → byte < 128
plain-below byte is = grind (arith, nat_tests)

plain-ascii : (byte : ℕ) → is_plain byte ≡ true → IsAscii (byte ∷ [])
plain-ascii byte is zero = plain-below byte is
plain-ascii byte is (suc i) = omega arith

plain-utf8 : (byte : ℕ) → is_plain byte ≡ true → is_utf8 (byte ∷ []) ≡ true
plain-utf8 byte is = is_utf8-from_IsUtf8 (byte ∷ []) (IsUtf8-from_ascii (byte ∷ []) (plain-ascii byte is))

-- it is the first unit wherever it stands first
pub plain_unit : (bytes : List ℕ) → 1 ≤ length bytes → is_plain (get_or bytes 0 0) ≡ true → unit_length bytes ≡ 1
unfolding unit_length
plain_unit [] some is = absurd (omega arith)
plain_unit (byte ∷ rest) some is = cond-true _ _ _ (plain-utf8 byte is)

width-one : (byte : ℕ) → is_plain byte ≡ true → width_or_zero false byte ≡ 1
unfolding char_width
width-one byte is = grind (arith, nat_tests)

simple : (byte : ℕ) → is_plain byte ≡ true → list_all is_simple (byte ∷ []) ≡ true
simple byte is = grind (arith, nat_tests)

plain-cluster : (byte : ℕ) → is_plain byte ≡ true → cluster_columns (byte ∷ []) ≡ 1
unfolding cluster_columns
plain-cluster byte is =
    let one = width-one byte is in
    let e : sum_by (width_or_zero false) (byte ∷ []) ≡ 1 = omega (arith, one) in
    ap (str_width false) (chars-IsAscii (byte ∷ []) (plain-ascii byte is)) ∙ str_width-simple false (byte ∷ []) (simple byte is) ∙ e

plain-no_control : (byte : ℕ) → is_plain byte ≡ true → list_any is_control (chars (byte ∷ [])) ≡ false
plain-no_control byte is =
    let e : list_any is_control (byte ∷ []) ≡ false = grind (arith, nat_tests) in
    ap (list_any is_control) (chars-IsAscii (byte ∷ []) (plain-ascii byte is)) ∙ e

plain-drawn : (byte : ℕ) → is_plain byte ≡ true → is_drawable (byte ∷ []) ≡ true
unfolding is_drawable
plain-drawn byte is = rw (plain-cluster byte is, plain-no_control byte is)

plain-shown : (byte : ℕ) → is_plain byte ≡ true → is_shown (byte ∷ []) ≡ true
plain-shown byte is = rw (plain-utf8 byte is, plain-drawn byte is)

plain-no_tab : (byte : ℕ) → is_plain byte ≡ true → bytes_eq (byte ∷ []) (9 ∷ []) ≡ false
plain-no_tab byte is = grind (arith, nat_tests)

pub plain_columns : (column byte : ℕ) → is_plain byte ≡ true → unit_columns column (byte ∷ []) ≡ 1
unfolding unit_columns
plain_columns column byte is = rw (plain-no_tab byte is, plain-shown byte is) (plain-cluster byte is)

plain-text : (columns byte : ℕ) → is_plain byte ≡ true → unit_text columns (byte ∷ []) ≡ byte ∷ []
unfolding unit_text
plain-text columns byte is = rw (plain-no_tab byte is, plain-shown byte is)

-- where it is in sight it shows as itself
pub plain_in_sight : (left right column byte : ℕ) → is_plain byte ≡ true → left ≤ column → column < right
    → piece_in_sight left right column (byte ∷ []) ≡ byte ∷ []
unfolding piece_in_sight
plain_in_sight left right column byte is from to =
    let one = plain_columns column byte is in
    let all : columns_in_sight left right column 1 ≡ 1 = omega arith in
    rw one (rw all (plain-text 1 byte is))

-- and elsewhere as nothing
pub plain_out_of_sight : (left right column byte : ℕ) → is_plain byte ≡ true → (column < left) ⊎ (right ≤ column)
    → piece_in_sight left right column (byte ∷ []) ≡ []
unfolding piece_in_sight
plain_out_of_sight left right column byte is out =
    let one = plain_columns column byte is in
    let none : columns_in_sight left right column 1 ≡ 0 = ⊎_elim (λ (low : column < left). omega arith) (λ (high : right ≤ column). omega arith) out in
    rw one (rw none refl)

-- a row with it behind, where it is in sight
pub plain_pushed : (left right column byte : ℕ) (row pushed : List ℕ) → is_plain byte ≡ true → left ≤ column → column < right
    → pushed ≡ row ++ encode_utf8 byte → pushed ≡ row ++ piece_in_sight left right column (byte ∷ [])
plain_pushed left right column byte row pushed is from to made =
    made ∙ ap (λ l. row ++ l) (encode_ascii byte (plain-below byte is) ∙ sym (plain_in_sight left right column byte is from to))

-- and elsewhere the row itself
pub plain_hidden : (left right column byte : ℕ) (row : List ℕ) → is_plain byte ≡ true → (column < left) ⊎ (right ≤ column)
    → row ≡ row ++ piece_in_sight left right column (byte ∷ [])
plain_hidden left right column byte row is out =
    sym (append-nil row) ∙ ap (λ l. row ++ l) (sym (plain_out_of_sight left right column byte is out))

-- a list of one item is that item
pub one_item : (xs : List ℕ) → length xs ≡ 1 → xs ≡ get_or xs 0 0 ∷ []
one_item [] one = absurd (omega arith)
one_item (x ∷ []) one = refl
one_item (x ∷ y ∷ xs) one = absurd (omega arith)

-- A piece that is kept shows what it was read of, and where short rows begin.
use Rattle.std.proofs.Common.{◌≡◌, ℕ, zero, suc, ◌+◌, ◌-◌, ◌<◌, ◌≤◌, ◌⊎◌, inl, inr, true, List, [], ◌∷◌, length, take, drop, get_or, min, max, refl, sym, ap, ◌∙◌, arith, ⊎_elim, subst, length-take, length-drop, drop-drop}
use Rattle.std.specs.Prelude.{All}
use Rattle.std.proofs.lemmas.Bool.Decides.{nat_tests}
use Rattle.std.proofs.lemmas.List.{take-take, take_all, take_min, get_or-take}
use Rattle.mc_viewer.specs.declared.layout.Layout.{Layout}
use Rattle.mc_viewer.specs.declared.layout.Shape.TheVariants.{Wrapped}
use Rattle.text_units.specs.Units.{unit_columns}
use Rattle.mc_viewer.specs.Units.{unit_length, first_unit, is_plain}
use Rattle.mc_viewer.specs.Rows.{wrapped_length, row_length, row_holding, IsLineStart}
use Rattle.mc_viewer.specs.Windows.{IsPieceAt, window_of}
use Rattle.mc_viewer.proofs.LineLemmas.{is_ten}
use Rattle.mc_viewer.proofs.RowLemmas.{wrapped-newline, wrapped-taken}
use Rattle.mc_viewer.proofs.PlainLemmas.{plain_unit, plain_columns}
use Rattle.mc_viewer.proofs.StartLemmas.{IsRow-line, holding-at}

-- so many items from a place on, in a front that reaches over them
part-of : (place count n : ℕ) (xs : List ℕ) → place + count ≤ n → take count (drop place (take n xs)) ≡ take count (drop place xs)
part-of zero count n xs within = take-take count n xs (omega arith)
part-of (suc place) count zero xs within = absurd (omega arith)
part-of (suc place) count (suc n) [] within = refl
part-of (suc place) count (suc n) (x ∷ xs) within = part-of place count n xs (omega arith)

-- a part of the piece is a part of what it was read of
pub part_kept : (bytes piece : List ℕ) (start place count at : ℕ) → IsPieceAt bytes start piece → start + place ≡ at → place + count ≤ length piece
    → take count (drop place piece) ≡ take count (drop at bytes)
part_kept bytes piece start place count at is at_is within =
    ap (λ l. take count (drop place l)) is ∙ part-of place count (length piece) (drop start bytes) within
    ∙ ap (take count) (drop-drop place start bytes ∙ ap (λ n. drop n bytes) at_is)

own-front : (n : ℕ) (xs : List ℕ) → take n xs ≡ take (length (take n xs)) xs
own-front zero xs = refl
own-front (suc n) [] = refl
own-front (suc n) (x ∷ xs) = ap (λ l. x ∷ l) (own-front n xs)

-- what was read from a place on is a piece from there on
pub read_kept : (bytes piece : List ℕ) (at count : ℕ) → piece ≡ take count (drop at bytes) → IsPieceAt bytes at piece
read_kept bytes piece at count is = is ∙ own-front count (drop at bytes) ∙ ap (λ n. take n (drop at bytes)) (ap length (sym is))

-- the front of a piece
pub front_kept : (bytes piece : List ℕ) (start count : ℕ) → IsPieceAt bytes start piece → count ≤ length piece → take count piece ≡ take count (drop start bytes)
front_kept bytes piece start count is within = ap (take count) is ∙ take-take count (length piece) (drop start bytes) within

drop-front : (place n : ℕ) (xs : List ℕ) → drop place (take n xs) ≡ take (n - place) (drop place xs)
drop-front zero n xs = let e : n ≡ n - 0 = omega arith in ap (λ m. take m xs) e
drop-front (suc place) zero xs = let e : 0 ≡ 0 - suc place = omega arith in ap (λ m. take m (drop (suc place) xs)) e
drop-front (suc place) (suc n) [] = sym (take_all (suc n - suc place) [] (omega arith))
drop-front (suc place) (suc n) (x ∷ xs) =
    let e : n - place ≡ suc n - suc place = omega arith in drop-front place n xs ∙ ap (λ m. take m (drop place xs)) e

-- the rest of a piece
pub rest_kept : (bytes piece : List ℕ) (start place : ℕ) → IsPieceAt bytes start piece → IsPieceAt bytes (start + place) (drop place piece)
rest_kept bytes piece start place is =
    read_kept bytes (drop place piece) (start + place) (length piece - place)
    (ap (drop place) is ∙ drop-front place (length piece) (drop start bytes) ∙ ap (take (length piece - place)) (drop-drop place start bytes))

-- a printable character of ASCII that has room is taken
plain-taken : (columns column byte : ℕ) (rest : List ℕ) → is_plain byte ≡ true → column < columns
    → wrapped_length columns column 0 (byte ∷ rest) ≡ suc (wrapped_length columns (column + 1) 0 rest)
plain-taken columns column byte rest is room =
    let one : unit_length (byte ∷ rest) ≡ 1 = plain_unit (byte ∷ rest) (omega arith) is in
    let first : first_unit (byte ∷ rest) ≡ byte ∷ [] = ap (λ n. take n (byte ∷ rest)) one in
    let wide : unit_columns column (first_unit (byte ∷ rest)) ≡ 1 = ap (unit_columns column) first ∙ plain_columns column byte is in
    let fits : column + unit_columns column (first_unit (byte ∷ rest)) ≤ columns = omega (arith, wide) in
    let other : byte ≡ 10 → ⊥ = λ ten. grind (arith, nat_tests) in
    wrapped-taken columns column byte rest other (λ some. fits)
    ∙ ap (λ n. suc (wrapped_length columns (column + n) (unit_length (byte ∷ rest) - 1) rest)) wide
    ∙ ap (λ n. suc (wrapped_length columns (column + 1) (n - 1) rest)) one

-- behind so many of these the row goes on, by one more or by the newline
pub plain_row : (columns column count : ℕ) (bytes : List ℕ) → count < length bytes → ((k : ℕ) → k < count → is_plain (get_or bytes k 0) ≡ true)
    → (get_or bytes count 0 ≡ 10) ⊎ ((is_plain (get_or bytes count 0) ≡ true) × (column + count < columns)) → column + count ≤ columns
    → count < wrapped_length columns column 0 bytes
plain_row columns column count [] more plain then room = absurd (omega arith)
plain_row columns column zero (byte ∷ rest) more plain then room =
    ⊎_elim (λ (ten : byte ≡ 10). omega (arith, wrapped-newline columns column byte rest ten))
    (λ (one : (is_plain byte ≡ true) × (column + 0 < columns)). omega (arith, plain-taken columns column byte rest one.0 (omega (arith, one.1)))) then
plain_row columns column (suc count) (byte ∷ rest) more plain then room =
    let e : column + suc count ≡ column + 1 + count = omega arith in
    let further = plain_row columns (column + 1) count rest (omega arith) (λ k low. plain (suc k) (omega arith))
    (subst (λ n. (get_or rest count 0 ≡ 10) ⊎ ((is_plain (get_or rest count 0) ≡ true) × (n < columns))) e then) (omega arith) in
    omega (arith, further, plain-taken columns column byte rest (plain 0 (omega arith)) (omega arith))

-- the same of bytes whose front is known
pub plain_front : (columns count : ℕ) (front bytes : List ℕ) → front ≡ take (length front) bytes → count < length front
    → ((k : ℕ) → k < count → is_plain (get_or front k 0) ≡ true)
    → (get_or front count 0 ≡ 10) ⊎ ((is_plain (get_or front count 0) ≡ true) × (count < columns)) → count ≤ columns
    → count < wrapped_length columns 0 0 bytes
plain_front columns count front bytes is more plain then room =
    let same : (k : ℕ) → k < length front → get_or front k 0 ≡ get_or bytes k 0 = λ k low. ap (λ l. get_or l k 0) is ∙ get_or-take (length front) bytes k 0 low in
    let long : length front ≤ length bytes = omega (arith, ap length is, length-take (length front) bytes) in
    let none : count ≡ 0 + count = omega arith in
    plain_row columns 0 count bytes (omega arith) (λ k low. ap is_plain (sym (same k (omega arith))) ∙ plain k low)
    (subst (λ n. (get_or bytes count 0 ≡ 10) ⊎ ((is_plain (get_or bytes count 0) ≡ true) × (n < columns))) none
    (subst (λ b. (b ≡ 10) ⊎ ((is_plain b ≡ true) × (count < columns))) (same count more) then)) (omega arith)

-- of a front all of whose bytes are such
pub all_plain : (count : ℕ) (bytes front : List ℕ) → front ≡ take count bytes → count ≤ length bytes → All (λ byte. is_plain byte ≡ true) front
    → (k : ℕ) → k < count → is_plain (get_or bytes k 0) ≡ true
all_plain count bytes front is within all k low =
    let below : k < length front = omega (arith, ap length is, length-take count bytes) in
    ap is_plain (sym (get_or-take count bytes k 0 low) ∙ ap (λ l. get_or l k 0) (sym is)) ∙ all k 0 below

-- a row that begins with a line holds the bytes that it reaches over
pub line_holds : (columns start count byte : ℕ) (bytes : List ℕ) → IsLineStart bytes start → start + count ≡ byte → byte < length bytes
    → count < wrapped_length columns 0 0 (drop start bytes) → start ≡ row_holding Wrapped columns bytes byte
unfolding row_length
line_holds columns start count byte bytes line there inside reach =
    let end = start + wrapped_length columns 0 0 (drop start bytes) in
    let past : byte < end = omega arith in
    sym (holding-at Wrapped columns bytes start end (IsRow-line Wrapped columns (λ same. cc) bytes start line) (omega arith) refl byte (omega arith) (inl past))

-- the window of a row, of which no more was read than there is
pub window_read : (layout : Layout) (size row count : ℕ) (bytes piece : List ℕ) → length bytes ≡ size
    → count ≡ min (size - row) (window_of layout.shape layout.columns layout.left) → piece ≡ take count (drop row bytes)
    → piece ≡ take (window_of layout.shape layout.columns layout.left) (drop row bytes)
window_read layout size row count bytes piece size_is is read =
    let window = window_of layout.shape layout.columns layout.left in
    let rest = drop row bytes in
    let count_is : count ≡ min window (length rest) = omega (arith, is, length-drop row bytes, size_is) in
    read ∙ ap (λ n. take n rest) count_is ∙ take_min window rest

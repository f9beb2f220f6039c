-- No unit reaches over the end of its line, so no row does, unless it ends with the newline.
use Rattle.std.proofs.Common.{◌≡◌, ℕ, zero, suc, ◌+◌, ◌-◌, ◌<◌, ◌≤◌, inl, inr, true, List, [], ◌∷◌, length, take, drop, get_or, min, refl, sym, ap, ◌∙◌, arith, ⊎_elim, subst, max, length-drop}
use Rattle.std.proofs.Math.Seq.{drop-cons}
use Rattle.std.specs.Prelude.{⊤}
use Rattle.std.specs.Str.{is_utf8, IsUtf8}
use Rattle.std.proofs.lemmas.Bool.{cases_lt, both_ways}
use Rattle.std.proofs.lemmas.Str.{IsUtf8-from_is_utf8, is_utf8-from_IsUtf8, IsUtf8-take, IsCharBoundary-before_ascii}
use Rattle.std.proofs.lemmas.List.{take-take, get_or-take, length-take-le}
use Rattle.mc_viewer.specs.declared.layout.Shape.{Shape}
use Rattle.mc_viewer.specs.declared.layout.Shape.TheVariants.{Wrapped, Unwrapped, Hex}
use Rattle.text_units.specs.Units.{unit_columns}
use Rattle.mc_viewer.specs.Units.{unit_length, first_unit}
use Rattle.mc_viewer.specs.Rows.{line_length, wrapped_length, row_length}
use Rattle.mc_viewer.proofs.UnitLemmas.{unit_fits, unit_shortest, unit_text, unit_some}
use Rattle.mc_viewer.proofs.LineLemmas.{is_ten, line_length-newline, line_length-other, line_length-within}
use Rattle.mc_viewer.proofs.RowLemmas.{wrapped-newline, wrapped-full, wrapped-taken}

-- so many bytes hold no newline
abbrev pub NoNewline : ℕ → List ℕ → Type 0
NoNewline zero bytes = ⊤
NoNewline (suc count) [] = ⊥
NoNewline (suc count) (byte ∷ rest) = (byte ≡ 10 → ⊥) × NoNewline count rest

NoNewline-from : (count : ℕ) (bytes : List ℕ) → count ≤ length bytes → ((k : ℕ) → k < count → get_or bytes k 0 ≡ 10 → ⊥) → NoNewline count bytes
NoNewline-from zero bytes within nowhere = tt
NoNewline-from (suc count) [] within nowhere = absurd (omega arith)
NoNewline-from (suc count) (byte ∷ rest) within nowhere =
    (nowhere 0 (omega arith), NoNewline-from count rest (omega arith) (λ k low. nowhere (suc k) (omega arith)))

NoNewline-line : (count : ℕ) (bytes : List ℕ) → NoNewline count bytes → count ≤ line_length bytes
NoNewline-line zero bytes none = omega arith
NoNewline-line (suc count) [] none = absurd none
NoNewline-line (suc count) (byte ∷ rest) none =
    rw (line_length-other byte rest none.0) (omega (arith, NoNewline-line count rest none.1))

-- a newline stands in no first unit but its own
pub unit_in_line : (byte : ℕ) (rest : List ℕ) → (byte ≡ 10 → ⊥) → NoNewline (unit_length (byte ∷ rest)) (byte ∷ rest)
unit_in_line byte rest differs =
    let bytes = byte ∷ rest in
    let u = unit_length bytes in
    let within : u ≤ length bytes = unit_fits bytes (omega arith) in
    NoNewline-from u bytes within (λ k low here.
    ⊎_elim (λ (first : k < 1). let e : k ≡ 0 = omega arith in differs (subst (λ n. get_or bytes n 0 ≡ 10) e here))
    (λ (later : 1 ≤ k).
    let whole : IsUtf8 (take u bytes) = IsUtf8-from_is_utf8 _ (unit_text bytes (omega arith)) in
    let byte_there : get_or (take u bytes) k 0 ≡ 10 = get_or-take u bytes k 0 low ∙ here in
    let length_is : length (take u bytes) ≡ u = length-take-le u bytes within in
    let boundary = IsCharBoundary-before_ascii (take u bytes) k (omega arith) (omega arith) in
    let cut : is_utf8 (take k bytes) ≡ true =
    ap is_utf8 (sym (take-take k u bytes (omega arith))) ∙ is_utf8-from_IsUtf8 _ (IsUtf8-take (take u bytes) k whole boundary) in
    both_ways _ (unit_shortest bytes k later low) cut)
    (cases_lt k 1))

NoNewline-rest : (count : ℕ) (byte : ℕ) (rest : List ℕ) → 1 ≤ count → NoNewline count (byte ∷ rest) → NoNewline (count - 1) rest
NoNewline-rest zero byte rest some none = absurd (omega arith)
NoNewline-rest (suc count) byte rest some none = let e : count ≡ suc count - 1 = omega arith in subst (λ n. NoNewline n rest) e none.1

-- a row ends with its line at the latest
pub wrapped-line : (columns column skip : ℕ) (bytes : List ℕ) → NoNewline skip bytes → wrapped_length columns column skip bytes ≤ line_length bytes
unfolding wrapped_length
wrapped-line columns column zero [] none = omega arith
wrapped-line columns column (suc skip) [] none = absurd none
wrapped-line columns column (suc skip) (byte ∷ rest) none =
    rw (line_length-other byte rest none.0) (let further = wrapped-line columns column skip rest none.1 in omega arith)
wrapped-line columns column zero (byte ∷ rest) none =
    ⊎_elim (λ (is : byte ≡ 10). let one = wrapped-newline columns column byte rest is in let line = line_length-newline byte rest is in omega arith)
    (λ (differs : byte ≡ 10 → ⊥).
    let u = unit_length (byte ∷ rest) in
    let next = column + unit_columns column (first_unit (byte ∷ rest)) in
    let line = line_length-other byte rest differs in
    let further = wrapped-line columns next (u - 1) rest (NoNewline-rest u byte rest (unit_some (byte ∷ rest)) (unit_in_line byte rest differs)) in
    ⊎_elim (λ (full : (0 < column) × (columns < next)). let none_taken = wrapped-full columns column byte rest differs full.0 full.1 in omega arith)
    (λ (room : 0 < column → next ≤ columns). let taken = wrapped-taken columns column byte rest differs room in omega arith)
    (⊎_elim (λ (some : 0 < column). ⊎_elim (λ (over : columns < next). inl (some, over)) (λ (fits : next ≤ columns). inr (λ _. fits)) (cases_lt columns next))
    (λ (first : column ≤ 0). inr (λ (some : 0 < column). absurd (omega arith))) (cases_lt 0 column)))
    (is_ten byte)

pub row_length-line : (shape : Shape) (columns : ℕ) (bytes : List ℕ) → (shape ≡ Hex → ⊥) → row_length shape columns bytes ≤ line_length bytes
unfolding row_length
row_length-line Wrapped columns bytes text = wrapped-line columns 0 0 bytes tt
row_length-line Unwrapped columns bytes text = omega arith
row_length-line Hex columns bytes text = absurd (text refl)

pub row_length-some : (shape : Shape) (columns : ℕ) (byte : ℕ) (rest : List ℕ) → 1 ≤ row_length shape columns (byte ∷ rest)
unfolding row_length
row_length-some Wrapped columns byte rest =
    ⊎_elim (λ (is : byte ≡ 10). let one = wrapped-newline columns 0 byte rest is in omega arith)
    (λ (differs : byte ≡ 10 → ⊥). let taken = wrapped-taken columns 0 byte rest differs (λ (some : 0 < 0). absurd (omega arith)) in omega arith)
    (is_ten byte)
row_length-some Unwrapped columns byte rest =
    ⊎_elim (λ (is : byte ≡ 10). let one = line_length-newline byte rest is in omega arith)
    (λ (differs : byte ≡ 10 → ⊥). let more = line_length-other byte rest differs in omega arith)
    (is_ten byte)
row_length-some Hex columns byte rest = omega arith

-- a row ends within the bytes
pub row_length-within : (shape : Shape) (columns : ℕ) (bytes : List ℕ) → row_length shape columns bytes ≤ length bytes
unfolding row_length
row_length-within Wrapped columns bytes = let line = wrapped-line columns 0 0 bytes tt in omega (arith, line_length-within bytes)
row_length-within Unwrapped columns bytes = line_length-within bytes
row_length-within Hex columns bytes = omega arith

pub wrapped-within : (columns : ℕ) (bytes : List ℕ) → wrapped_length columns 0 0 bytes ≤ length bytes
wrapped-within columns bytes = let line = wrapped-line columns 0 0 bytes tt in omega (arith, line_length-within bytes)

pub wrapped_is : (columns : ℕ) (bytes : List ℕ) → wrapped_length columns 0 0 bytes ≡ row_length Wrapped columns bytes
unfolding row_length
wrapped_is columns bytes = refl

pub unwrapped_is : (columns : ℕ) (bytes : List ℕ) → line_length bytes ≡ row_length Unwrapped columns bytes
unfolding row_length
unwrapped_is columns bytes = refl

pub hex_is : (columns size at : ℕ) (bytes : List ℕ) → length bytes ≡ size → at < size → min size (at + 16) ≡ at + row_length Hex columns (drop at bytes)
unfolding row_length
hex_is columns size at bytes size_is inside = omega (arith, length-drop at bytes)

pub row_length-some_at : (shape : Shape) (columns at : ℕ) (bytes : List ℕ) → at < length bytes → 1 ≤ row_length shape columns (drop at bytes)
row_length-some_at shape columns at bytes inside =
    subst (λ l. 1 ≤ row_length shape columns l) (sym (drop-cons bytes at 0 inside)) (row_length-some shape columns (get_or bytes at 0) (drop (suc at) bytes))

-- where a row ends of which a window is seen
pub row_end-is : (columns size at count end : ℕ) (bytes : List ℕ) → length bytes ≡ size → at < size
    → count ≡ wrapped_length columns 0 0 (drop at bytes) → end ≡ min size (at + max 1 count) → end ≡ at + row_length Wrapped columns (drop at bytes)
row_end-is columns size at count end bytes size_is inside count_is is =
    let row = wrapped_is columns (drop at bytes) in
    let some = row_length-some_at Wrapped columns at bytes (omega arith) in
    omega (arith, length-drop at bytes, row_length-within Wrapped columns (drop at bytes))

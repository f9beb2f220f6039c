-- Where rows begin: each row behind the one before, each line, and each sixteen bytes in hexadecimal.
use Rattle.std.proofs.Common.{◌≡◌, ℕ, zero, suc, ◌+◌, ◌-◌, ◌*◌, ◌<◌, ◌≤◌, ◌⊎◌, true, false, List, [], ◌∷◌, ◌++◌, length, take, drop, get_or, refl, sym, ap, ◌∙◌, arith, ⊎_elim, subst, append_assoc, length-drop, drop-drop, take-append-drop}
use Rattle.std.specs.Prelude.{nat_le, nat_lt}
use Rattle.std.proofs.lemmas.Bool.{cond-true, cond-false}
use Rattle.std.proofs.lemmas.Bool.Decides.{nat_tests}
use Rattle.std.proofs.lemmas.List.{drop_all, length-take-le}
use Rattle.std.proofs.Math.Seq.{drop-cons}
use Rattle.mc_viewer.specs.declared.layout.Shape.{Shape}
use Rattle.mc_viewer.specs.declared.layout.Shape.TheVariants.{Hex}
use Rattle.mc_viewer.specs.Rows.{line_length, row_length, row_starts, all_rows, last_row_to, row_holding, rows_from, row_after, AllBelow, IsRow, IsLineStart}
use Rattle.mc_viewer.proofs.LineLemmas.{is_ten, line_length-newline, line_length-other}
use Rattle.mc_viewer.proofs.LineTextLemmas.{row_length-line, row_length-some}

module _ (shape : Shape) (columns : ℕ) where
  starts-skip : (at skip : ℕ) (bytes : List ℕ) → row_starts shape columns at skip bytes ≡ row_starts shape columns (at + skip) 0 (drop skip bytes)
  unfolding row_starts
  starts-skip at zero bytes = let e : at ≡ at + 0 = omega arith in ap (λ n. row_starts shape columns n 0 bytes) e
  starts-skip at (suc skip) [] = refl
  starts-skip at (suc skip) (byte ∷ rest) =
      let e : at + 1 + skip ≡ at + suc skip = omega arith in
      starts-skip (at + 1) skip rest ∙ ap (λ n. row_starts shape columns n 0 (drop skip rest)) e

  -- the first row, and those behind it
  pub starts-next : (at : ℕ) (bytes : List ℕ) → 1 ≤ length bytes
      → row_starts shape columns at 0 bytes
      ≡ at ∷ row_starts shape columns (at + row_length shape columns bytes) 0 (drop (row_length shape columns bytes) bytes)
  unfolding row_starts
  starts-next at [] some = absurd (omega arith)
  starts-next at (byte ∷ rest) some =
      let n = row_length shape columns (byte ∷ rest) in
      let one : 1 ≤ n = row_length-some shape columns byte rest in
      let e : at + 1 + (n - 1) ≡ at + n = omega arith in
      let m : suc (n - 1) ≡ n = omega arith in
      ap (λ l. at ∷ l)
      (starts-skip (at + 1) (n - 1) rest ∙ ap (λ k. row_starts shape columns k 0 (drop (n - 1) rest)) e
      ∙ ap (λ k. row_starts shape columns (at + n) 0 (drop k (byte ∷ rest))) m)

  starts-none : (at : ℕ) → row_starts shape columns at 0 [] ≡ []
  unfolding row_starts
  starts-none at = refl

  starts-head : (at : ℕ) (byte : ℕ) (rest : List ℕ)
      → row_starts shape columns at 0 (byte ∷ rest) ≡ at ∷ row_starts shape columns (at + 1) (row_length shape columns (byte ∷ rest) - 1) rest
  unfolding row_starts
  starts-head at byte rest = refl

-- places before a place
below-append : (at : ℕ) (before after : List ℕ) → AllBelow at before → AllBelow at after → AllBelow at (before ++ after)
below-append at [] after low high = high
below-append at (row ∷ rows) after low high = (low.0, below-append at rows after low.1 high)

below-wider : (at to : ℕ) (rows : List ℕ) → at ≤ to → AllBelow at rows → AllBelow to rows
below-wider at to [] wider low = tt
below-wider at to (row ∷ rows) wider low = (omega (arith, low.0), below-wider at to rows wider low.1)

-- the last row up to a byte, behind rows that begin before
last-over : (byte at found : ℕ) (before rest : List ℕ) → AllBelow at before → at ≤ byte
    → last_row_to byte found (before ++ at ∷ rest) ≡ last_row_to byte at rest
unfolding last_row_to
last-over byte at found [] rest low here = let test : nat_le at byte ≡ true = grind (arith, nat_tests) in cond-true _ _ _ test
last-over byte at found (row ∷ rows) rest low here =
    let earlier : row < at = low.0 in
    let test : nat_le row byte ≡ true = grind (arith, nat_tests) in
    cond-true _ _ _ test ∙ last-over byte at row rows rest low.1 here

from-over : (at : ℕ) (before rest : List ℕ) → AllBelow at before → rows_from at (before ++ rest) ≡ rows_from at rest
unfolding rows_from
from-over at [] rest low = refl
from-over at (row ∷ rows) rest low =
    let earlier : row < at = low.0 in
    let test : nat_lt row at ≡ true = grind (arith, nat_tests) in
    cond-true _ _ _ test ∙ from-over at rows rest low.1

from-here : (at : ℕ) (rest : List ℕ) → rows_from at (at ∷ rest) ≡ at ∷ rest
unfolding rows_from
from-here at rest = let test : nat_lt at at ≡ false = grind (arith, nat_tests) in cond-false _ _ _ test

from-none : (at : ℕ) → rows_from at [] ≡ []
unfolding rows_from
from-none at = refl

after-over : (at : ℕ) (before rest : List ℕ) → AllBelow at before → row_after at (before ++ at ∷ rest) ≡ row_after at rest
unfolding row_after
after-over at [] rest low = let test : nat_lt at at ≡ false = grind (arith, nat_tests) in cond-false _ _ _ test
after-over at (row ∷ rows) rest low =
    let earlier : row < at = low.0 in
    let test : nat_lt at row ≡ false = grind (arith, nat_tests) in
    cond-false _ _ _ test ∙ after-over at rows rest low.1

after-next : (at next : ℕ) (rest : List ℕ) → at < next → row_after at (next ∷ rest) ≡ next
unfolding row_after
after-next at next rest later = let test : nat_lt at next ≡ true = grind (arith, nat_tests) in cond-true _ _ _ test

after-none : (at : ℕ) → row_after at [] ≡ at
unfolding row_after
after-none at = refl

last-stop : (byte found next : ℕ) (rest : List ℕ) → byte < next → last_row_to byte found (next ∷ rest) ≡ found
unfolding last_row_to
last-stop byte found next rest past = let test : nat_le next byte ≡ false = grind (arith, nat_tests) in cond-false _ _ _ test

last-none : (byte found : ℕ) → last_row_to byte found [] ≡ found
unfolding last_row_to
last-none byte found = refl

module _ (shape : Shape) (columns : ℕ) (bytes : List ℕ) where
  -- the first row of the file
  pub IsRow-first : IsRow shape columns bytes 0
  IsRow-first = record { before = []; rows = refl; below = tt }

  module _ (at end : ℕ) (row : IsRow shape columns bytes at) (inside : at < length bytes) (is_end : end ≡ at + row_length shape columns (drop at bytes)) where
    split_here : row_starts shape columns at 0 (drop at bytes) ≡ at ∷ row_starts shape columns end 0 (drop end bytes)
    split_here =
        let n = row_length shape columns (drop at bytes) in
        starts-next shape columns at (drop at bytes) (omega (arith, length-drop at bytes))
        ∙ ap (λ l. at ∷ row_starts shape columns (at + n) 0 l) (drop-drop n at bytes)
        ∙ ap (λ k. at ∷ row_starts shape columns k 0 (drop k bytes)) (sym is_end)

    all_here : all_rows shape columns bytes ≡ row.before ++ at ∷ row_starts shape columns end 0 (drop end bytes)
    all_here = row.rows ∙ ap (λ l. row.before ++ l) split_here

    further : at < end
    further =
        let split : drop at bytes ≡ get_or bytes at 0 ∷ drop (suc at) bytes = drop-cons bytes at 0 inside in
        let some : 1 ≤ row_length shape columns (drop at bytes) = subst (λ l. 1 ≤ row_length shape columns l) (sym split) (row_length-some shape columns (get_or bytes at 0) (drop (suc at) bytes)) in
        omega arith

    -- a row begins behind each row
    pub IsRow-next : IsRow shape columns bytes end
    IsRow-next = record {
      before = row.before ++ at ∷ [];
      rows = all_here ∙ sym (append_assoc row.before (at ∷ []) (row_starts shape columns end 0 (drop end bytes)));
      below = below-append end row.before (at ∷ []) (below-wider at end row.before (omega (arith, further)) row.below) (further, tt);
    }

    -- the row that holds the bytes from it up to its end
    pub holding-at : (byte : ℕ) → at ≤ byte → (byte < end) ⊎ (length bytes ≤ end) → row_holding shape columns bytes byte ≡ at
    holding-at byte from to =
        ap (last_row_to byte 0) all_here
        ∙ last-over byte at 0 row.before (row_starts shape columns end 0 (drop end bytes)) row.below from
        ∙ stops (drop end bytes) refl
      where
        stops : (l : List ℕ) → drop end bytes ≡ l → last_row_to byte at (row_starts shape columns end 0 l) ≡ at
        stops [] is = ap (last_row_to byte at) (starts-none shape columns end) ∙ last-none byte at
        stops (x ∷ rest) is =
            let more : end < length bytes = omega (arith, length-drop end bytes, ap length is) in
            let short : byte < end = ⊎_elim (λ (low : byte < end). low) (λ (over : length bytes ≤ end). absurd (omega arith)) to in
            ap (last_row_to byte at) (starts-head shape columns end x rest) ∙ last-stop byte at end _ short

    -- the row behind it
    pub after-inside : end < length bytes → row_after at (all_rows shape columns bytes) ≡ end
    after-inside more =
        ap (row_after at) all_here ∙ after-over at row.before (row_starts shape columns end 0 (drop end bytes)) row.below
        ∙ ap (λ l. row_after at (row_starts shape columns end 0 l)) (drop-cons bytes end 0 more)
        ∙ ap (row_after at) (starts-head shape columns end (get_or bytes end 0) (drop (suc end) bytes))
        ∙ after-next at end _ further

    -- no row is behind the last one
    pub after-last : length bytes ≤ end → row_after at (all_rows shape columns bytes) ≡ at
    after-last over =
        ap (row_after at) all_here ∙ after-over at row.before (row_starts shape columns end 0 (drop end bytes)) row.below
        ∙ ap (λ l. row_after at (row_starts shape columns end 0 l)) (drop_all end bytes over)
        ∙ ap (row_after at) (starts-none shape columns end) ∙ after-none at

  -- the rows from a row on
  pub from-at : (at : ℕ) → IsRow shape columns bytes at → rows_from at (all_rows shape columns bytes) ≡ row_starts shape columns at 0 (drop at bytes)
  from-at at row = ap (rows_from at) row.rows ∙ from-over at row.before (row_starts shape columns at 0 (drop at bytes)) row.below ∙ here (drop at bytes)
    where
      here : (l : List ℕ) → rows_from at (row_starts shape columns at 0 l) ≡ row_starts shape columns at 0 l
      here [] = ap (rows_from at) (starts-none shape columns at) ∙ from-none at ∙ sym (starts-none shape columns at)
      here (x ∷ rest) = ap (rows_from at) (starts-head shape columns at x rest) ∙ from-here at _ ∙ sym (starts-head shape columns at x rest)

-- a file without bytes has no rows
pub holding-empty : (shape : Shape) (columns byte : ℕ) (bytes : List ℕ) → length bytes ≡ 0 → 0 ≡ row_holding shape columns bytes byte
holding-empty shape columns byte [] none = sym (ap (last_row_to byte 0) (starts-none shape columns 0) ∙ last-none byte 0)
holding-empty shape columns byte (x ∷ rest) none = absurd (omega arith)

pub after-empty : (shape : Shape) (columns at : ℕ) (bytes : List ℕ) → length bytes ≡ 0 → at ≡ row_after at (all_rows shape columns bytes)
after-empty shape columns at [] none = sym (ap (row_after at) (starts-none shape columns 0) ∙ after-none at)
after-empty shape columns at (x ∷ rest) none = absurd (omega arith)

-- what begins behind a newline
record Splits (shape : Shape) (columns at skip : ℕ) (bytes : List ℕ) (to : ℕ) (rest : List ℕ) : Type 0 where
  before : List ℕ
  rows : row_starts shape columns at skip bytes ≡ before ++ row_starts shape columns to 0 rest
  below : AllBelow to before

tail-short : (count byte : ℕ) (rest : List ℕ) → count ≤ line_length (byte ∷ rest) → count - 1 ≤ line_length rest
tail-short count byte rest short =
    ⊎_elim (λ (is : byte ≡ 10). let one = line_length-newline byte rest is in omega arith)
    (λ (differs : byte ≡ 10 → ⊥). let more = line_length-other byte rest differs in omega arith) (is_ten byte)

module _ (shape : Shape) (columns : ℕ) (text : shape ≡ Hex → ⊥) where
  line-splits : (at skip : ℕ) (front rest : List ℕ) (to : ℕ) → to ≡ at + length front + 1 → skip ≤ line_length (front ++ 10 ∷ rest)
      → Splits shape columns at skip (front ++ 10 ∷ rest) to rest
  unfolding row_starts
  line-splits at zero [] rest to is short =
      let line = line_length-newline 10 rest refl in
      let some = row_length-some shape columns 10 rest in
      let most = row_length-line shape columns (10 ∷ rest) text in
      let none : row_length shape columns (10 ∷ rest) - 1 ≡ 0 = omega arith in
      let e : at + 1 ≡ to = omega arith in
      record {
        before = at ∷ [];
        rows = ap (λ k. at ∷ row_starts shape columns (at + 1) k rest) none ∙ ap (λ k. at ∷ row_starts shape columns k 0 rest) e;
        below = (omega arith, tt);
      }
  line-splits at (suc skip) [] rest to is short =
      let line = line_length-newline 10 rest refl in
      let none : skip ≡ 0 = omega arith in
      let e : at + 1 ≡ to = omega arith in
      record {
        before = [];
        rows = ap (λ k. row_starts shape columns (at + 1) k rest) none ∙ ap (λ k. row_starts shape columns k 0 rest) e;
        below = tt;
      }
  line-splits at zero (byte ∷ front) rest to is short =
      let n = row_length shape columns (byte ∷ (front ++ 10 ∷ rest)) in
      let most = row_length-line shape columns (byte ∷ (front ++ 10 ∷ rest)) text in
      let split = line-splits (at + 1) (n - 1) front rest to (omega arith) (tail-short n byte (front ++ 10 ∷ rest) most) in
      record {
        before = at ∷ split.before;
        rows = ap (λ l. at ∷ l) split.rows;
        below = (omega arith, split.below);
      }
  line-splits at (suc skip) (byte ∷ front) rest to is short =
      let less : skip ≤ line_length (front ++ 10 ∷ rest) = let t = tail-short (suc skip) byte (front ++ 10 ∷ rest) short in omega arith in
      let split = line-splits (at + 1) skip front rest to (omega arith) less in
      record { before = split.before; rows = split.rows; below = split.below }

  -- a row begins where a line begins
  pub IsRow-line : (bytes : List ℕ) (at : ℕ) → IsLineStart bytes at → IsRow shape columns bytes at
  IsRow-line bytes zero start = IsRow-first shape columns bytes
  IsRow-line bytes (suc before) start =
      let split : bytes ≡ take before bytes ++ 10 ∷ drop (suc before) bytes =
      sym (take-append-drop before bytes) ∙ ap (λ l. take before bytes ++ l) (drop-cons bytes before 0 start.0 ∙ ap (λ (b : ℕ). b ∷ drop (suc before) bytes) start.1) in
      let length_is : length (take before bytes) ≡ before = length-take-le before bytes (omega (arith, start.0)) in
      let splits = line-splits 0 0 (take before bytes) (drop (suc before) bytes) (suc before) (omega arith) (omega arith) in
      record { before = splits.before; rows = ap (all_rows shape columns) split ∙ splits.rows; below = splits.below }

-- a row in hexadecimal begins at each multiple of sixteen
pub IsRow-hex : (columns : ℕ) (bytes : List ℕ) (count : ℕ) → 16 * count ≤ length bytes → IsRow Hex columns bytes (16 * count)
unfolding row_length
IsRow-hex columns bytes zero within = IsRow-first Hex columns bytes
IsRow-hex columns bytes (suc count) within =
    let at = 16 * count in
    let n : row_length Hex columns (drop at bytes) ≡ 16 = omega (arith, length-drop at bytes) in
    let e : 16 * suc count ≡ at + row_length Hex columns (drop at bytes) = omega arith in
    IsRow-next Hex columns bytes at (16 * suc count) (IsRow-hex columns bytes count (omega arith)) (omega arith) e

-- a row, and the rows behind it
pub split-at : (shape : Shape) (columns : ℕ) (bytes : List ℕ) (at end : ℕ) → at < length bytes → end ≡ at + row_length shape columns (drop at bytes)
    → row_starts shape columns at 0 (drop at bytes) ≡ at ∷ row_starts shape columns end 0 (drop end bytes)
split-at shape columns bytes at end inside is_end =
    let n = row_length shape columns (drop at bytes) in
    starts-next shape columns at (drop at bytes) (omega (arith, length-drop at bytes))
    ∙ ap (λ l. at ∷ row_starts shape columns (at + n) 0 l) (drop-drop n at bytes)
    ∙ ap (λ k. at ∷ row_starts shape columns k 0 (drop k bytes)) (sym is_end)

-- where the file ends there are no more
pub starts-end : (shape : Shape) (columns at : ℕ) (bytes : List ℕ) → length bytes ≤ at → row_starts shape columns at 0 (drop at bytes) ≡ []
starts-end shape columns at bytes past = ap (row_starts shape columns at 0) (drop_all at bytes past) ∙ starts-none shape columns at

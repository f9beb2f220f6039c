-- what is put into a row leaves the cells of all rows laid out
use Rattle.std.proofs.Math.Seq.{take-append_seam}
use Rattle.std.proofs.Common.{◌≡◌, ◌++◌, take, drop, Result, Ok, Err, OnOk, OnErr, ℕ, min, ◌+◌, ◌-◌, ◌*◌, ◌<◌, ◌≤◌, zero, suc, Bool, true, false, ◌&&◌, ◌==◌, nat_lt, nat_le, if◌then◌else◌, List, [], ◌∷◌, length, refl, sym, ◌∙◌, ap, subst, arith, Option, Some, None, length-set, replicate, mul-le-mul_right, suc-mul}
use Rattle.std.specs.Prelude.{slice_get, slice_set}
use Rattle.std.proofs.lemmas.Bool.Decides.{nat_tests}
use Rattle.key_screen.specs.declared.cells.Attr.{Attr}
use Rattle.key_screen.specs.declared.cells.Glyph.{Glyph}
use Rattle.key_screen.specs.declared.cells.Glyph.TheVariants.{Blank, Cluster, RightHalf}
use Rattle.key_screen.specs.declared.cells.Cell.{Cell}
use Rattle.key_screen.specs.Cells.{blank_cell, is_right_half, right_half_in, right_half_at, blanked_in, with_blank, left_freed, right_freed, freed_cells, put_narrow, put_wide}
use Rattle.key_screen.specs.DrawnText.{cluster_columns, is_drawable, drawn_glyph, glyph_columns, put_glyph, put_glyphs, has_room}
use Rattle.key_screen.specs.Layout.{is_wide, IsDrawn, half_behind, AreLaid, IsLaidOut, IsRowEnd}
use Rattle.key_screen.proofs.LayoutLemmas.{cell, drawn-apart, narrow_is_put, wide_is_put, put-laid}
use Rattle.key_screen.proofs.DrawnGlyphs.{AreDrawn, drawn_glyph-drawn, drawn_columns, drawable_columns}

-- a cell that is no right half makes none
pub apart-set : (cells : List Cell) (at : ℕ) (c : Cell) (k : ℕ) → is_right_half c.glyph ≡ false → right_half_at cells k ≡ false → right_half_at (slice_set cells at c) k ≡ false
apart-set [] at c k no_half apart = apart
apart-set (x ∷ cells) zero c zero no_half apart = no_half
apart-set (x ∷ cells) zero c (suc k) no_half apart = apart
apart-set (x ∷ cells) (suc at) c zero no_half apart = apart
apart-set (x ∷ cells) (suc at) c (suc k) no_half apart = apart-set cells at c k no_half apart

-- and any cell makes none elsewhere
pub apart-set_other : (cells : List Cell) (at : ℕ) (c : Cell) (k : ℕ) → (k ≡ at → ⊥) → right_half_at cells k ≡ false → right_half_at (slice_set cells at c) k ≡ false
apart-set_other [] at c k other apart = apart
apart-set_other (x ∷ cells) zero c zero other apart = absurd (other refl)
apart-set_other (x ∷ cells) zero c (suc k) other apart = apart
apart-set_other (x ∷ cells) (suc at) c zero other apart = apart
apart-set_other (x ∷ cells) (suc at) c (suc k) other apart = apart-set_other cells at c k (λ same. other (ap suc same)) apart

apart-with_blank : (cells : List Cell) (at k : ℕ) → right_half_at cells k ≡ false → right_half_at (with_blank cells at) k ≡ false
apart-with_blank cells at k apart = by_get (slice_get cells at) where
  by_get : (got : Option Cell) → right_half_at (blanked_in cells at got) k ≡ false
  by_get None = apart
  by_get (Some old) = apart-set cells at (record old { glyph = Blank }) k refl apart

apart-by_test : (test : Bool) (cells : List Cell) (at k : ℕ) → right_half_at cells k ≡ false → right_half_at (if test then with_blank cells at else cells) k ≡ false
apart-by_test true cells at k apart = apart-with_blank cells at k apart
apart-by_test false cells at k apart = apart

apart-freed : (cells : List Cell) (at k : ℕ) → right_half_at cells k ≡ false → right_half_at (freed_cells cells at) k ≡ false
apart-freed cells at k apart =
    let left = left_freed cells at in
    apart-by_test (right_half_at left (at + 1)) left (at + 1) k (apart-by_test (right_half_at cells at) cells (at - 1) k apart)

apart-narrow : (cells : List Cell) (at : ℕ) (glyph : Glyph) (attr : Attr) (k : ℕ) → is_right_half glyph ≡ false → right_half_at cells k ≡ false
    → right_half_at (put_narrow cells at glyph attr) k ≡ false
apart-narrow cells at glyph attr k no_half apart = apart-set (freed_cells cells at) at (cell glyph attr) k no_half (apart-freed cells at k apart)

apart-wide : (cells : List Cell) (at : ℕ) (glyph : Glyph) (attr : Attr) (k : ℕ) → is_right_half glyph ≡ false → (k ≡ at + 1 → ⊥) → right_half_at cells k ≡ false
    → right_half_at (put_wide cells at glyph attr) k ≡ false
apart-wide cells at glyph attr k no_half other apart =
    apart-set_other (slice_set (freed_cells (freed_cells cells at) (at + 1)) at (cell glyph attr)) (at + 1) (cell RightHalf attr) k other
    (apart-set (freed_cells (freed_cells cells at) (at + 1)) at (cell glyph attr) k no_half (apart-freed (freed_cells cells at) (at + 1) k (apart-freed cells at k apart)))

-- the second of two places in a row begins no row
second_begins_no_row : (columns at room rows row : ℕ) → at + room ≡ rows * columns → 2 ≤ room → room ≤ columns → row * columns ≡ at + 1 → ⊥
second_begins_no_row columns at room rows row end some short is = by_order (nat_lt row rows) refl where
  by_order : (test : Bool) → nat_lt row rows ≡ test → ⊥
  by_order true less =
      let before : suc row ≤ rows = grind (arith, nat_tests) in
      let ends : suc row * columns ≤ rows * columns = mul-le-mul_right columns before in
      let sum : suc row * columns ≡ row * columns + columns = suc-mul row columns in
      omega arith
  by_order false more =
      let behind : rows ≤ row = grind (arith, nat_tests) in
      let ends : rows * columns ≤ row * columns = mul-le-mul_right columns behind in
      omega arith

-- no put changes how many cells there are
length-with_blank : (cells : List Cell) (at : ℕ) → length (with_blank cells at) ≡ length cells
length-with_blank cells at = by_get (slice_get cells at) where
  by_get : (got : Option Cell) → length (blanked_in cells at got) ≡ length cells
  by_get None = refl
  by_get (Some old) = length-set cells at (record old { glyph = Blank })

length-by_test : (test : Bool) (cells : List Cell) (at : ℕ) → length (if test then with_blank cells at else cells) ≡ length cells
length-by_test true cells at = length-with_blank cells at
length-by_test false cells at = refl

length-freed : (cells : List Cell) (at : ℕ) → length (freed_cells cells at) ≡ length cells
length-freed cells at =
    let left = left_freed cells at in
    length-by_test (right_half_at left (at + 1)) left (at + 1) ∙ length-by_test (right_half_at cells at) cells (at - 1)

length-narrow : (cells : List Cell) (at : ℕ) (glyph : Glyph) (attr : Attr) → length (put_narrow cells at glyph attr) ≡ length cells
length-narrow cells at glyph attr = length-set (freed_cells cells at) at (cell glyph attr) ∙ length-freed cells at

length-wide : (cells : List Cell) (at : ℕ) (glyph : Glyph) (attr : Attr) → length (put_wide cells at glyph attr) ≡ length cells
length-wide cells at glyph attr =
    length-set (slice_set (freed_cells (freed_cells cells at) (at + 1)) at (cell glyph attr)) (at + 1) (cell RightHalf attr)
    ∙ length-set (freed_cells (freed_cells cells at) (at + 1)) at (cell glyph attr) ∙ length-freed (freed_cells cells at) (at + 1) ∙ length-freed cells at

pub length-put_glyph : (cells : List Cell) (at : ℕ) (glyph : Glyph) (attr : Attr) → length (put_glyph cells at glyph attr) ≡ length cells
length-put_glyph cells at glyph attr = by_test (glyph_columns glyph == 2) where
  by_test : (test : Bool) → length (if test then put_wide cells at glyph attr else put_narrow cells at glyph attr) ≡ length cells
  by_test true = length-wide cells at glyph attr
  by_test false = length-narrow cells at glyph attr

-- a drawn glyph of two columns is a wide cluster
wide_by_columns : (glyph : Glyph) → IsDrawn glyph → is_wide glyph ≡ (glyph_columns glyph == 2)
wide_by_columns Blank drawn = refl
wide_by_columns (Cluster cluster) drawn = refl
wide_by_columns RightHalf drawn = refl

-- a glyph that has room in its row
pub put_glyph-laid_out : (columns : ℕ) (cells : List Cell) (at room : ℕ) (glyph : Glyph) (attr : Attr) → IsDrawn glyph → 0 < glyph_columns glyph → glyph_columns glyph ≤ room
    → room ≤ columns → IsRowEnd columns (at + room) → at + room ≤ length cells → IsLaidOut columns cells → IsLaidOut columns (put_glyph cells at glyph attr)
put_glyph-laid_out columns cells at room glyph attr drawn some fits short end within laid = by_test (glyph_columns glyph == 2) refl where
  no_half : is_right_half glyph ≡ false
  no_half = drawn-apart glyph drawn

  by_test : (test : Bool) → (glyph_columns glyph == 2) ≡ test
      → IsLaidOut columns (if test then put_wide cells at glyph attr else put_narrow cells at glyph attr)
  by_test true wide =
      let two : glyph_columns glyph ≡ 2 = grind (arith, nat_tests) in
      let space : 2 ≤ room = omega arith in record {
        halves = put-laid (λ c k. put_wide c k glyph attr) 2 (wide_is_put glyph attr drawn (wide_by_columns glyph drawn ∙ wide)) (omega arith) None cells at (omega arith) laid.halves (λ zero. refl);
        row_starts = λ row. apart-wide cells at glyph attr (row * columns) no_half
            (second_begins_no_row columns at room end.0 row end.1 space short) (laid.row_starts row);
      }
  by_test false narrow = record {
    halves = put-laid (λ c k. put_narrow c k glyph attr) 1 (narrow_is_put glyph attr drawn (wide_by_columns glyph drawn ∙ narrow)) (omega arith) None cells at (omega arith) laid.halves (λ zero. refl);
    row_starts = λ row. apart-narrow cells at glyph attr (row * columns) no_half (laid.row_starts row);
  }

-- the glyphs of a text
pub put_glyphs-laid_out : (columns : ℕ) (cells : List Cell) (at room : ℕ) (glyphs : List Glyph) (attr : Attr) → AreDrawn glyphs → room ≤ columns
    → IsRowEnd columns (at + room) → at + room ≤ length cells → IsLaidOut columns cells → IsLaidOut columns (put_glyphs cells at room glyphs attr)
put_glyphs-laid_out columns cells at room [] attr drawn short end within laid = laid
put_glyphs-laid_out columns cells at room (glyph ∷ glyphs) attr drawn short end within laid =
    by_test (has_room glyph room) refl
    (put_glyphs-laid_out columns (put_glyph cells at glyph attr) (at + glyph_columns glyph) (room - glyph_columns glyph) glyphs attr drawn.1) where
      rest : List Cell
      rest = put_glyphs (put_glyph cells at glyph attr) (at + glyph_columns glyph) (room - glyph_columns glyph) glyphs attr

      by_test : (test : Bool) → has_room glyph room ≡ test
          → (room - glyph_columns glyph ≤ columns → IsRowEnd columns (at + glyph_columns glyph + (room - glyph_columns glyph))
          → at + glyph_columns glyph + (room - glyph_columns glyph) ≤ length (put_glyph cells at glyph attr)
          → IsLaidOut columns (put_glyph cells at glyph attr) → IsLaidOut columns rest)
          → IsLaidOut columns (if test then rest else cells)
      by_test false none go_on = laid
      by_test true is go_on =
          let some : 0 < glyph_columns glyph = grind (arith, nat_tests) in
          let fits : glyph_columns glyph ≤ room = grind (arith, nat_tests) in
          let same : at + room ≡ at + glyph_columns glyph + (room - glyph_columns glyph) = omega arith in
          let size : length (put_glyph cells at glyph attr) ≡ length cells = length-put_glyph cells at glyph attr in
          go_on (omega arith) (subst (IsRowEnd columns) same end) (omega arith)
          (put_glyph-laid_out columns cells at room glyph attr drawn.0 some fits short end within laid)

-- blank cells
blanks-laid : (count : ℕ) → AreLaid None (replicate count blank_cell)
blanks-laid zero = tt
blanks-laid (suc count) = (tt, blanks-laid count)

blanks-apart : (count k : ℕ) → right_half_at (replicate count blank_cell) k ≡ false
blanks-apart zero k = refl
blanks-apart (suc count) zero = refl
blanks-apart (suc count) (suc k) = blanks-apart count k

pub blanks-laid_out : (columns count : ℕ) → IsLaidOut columns (replicate count blank_cell)
blanks-laid_out columns count = record { halves = blanks-laid count; row_starts = λ row. blanks-apart count (row * columns) }

-- the first row has all its columns, unless there is none
pub blank_room : (lines columns : ℕ) → IsRowEnd columns (0 + min columns (lines * columns))
blank_room zero columns = (0, let none : 0 + min columns (zero * columns) ≡ 0 * columns = omega arith in none)
blank_room (suc lines) columns =
    let rows : suc lines * columns ≡ lines * columns + columns = suc-mul lines columns in
    (1, let whole : 0 + min columns (suc lines * columns) ≡ 1 * columns = omega arith in whole)

-- from a column on to the end of its row
pub row_end : (columns row column : ℕ) → 1 ≤ row → 1 ≤ column → column ≤ columns → (row - 1) * columns + (column - 1) + (columns - (column - 1)) ≡ row * columns
row_end columns zero column some first last = absurd (omega arith)
row_end columns (suc row) column some first last =
    let before : suc row - 1 ≡ row = omega arith in
    let rows : suc row * columns ≡ row * columns + columns = suc-mul row columns in
    let sum : (suc row - 1) * columns ≡ row * columns = ap (λ n. n * columns) before in
    omega arith

-- a text that is written from a cell on
pub text-laid_out : (lines columns row column at room : ℕ) (cells : List Cell) (glyphs : List Glyph) (attr : Attr) → 1 ≤ row → row ≤ lines → 1 ≤ column → column ≤ columns
    → at ≡ (row - 1) * columns + (column - 1) → room ≡ columns - (column - 1) → length cells ≡ lines * columns → AreDrawn glyphs → IsLaidOut columns cells
    → IsLaidOut columns (put_glyphs cells at room glyphs attr)
text-laid_out lines columns row column at room cells glyphs attr first last left right place width size drawn laid =
    let end : at + room ≡ row * columns = ap (λ n. n + room) place ∙ ap (λ n. (row - 1) * columns + (column - 1) + n) width ∙ row_end columns row column first left right in
    let within : row * columns ≤ lines * columns = mul-le-mul_right columns last in
    put_glyphs-laid_out columns cells at room glyphs attr drawn (omega arith) (row, end) (omega arith) laid

-- after a write that was done, or refused
pub either_laid_out : {T E : Type 0} (columns : ℕ) (result : Result T E) (new old done : List Cell) → OnOk result (new ≡ done) → OnErr result (new ≡ old)
    → IsLaidOut columns done → IsLaidOut columns old → IsLaidOut columns new
either_laid_out columns (Ok x) new old done is kept laid before = subst (IsLaidOut columns) (sym is) laid
either_laid_out columns (Err e) new old done is kept laid before = subst (IsLaidOut columns) (sym kept) before

-- a cluster that is shown
pub cluster-laid_out : (columns : ℕ) (cells : List Cell) (at room : ℕ) (cluster : List ℕ) (glyph : Glyph) (attr : Attr) → is_drawable cluster ≡ true → glyph ≡ drawn_glyph cluster
    → cluster_columns cluster ≤ room → room ≤ columns → IsRowEnd columns (at + room) → at + room ≤ length cells → IsLaidOut columns cells
    → IsLaidOut columns (put_glyph cells at glyph attr)
cluster-laid_out columns cells at room cluster glyph attr drawable is fits short end within laid =
    let width : glyph_columns glyph ≡ cluster_columns cluster = ap glyph_columns is ∙ drawn_columns cluster drawable in
    let some : 0 < cluster_columns cluster = drawable_columns cluster drawable in
    put_glyph-laid_out columns cells at room glyph attr (subst IsDrawn (sym is) (drawn_glyph-drawn cluster)) (omega arith) (omega arith) short end within laid

-- cells that were lent and are given back
pub given_back : (len : ℕ) (new old : List Cell) → length new ≡ len → take len (new ++ drop (length new) old) ≡ new
given_back len new old is = ap (λ n. take n (new ++ drop (length new) old)) (sym is) ∙ take-append_seam new (drop (length new) old)

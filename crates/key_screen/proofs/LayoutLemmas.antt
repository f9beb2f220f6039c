-- what is put into cells that are laid out leaves them laid out
use Rattle.std.proofs.Common.{◌≡◌, ℕ, ◌+◌, ◌-◌, ◌*◌, ◌<◌, ◌≤◌, zero, suc, Bool, true, false, ◌==◌, if◌then◌else◌, List, [], ◌∷◌, length, refl, sym, ◌∙◌, ap, subst, arith, Option, Some, None}
use Rattle.std.specs.Prelude.{⊤, slice_get, slice_set}
use Rattle.key_screen.specs.declared.cells.Attr.{Attr}
use Rattle.key_screen.specs.declared.cells.Glyph.{Glyph}
use Rattle.key_screen.specs.declared.cells.Glyph.TheVariants.{Blank, Cluster, RightHalf}
use Rattle.key_screen.specs.declared.cells.Cell.{Cell}
use Rattle.key_screen.specs.Cells.{is_right_half, right_half_in, right_half_at, blanked_in, with_blank, left_freed, right_freed, freed_cells, put_narrow, put_wide}
use Rattle.key_screen.specs.Layout.{is_wide, IsDrawn, half_behind, AreLaid, IsLaidOut}

-- a cell of this glyph and look
abbrev pub cell : Glyph → Attr → Cell
cell glyph attr = record { glyph = glyph; attr = attr }

-- a cell, or a blank in place of a right half
abbrev pub freed_cell : Cell → Cell
freed_cell c = if is_right_half c.glyph then record c { glyph = Blank } else c

-- the cells behind what is put
abbrev pub freed_front : List Cell → List Cell
freed_front [] = []
freed_front (c ∷ cells) = freed_cell c ∷ cells

-- a freed cell is no right half
pub freed_cell-apart : (c : Cell) → is_right_half (freed_cell c).glyph ≡ false
freed_cell-apart c = by_test (is_right_half c.glyph) refl where
  by_test : (test : Bool) → is_right_half c.glyph ≡ test → is_right_half (if test then record c { glyph = Blank } else c).glyph ≡ false
  by_test true is = refl
  by_test false is = is

pub freed_cell-same : (c : Cell) → is_right_half c.glyph ≡ false → freed_cell c ≡ c
freed_cell-same c apart = ap (λ test. if test then record c { glyph = Blank } else c) apart

-- each change of cells behind the first is the same change of the rest
with_blank-next : (c : Cell) (cells : List Cell) (k : ℕ) → with_blank (c ∷ cells) (suc k) ≡ c ∷ with_blank cells k
with_blank-next c cells k = by_get (slice_get cells k) where
  by_get : (got : Option Cell) → blanked_in (c ∷ cells) (suc k) got ≡ c ∷ blanked_in cells k got
  by_get None = refl
  by_get (Some old) = refl

left_freed-apart : (cells : List Cell) (k : ℕ) → right_half_at cells k ≡ false → left_freed cells k ≡ cells
left_freed-apart cells k apart = ap (λ test. if test then with_blank cells (k - 1) else cells) apart

left_freed-next : (c : Cell) (cells : List Cell) (k : ℕ) → left_freed (c ∷ cells) (suc (suc k)) ≡ c ∷ left_freed cells (suc k)
left_freed-next c cells k = by_test (right_half_at cells (suc k)) where
  by_test : (test : Bool) → (if test then with_blank (c ∷ cells) (suc (suc k) - 1) else c ∷ cells) ≡ c ∷ (if test then with_blank cells (suc k - 1) else cells)
  by_test true =
      let before : suc (suc k) - 1 ≡ suc k = omega arith in
      let here : k ≡ suc k - 1 = omega arith in
      ap (with_blank (c ∷ cells)) before ∙ with_blank-next c cells k ∙ ap (λ n. c ∷ with_blank cells n) here
  by_test false = refl

right_freed-next : (c : Cell) (cells : List Cell) (k : ℕ) → right_freed (c ∷ cells) (suc k) ≡ c ∷ right_freed cells k
right_freed-next c cells k = ap at_place next ∙ by_test (right_half_at cells (k + 1)) where
  at_place : ℕ → List Cell
  at_place n = if right_half_at (c ∷ cells) n then with_blank (c ∷ cells) n else c ∷ cells

  next : suc k + 1 ≡ suc (k + 1)
  next = omega arith

  by_test : (test : Bool) → (if test then with_blank (c ∷ cells) (suc (k + 1)) else c ∷ cells) ≡ c ∷ (if test then with_blank cells (k + 1) else cells)
  by_test true = with_blank-next c cells (k + 1)
  by_test false = refl

freed-next : (c : Cell) (cells : List Cell) (k : ℕ) → freed_cells (c ∷ cells) (suc (suc k)) ≡ c ∷ freed_cells cells (suc k)
freed-next c cells k = ap (λ x. right_freed x (suc (suc k))) (left_freed-next c cells k) ∙ right_freed-next c (left_freed cells (suc k)) (suc k)

freed-next_apart : (c : Cell) (cells : List Cell) (k : ℕ) → right_half_at cells k ≡ false → freed_cells (c ∷ cells) (suc k) ≡ c ∷ freed_cells cells k
freed-next_apart c cells k apart =
    ap (λ x. right_freed x (suc k)) (left_freed-apart (c ∷ cells) (suc k) apart) ∙ right_freed-next c cells k
    ∙ ap (λ x. c ∷ right_freed x k) (sym (left_freed-apart cells k apart))

right_freed-first : (c : Cell) (cells : List Cell) → right_freed (c ∷ cells) 0 ≡ c ∷ freed_front cells
right_freed-first c [] = refl
right_freed-first c (d ∷ cells) = by_test (is_right_half d.glyph) where
  by_test : (test : Bool) → (if test then with_blank (c ∷ d ∷ cells) 1 else c ∷ d ∷ cells) ≡ c ∷ (if test then record d { glyph = Blank } else d) ∷ cells
  by_test true = refl
  by_test false = refl

freed-first : (c : Cell) (cells : List Cell) → freed_cells (c ∷ cells) 0 ≡ freed_cell c ∷ freed_front cells
freed-first c cells = by_test (is_right_half c.glyph) where
  by_test : (test : Bool) → right_freed (if test then with_blank (c ∷ cells) 0 else c ∷ cells) 0 ≡ (if test then record c { glyph = Blank } else c) ∷ freed_front cells
  by_test true = right_freed-first (record c { glyph = Blank }) cells
  by_test false = right_freed-first c cells

-- what is written into the first cells
pub put_narrow-first : (c : Cell) (cells : List Cell) (glyph : Glyph) (attr : Attr) → put_narrow (c ∷ cells) 0 glyph attr ≡ cell glyph attr ∷ freed_front cells
put_narrow-first c cells glyph attr = ap (λ x. slice_set x 0 (cell glyph attr)) (freed-first c cells)

both_freed-first : (c d : Cell) (cells : List Cell) → freed_cells (freed_cells (c ∷ d ∷ cells) 0) 1 ≡ freed_cell c ∷ freed_cell (freed_cell d) ∷ freed_front cells
both_freed-first c d cells =
    ap (λ x. freed_cells x 1) (freed-first c (d ∷ cells))
    ∙ freed-next_apart (freed_cell c) (freed_cell d ∷ cells) 0 (freed_cell-apart d)
    ∙ ap (λ x. freed_cell c ∷ x) (freed-first (freed_cell d) cells)

pub put_wide-first : (c d : Cell) (cells : List Cell) (glyph : Glyph) (attr : Attr)
    → put_wide (c ∷ d ∷ cells) 0 glyph attr ≡ cell glyph attr ∷ cell RightHalf attr ∷ freed_front cells
put_wide-first c d cells glyph attr =
    ap (λ x. slice_set (slice_set x 0 (cell glyph attr)) 1 (cell RightHalf attr)) (both_freed-first c d cells)

-- behind the first cell
before_rest : (half : Option Attr) (c : Cell) (cells : List Cell) → AreLaid half (c ∷ cells) → (next : Option Attr) × AreLaid next cells
before_rest None c cells laid = (half_behind c, laid.1)
before_rest (Some attr) c cells laid = (None, laid.1)

-- what is drawn as it is, is no right half
pub drawn-apart : (glyph : Glyph) → IsDrawn glyph → is_right_half glyph ≡ false
drawn-apart Blank drawn = refl
drawn-apart (Cluster cluster) drawn = refl
drawn-apart RightHalf drawn = absurd drawn

freed_front-laid : (half : Option Attr) (cells : List Cell) → AreLaid half cells → AreLaid None (freed_front cells)
freed_front-laid None [] laid = tt
freed_front-laid (Some attr) [] laid = absurd laid
freed_front-laid None (c ∷ cells) laid =
    subst (λ (x : Cell). AreLaid None (x ∷ cells)) (sym (freed_cell-same c (drawn-apart c.glyph laid.0))) laid
freed_front-laid (Some attr) (c ∷ cells) laid =
    subst (λ (x : Cell). AreLaid None (freed_cell x ∷ cells)) (sym laid.0) (tt, laid.1)

-- a put into cells: behind the first two cells it is the same put into the rest; put into the second cell it takes a left
-- half away; put into the first it leaves cells laid out
pub record IsPutting (put : List Cell → ℕ → List Cell) (columns : ℕ) : Type 0 where
  pub next : (c : Cell) (cells : List Cell) (k : ℕ) → put (c ∷ cells) (suc (suc k)) ≡ c ∷ put cells (suc k)
  pub next_apart : (c d : Cell) (cells : List Cell) → columns ≤ length (d ∷ cells) → is_right_half d.glyph ≡ false → put (c ∷ d ∷ cells) 1 ≡ c ∷ put (d ∷ cells) 0
  pub next_half : (c d : Cell) (cells : List Cell) → columns ≤ length (d ∷ cells) → is_right_half d.glyph ≡ true → put (c ∷ d ∷ cells) 1 ≡ record c { glyph = Blank } ∷ put (d ∷ cells) 0
  pub first : (half : Option Attr) (c : Cell) (cells : List Cell) → columns ≤ length (c ∷ cells) → AreLaid half (c ∷ cells) → AreLaid None (put (c ∷ cells) 0)

-- such a put keeps cells laid out
pub put-laid : (put : List Cell → ℕ → List Cell) (columns : ℕ) → IsPutting put columns → 0 < columns → (half : Option Attr) (cells : List Cell) (at : ℕ)
    → at + columns ≤ length cells → AreLaid half cells → (at ≡ 0 → half ≡ None) → AreLaid half (put cells at)
put-laid put columns is some half [] at room laid free = absurd (omega arith)
put-laid put columns is some None (c ∷ cells) zero room laid free = is.first None c cells (omega arith) laid
put-laid put columns is some (Some attr) (c ∷ cells) zero room laid free = absurd (let e : Some attr ≡ None = free refl in cc)
put-laid put columns is some half (c ∷ []) (suc zero) room laid free = absurd (omega arith)
put-laid put columns is some (Some attr) (c ∷ d ∷ cells) (suc zero) room laid free =
    rw (is.next_apart c d cells (omega arith) (drawn-apart d.glyph laid.1.0)) (laid.0, is.first None d cells (omega arith) laid.1)
put-laid put columns is some None (c ∷ d ∷ cells) (suc zero) room laid free = by_test (is_wide c.glyph) refl where
  by_test : (test : Bool) → is_wide c.glyph ≡ test → AreLaid None (put (c ∷ d ∷ cells) 1)
  by_test true wide =
      let rest : AreLaid (Some c.attr) (d ∷ cells) = subst (λ (test : Bool). AreLaid (if test then Some c.attr else None) (d ∷ cells)) wide laid.1 in
      let half : is_right_half d.glyph ≡ true = ap (λ (x : Cell). is_right_half x.glyph) rest.0 in
      rw (is.next_half c d cells (omega arith) half) (tt, is.first (Some c.attr) d cells (omega arith) rest)
  by_test false narrow =
      let rest : AreLaid None (d ∷ cells) = subst (λ (test : Bool). AreLaid (if test then Some c.attr else None) (d ∷ cells)) narrow laid.1 in
      let put_rest : AreLaid None (put (d ∷ cells) 0) = is.first None d cells (omega arith) rest in
      rw (is.next_apart c d cells (omega arith) (drawn-apart d.glyph rest.0))
      (laid.0, subst (λ (test : Bool). AreLaid (if test then Some c.attr else None) (put (d ∷ cells) 0)) (sym narrow) put_rest)
put-laid put columns is some None (c ∷ d ∷ cells) (suc (suc k)) room laid free =
    rw (is.next c (d ∷ cells) k)
    (laid.0, put-laid put columns is some (half_behind c) (d ∷ cells) (suc k) (omega arith) laid.1 (λ zero. absurd (omega arith)))
put-laid put columns is some (Some attr) (c ∷ d ∷ cells) (suc (suc k)) room laid free =
    rw (is.next c (d ∷ cells) k)
    (laid.0, put-laid put columns is some None (d ∷ cells) (suc k) (omega arith) laid.1 (λ zero. refl))
put-laid put columns is some half (c ∷ []) (suc (suc k)) room laid free = absurd (omega arith)

-- a right half in the second place makes the first a blank
both_freed-half : (c d : Cell) (cells : List Cell) → is_right_half d.glyph ≡ true → freed_cells (c ∷ d ∷ cells) 1 ≡ record c { glyph = Blank } ∷ d ∷ freed_front cells
both_freed-half c d cells half =
    ap (λ test. right_freed (if test then with_blank (c ∷ d ∷ cells) 0 else c ∷ d ∷ cells) 1) half
    ∙ right_freed-next (record c { glyph = Blank }) (d ∷ cells) 0
    ∙ ap (λ x. record c { glyph = Blank } ∷ x) (right_freed-first d cells)

-- a glyph of one column
pub narrow_is_put : (glyph : Glyph) (attr : Attr) → IsDrawn glyph → is_wide glyph ≡ false → IsPutting (λ cells at. put_narrow cells at glyph attr) 1
narrow_is_put glyph attr drawn narrow = record {
  next = λ c cells k. ap (λ x. slice_set x (suc (suc k)) (cell glyph attr)) (freed-next c cells k);
  next_apart = λ c d cells room apart. ap (λ x. slice_set x 1 (cell glyph attr)) (freed-next_apart c (d ∷ cells) 0 apart);
  next_half = λ c d cells room half.
      ap (λ x. slice_set x 1 (cell glyph attr)) (both_freed-half c d cells half)
      ∙ ap (λ x. record c { glyph = Blank } ∷ x) (sym (put_narrow-first d cells glyph attr));
  first = λ half c cells room laid.
      let rest = before_rest half c cells laid in
      let prefix : AreLaid None (freed_front cells) = freed_front-laid rest.0 cells rest.1 in
      rw (put_narrow-first c cells glyph attr)
      (drawn, subst (λ (test : Bool). AreLaid (if test then Some attr else None) (freed_front cells)) (sym narrow) prefix);
}

-- a glyph of two columns
freed-both_next : (c : Cell) (cells : List Cell) (at next : ℕ) → freed_cells (freed_cells (c ∷ cells) (suc (suc at))) (suc (suc next)) ≡ c ∷ freed_cells (freed_cells cells (suc at)) (suc next)
freed-both_next c cells at next =
    ap (λ x. freed_cells x (suc (suc next))) (freed-next c cells at) ∙ freed-next c (freed_cells cells (suc at)) next

freed-second : (c d : Cell) (cells : List Cell) → freed_cells (c ∷ freed_cell d ∷ cells) 1 ≡ c ∷ freed_cells (freed_cell d ∷ cells) 0
freed-second c d cells = freed-next_apart c (freed_cell d ∷ cells) 0 (freed_cell-apart d)

pub wide_is_put : (glyph : Glyph) (attr : Attr) → IsDrawn glyph → is_wide glyph ≡ true → IsPutting (λ cells at. put_wide cells at glyph attr) 2
wide_is_put glyph attr drawn wide = record {
  next = next;
  next_apart = λ c d cells room apart.
      ap (both_set 1 2) (ap (λ x. freed_cells x 2) (freed-next_apart c (d ∷ cells) 0 apart) ∙ freed-next c (freed_cells (d ∷ cells) 0) 0);
  next_half = next_half;
  first = first;
} where
  both_set : ℕ → ℕ → List Cell → List Cell
  both_set at next cells = slice_set (slice_set cells at (cell glyph attr)) next (cell RightHalf attr)

  next : (c : Cell) (cells : List Cell) (k : ℕ) → put_wide (c ∷ cells) (suc (suc k)) glyph attr ≡ c ∷ put_wide cells (suc k) glyph attr
  next c cells k =
      let two : suc (suc k) + 1 ≡ suc (suc (k + 1)) = omega arith in
      let one : suc (k + 1) ≡ suc k + 1 = omega arith in
      ap (λ n. both_set (suc (suc k)) n (freed_cells (freed_cells (c ∷ cells) (suc (suc k))) n)) two
      ∙ ap (both_set (suc (suc k)) (suc (suc (k + 1)))) (freed-both_next c cells k (k + 1))
      ∙ ap (λ n. c ∷ both_set (suc k) n (freed_cells (freed_cells cells (suc k)) n)) one

  next_half : (c d : Cell) (cells : List Cell) → 2 ≤ length (d ∷ cells) → is_right_half d.glyph ≡ true
      → put_wide (c ∷ d ∷ cells) 1 glyph attr ≡ record c { glyph = Blank } ∷ put_wide (d ∷ cells) 0 glyph attr
  next_half c d [] room half = absurd (omega arith)
  next_half c d (e ∷ cells) room half =
      let c' : Cell = record c { glyph = Blank } in
      ap (λ x. both_set 1 2 (freed_cells x 2)) (both_freed-half c d (e ∷ cells) half)
      ∙ ap (both_set 1 2) (freed-next c' (d ∷ freed_cell e ∷ cells) 0)
      ∙ ap (λ x. both_set 1 2 (c' ∷ x)) (freed-second d e cells)
      ∙ ap (λ x. c' ∷ both_set 0 1 x) (sym (freed-second (freed_cell d) e cells))
      ∙ ap (λ x. c' ∷ both_set 0 1 (freed_cells x 1)) (sym (freed-first d (e ∷ cells)))

  first : (half : Option Attr) (c : Cell) (cells : List Cell) → 2 ≤ length (c ∷ cells) → AreLaid half (c ∷ cells) → AreLaid None (put_wide (c ∷ cells) 0 glyph attr)
  first half c [] room laid = absurd (omega arith)
  first half c (d ∷ cells) room laid =
      let rest = before_rest half c (d ∷ cells) laid in
      let behind = before_rest rest.0 d cells rest.1 in
      let prefix : AreLaid None (freed_front cells) = freed_front-laid behind.0 cells behind.1 in
      let halves : AreLaid (Some attr) (cell RightHalf attr ∷ freed_front cells) = (refl, prefix) in
      rw (put_wide-first c d cells glyph attr)
      (drawn, subst (λ (test : Bool). AreLaid (if test then Some attr else None) (cell RightHalf attr ∷ freed_front cells)) (sym wide) halves)

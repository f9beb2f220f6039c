-- what a put makes of cells at a place where no right half stands, and which cells are drawn
use Rattle.std.proofs.Common.{◌≡◌, ℕ, ◌+◌, ◌≤◌, suc, Bool, true, false, ◌&&◌, ◌||◌, not, ◌==◌, if◌then◌else◌, List, [], ◌∷◌, ◌++◌, length, None, refl, sym, ◌∙◌, ap, subst, arith, append_assoc, length-append, length-set, All, Option, Some}
use Rattle.std.specs.Prelude.{slice_set}
use Rattle.std.proofs.lemmas.List.Elements.{All-nil, All-cons}
use Rattle.std.proofs.lemmas.Slice.Eq.{bytes_eq-Decides}
use Rattle.std.proofs.lemmas.Bool.Decides.{nat_tests}
use Rattle.key_screen.specs.declared.cells.Attr.{Attr}
use Rattle.key_screen.specs.declared.cells.Attr.TheVariants.{Plain, Bold, Reverse}
use Rattle.key_screen.specs.declared.cells.Glyph.{Glyph}
use Rattle.key_screen.specs.declared.cells.Glyph.TheVariants.{Blank, Cluster, RightHalf}
use Rattle.key_screen.specs.declared.cells.Cell.{Cell}
use Rattle.key_screen.specs.Cells.{is_right_half, put_narrow, put_wide}
use Rattle.key_screen.specs.DrawnText.{cluster_columns, has_control, stands_alone, glyph_columns, put_glyph}
use Rattle.key_screen.specs.Layout.{is_wide, IsDrawn, AreLaid, half_behind}
use Rattle.key_screen.proofs.LayoutLemmas.{cell, freed_front, freed_cell-same, drawn-apart, IsPutting, narrow_is_put, wide_is_put, put_narrow-first, put_wide-first}
use Rattle.screen_draw.specs.declared.changes.Change.{Change}
use Rattle.screen_draw.specs.Changes.{is_same_attr, is_same_glyph, is_same_cell, is_due, changes_from, with_changes, IsWithin}
use Rattle.screen_draw.proofs.ReadingLemmas.{drawn-drawable}
use Rattle.screen_draw.proofs.TestLemmas.{and_left, and_right, same_attr}

-- a put into cells at a place where no right half stands
put-at : (put : List Cell → ℕ → List Cell) (columns : ℕ) → IsPutting put columns → (xs : List Cell) (y : Cell) (ys : List Cell) (at : ℕ) → at ≡ length xs → columns ≤ length (y ∷ ys)
    → is_right_half y.glyph ≡ false → put (xs ++ y ∷ ys) at ≡ xs ++ put (y ∷ ys) 0
put-at put columns is [] y ys at place room apart = ap (put (y ∷ ys)) place
put-at put columns is (x ∷ []) y ys at place room apart = ap (put (x ∷ y ∷ ys)) place ∙ is.next_apart x y ys room apart
put-at put columns is (x ∷ x' ∷ xs) y ys at place room apart =
    ap (put (x ∷ x' ∷ (xs ++ y ∷ ys))) place ∙ is.next x (x' ∷ (xs ++ y ∷ ys)) (length xs)
    ∙ ap (λ cells. x ∷ cells) (put-at put columns is (x' ∷ xs) y ys (suc (length xs)) refl room apart)

-- a drawn glyph that isn't wide has one column
pub narrow-columns : (glyph : Glyph) → IsDrawn glyph → is_wide glyph ≡ false → glyph_columns glyph ≡ 1
narrow-columns Blank drawn narrow = refl
narrow-columns RightHalf drawn narrow = absurd drawn
narrow-columns (Cluster cluster) drawn narrow = by_test (cluster_columns cluster == 1) refl (ap (λ two. (cluster_columns cluster == 1 || two) && not (has_control cluster) && stands_alone cluster) (sym narrow) ∙ drawn-drawable cluster drawn) where
  by_test : (test : Bool) → (cluster_columns cluster == 1) ≡ test → ((test || false) && not (has_control cluster) && stands_alone cluster) ≡ true → cluster_columns cluster ≡ 1
  by_test true one is = grind (arith, nat_tests)
  by_test false other is = absurd (cc)

pub wide-columns : (glyph : Glyph) → is_wide glyph ≡ true → glyph_columns glyph ≡ 2
wide-columns Blank wide = absurd (cc)
wide-columns RightHalf wide = absurd (cc)
wide-columns (Cluster cluster) wide = grind (arith, nat_tests)

-- a glyph of one column, and of two, drawn behind cells
pub put_glyph-narrow : (xs : List Cell) (y : Cell) (ys : List Cell) (at : ℕ) (glyph : Glyph) (attr : Attr) → at ≡ length xs → is_right_half y.glyph ≡ false → IsDrawn glyph → is_wide glyph ≡ false
    → put_glyph (xs ++ y ∷ ys) at glyph attr ≡ xs ++ cell glyph attr ∷ freed_front ys
put_glyph-narrow xs y ys at glyph attr place apart drawn narrow =
    ap (λ n. if n == 2 then put_wide (xs ++ y ∷ ys) at glyph attr else put_narrow (xs ++ y ∷ ys) at glyph attr) (narrow-columns glyph drawn narrow)
    ∙ put-at (λ c k. put_narrow c k glyph attr) 1 (narrow_is_put glyph attr drawn narrow) xs y ys at place (omega arith) apart
    ∙ ap (λ cells. xs ++ cells) (put_narrow-first y ys glyph attr)

pub put_glyph-wide : (xs : List Cell) (y z : Cell) (ys : List Cell) (at : ℕ) (glyph : Glyph) (attr : Attr) → at ≡ length xs → is_right_half y.glyph ≡ false → IsDrawn glyph → is_wide glyph ≡ true
    → put_glyph (xs ++ y ∷ z ∷ ys) at glyph attr ≡ xs ++ cell glyph attr ∷ cell RightHalf attr ∷ freed_front ys
put_glyph-wide xs y z ys at glyph attr place apart drawn wide =
    ap (λ n. if n == 2 then put_wide (xs ++ y ∷ z ∷ ys) at glyph attr else put_narrow (xs ++ y ∷ z ∷ ys) at glyph attr) (wide-columns glyph wide)
    ∙ put-at (λ c k. put_wide c k glyph attr) 2 (wide_is_put glyph attr drawn wide) xs y (z ∷ ys) at place (omega arith) apart
    ∙ ap (λ cells. xs ++ cells) (put_wide-first y z ys glyph attr)

-- cells that are laid out begin with no right half
pub laid-front : (cells : List Cell) → AreLaid None cells → freed_front cells ≡ cells
laid-front [] laid = refl
laid-front (c ∷ cells) laid = ap (λ x. x ∷ cells) (freed_cell-same c (drawn-apart c.glyph laid.0))

-- behind the first cell
pub before_rest : (half : Option Attr) (c : Cell) (cells : List Cell) → AreLaid half (c ∷ cells) → (next : Option Attr) × AreLaid next cells
before_rest None c cells laid = (half_behind c, laid.1)
before_rest (Some attr) c cells laid = (None, laid.1)

-- a test that is true of what is the same
same_attr-itself : (a : Attr) → is_same_attr a a ≡ true
same_attr-itself Plain = refl
same_attr-itself Bold = refl
same_attr-itself Reverse = refl

same_glyph-itself : (glyph : Glyph) → is_same_glyph glyph glyph ≡ true
same_glyph-itself Blank = refl
same_glyph-itself (Cluster text) = (bytes_eq-Decides text text).1 refl
same_glyph-itself RightHalf = refl

same_cell-itself : (c : Cell) → is_same_cell c c ≡ true
same_cell-itself c = ap (λ test. test && is_same_glyph c.glyph c.glyph) (same_attr-itself c.attr) ∙ same_glyph-itself c.glyph

same_glyph : (glyph other : Glyph) → is_same_glyph glyph other ≡ true → glyph ≡ other
same_glyph Blank Blank is = refl
same_glyph RightHalf RightHalf is = refl
same_glyph (Cluster text) (Cluster other) is = ap (λ t. Cluster t) ((bytes_eq-Decides text other).0 is)
same_glyph Blank (Cluster other) is = absurd (cc)
same_glyph Blank RightHalf is = absurd (cc)
same_glyph RightHalf Blank is = absurd (cc)
same_glyph RightHalf (Cluster other) is = absurd (cc)
same_glyph (Cluster text) Blank is = absurd (cc)
same_glyph (Cluster text) RightHalf is = absurd (cc)

same_cell : (c f : Cell) → is_same_cell c f ≡ true → c ≡ f
same_cell c f is =
    ap (λ g. cell g c.attr) (same_glyph c.glyph f.glyph (and_right (is_same_attr c.attr f.attr) (is_same_glyph c.glyph f.glyph) is))
    ∙ ap (λ a. cell f.glyph a) (same_attr c.attr f.attr (and_left (is_same_attr c.attr f.attr) (is_same_glyph c.glyph f.glyph) is))

-- a cell that isn't drawn is as it was
pub not_due-same : (has_drawn : Bool) (c f : Cell) → is_due has_drawn c f ≡ false → c ≡ f
not_due-same true c f is = same_cell c f (by_test (is_same_cell c f) is) where
  by_test : (test : Bool) → not test ≡ false → test ≡ true
  by_test true no_test = refl
  by_test false no_test = absurd (cc)
not_due-same false c f is = absurd (cc)

-- and where one was drawn, a cell that is drawn isn't as it was
pub due-differs : (c f : Cell) → is_due true c f ≡ true → c ≡ f → ⊥
due-differs c f is same = let itself : is_due true c c ≡ true = subst (λ (x : Cell). is_due true c x ≡ true) (sym same) is in
    absurd (let none : not true ≡ true = ap not (sym (same_cell-itself c)) ∙ itself in cc)

-- nothing is drawn of what is the same
pub changes-none : (at : ℕ) (cells : List Cell) → changes_from true at cells cells ≡ []
changes-none at [] = refl
changes-none at (c ∷ cells) =
    ap (λ test. if not test then record { at = at; cell = c } ∷ changes_from true (at + 1) cells cells else changes_from true (at + 1) cells cells) (same_cell-itself c)
    ∙ changes-none (at + 1) cells

-- where none was drawn, all is drawn, whatever was there
pub changes-first : (at : ℕ) (was cells before : List Cell) → length was ≡ length cells → length before ≡ length cells → changes_from false at was cells ≡ changes_from false at before cells
changes-first at [] [] [] size same = refl
changes-first at [] [] (b ∷ before) size same = absurd (omega arith)
changes-first at (w ∷ was) [] before size same = absurd (omega arith)
changes-first at [] (c ∷ cells) before size same = absurd (omega arith)
changes-first at (w ∷ was) (c ∷ cells) [] size same = absurd (omega arith)
changes-first at (w ∷ was) (c ∷ cells) (b ∷ before) size same =
    ap (λ (more : List Change). record { at = at; cell = c } ∷ more) (changes-first (at + 1) was cells before (omega arith) (omega arith))

-- all changes stand within the cells
pub changes-within : (bound : ℕ) (has_drawn : Bool) (at : ℕ) (was cells : List Cell) → at + length cells ≤ bound → All (IsWithin bound) (changes_from has_drawn at was cells)
changes-within bound has_drawn at [] cells within = All-nil (IsWithin bound)
changes-within bound has_drawn at (w ∷ was) [] within = All-nil (IsWithin bound)
changes-within bound has_drawn at (w ∷ was) (c ∷ cells) within = by_test (is_due has_drawn w c) (changes-within bound has_drawn (at + 1) was cells (omega arith)) where
  by_test : (test : Bool) → All (IsWithin bound) (changes_from has_drawn (at + 1) was cells)
      → All (IsWithin bound) (if test then record { at = at; cell = c } ∷ changes_from has_drawn (at + 1) was cells else changes_from has_drawn (at + 1) was cells)
  by_test true more = All-cons (IsWithin bound) (record { at = at; cell = c }) (changes_from has_drawn (at + 1) was cells) (omega arith) more
  by_test false more = more

-- a cell put behind others
set-behind : (done : List Cell) (c f : Cell) (cells : List Cell) (at : ℕ) → at ≡ length done → slice_set (done ++ c ∷ cells) at f ≡ (done ++ f ∷ []) ++ cells
set-behind [] c f cells at place = ap (λ n. slice_set (c ∷ cells) n f) place
set-behind (d ∷ done) c f cells at place =
    ap (λ n. slice_set (d ∷ (done ++ c ∷ cells)) n f) place ∙ ap (λ x. d ∷ x) (set-behind done c f cells (length done) refl)

-- the changes in their places give the frame
pub changes-give : (has_drawn : Bool) (at : ℕ) (done was cells : List Cell) → at ≡ length done → length was ≡ length cells
    → with_changes (done ++ was) (changes_from has_drawn at was cells) ≡ done ++ cells
changes-give has_drawn at done [] [] place size = refl
changes-give has_drawn at done [] (c ∷ cells) place size = absurd (omega arith)
changes-give has_drawn at done (w ∷ was) [] place size = absurd (omega arith)
changes-give has_drawn at done (w ∷ was) (c ∷ cells) place size =
    by_test (is_due has_drawn w c) refl (changes-give has_drawn (at + 1) (done ++ c ∷ []) was cells (place_behind done c at place) (omega arith)) where
      place_behind : (done : List Cell) (c : Cell) (at : ℕ) → at ≡ length done → at + 1 ≡ length (done ++ c ∷ [])
      place_behind done c at place = omega (arith, length-append done (c ∷ []))

      more : List Change
      more = changes_from has_drawn (at + 1) was cells

      by_test : (test : Bool) → is_due has_drawn w c ≡ test → with_changes ((done ++ c ∷ []) ++ was) more ≡ (done ++ c ∷ []) ++ cells
          → with_changes (done ++ w ∷ was) (if test then record { at = at; cell = c } ∷ more else more) ≡ done ++ c ∷ cells
      by_test true is rest = ap (λ x. with_changes x more) (set-behind done w c was at place) ∙ rest ∙ append_assoc done (c ∷ []) cells
      by_test false is rest =
          ap (λ (x : Cell). with_changes (done ++ x ∷ was) more) (not_due-same has_drawn w c is)
          ∙ ap (λ x. with_changes x more) (sym (append_assoc done (c ∷ []) was)) ∙ rest ∙ append_assoc done (c ∷ []) cells

-- one more change is in its place
pub taken-over : (cells new : List Cell) (change : Change) (before after : List Change) (whole : List Cell) → before ≡ change ∷ after → new ≡ slice_set cells change.at change.cell
    → All (IsWithin (length cells)) before → with_changes cells before ≡ whole → All (IsWithin (length new)) after × (with_changes new after ≡ whole)
taken-over cells new change before after whole first is within so_far =
    let same : length new ≡ length cells = ap length is ∙ length-set cells change.at change.cell in
    let all : All (IsWithin (length cells)) (change ∷ after) = subst (All (IsWithin (length cells))) first within in
    let rest : All (IsWithin (length cells)) after = λ k d here. all (suc k) d (omega arith) in (
      subst (λ n. All (IsWithin n) after) (sym same) rest,
      ap (λ x. with_changes x after) is ∙ ap (with_changes cells) (sym first) ∙ so_far,
    )

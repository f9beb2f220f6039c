-- text that is typed over cells that show it already leaves them as they are
use Rattle.std.proofs.Common.{◌≡◌, ℕ, ◌+◌, ◌-◌, ◌*◌, ◌/◌, ◌%◌, ◌<◌, ◌≤◌, Bool, true, false, not, ◌&&◌, ◌==◌, nat_le, nat_lt, if◌then◌else◌, List, [], ◌∷◌, ◌++◌, length, take, drop, Option, Some, None, refl, sym, ◌∙◌, ap, subst, arith, append_assoc, length-append, inr}
use Rattle.std.proofs.Math.Nat.{mod-add-div, mul_comm}
use Rattle.std.proofs.Math.Seq.{take-append_seam}
use Rattle.std.proofs.lemmas.List.{take-append-drop, drop-append-le, length-drop, length-take-le}
use Rattle.std.proofs.lemmas.Nat.{mod-mul-add}
use Rattle.std.proofs.lemmas.Bool.Decides.{nat_tests}
use Rattle.key_screen.specs.declared.cells.Attr.{Attr}
use Rattle.key_screen.specs.declared.cells.Cell.{Cell}
use Rattle.key_screen.specs.declared.cells.Glyph.{Glyph}
use Rattle.key_screen.specs.declared.cells.Glyph.TheVariants.{Blank, Cluster, RightHalf}
use Rattle.key_screen.specs.Cells.{is_right_half}
use Rattle.key_screen.specs.DrawnText.{glyph_columns, put_glyph}
use Rattle.key_screen.specs.Layout.{is_wide, IsDrawn, AreLaid}
use Rattle.key_screen.specs.Terminal.{TerminalState, segments}
use Rattle.key_screen.proofs.LayoutLemmas.{cell, freed_front, freed_cell-same}
use Rattle.screen_draw.specs.declared.changes.Change.{Change}
use Rattle.screen_draw.specs.Changes.{is_same_attr}
use Rattle.screen_draw.specs.DrawnBytes.{glyph_text, is_printable, is_typed, are_typed, cells_text, cells_between, is_near, goes_on}
use Rattle.screen_draw.proofs.EscapeLemmas.{HasNoEscape, segments-plain, first_segment}
use Rattle.screen_draw.proofs.PrintableLemmas.{ArePrintable}
use Rattle.screen_draw.proofs.ReadingLemmas.{Leads, AreApart, leads-glyph, state}
use Rattle.screen_draw.proofs.CellLemmas.{before_rest, narrow-columns, put_glyph-narrow}
use Rattle.screen_draw.proofs.TestLemmas.{and_left, and_right, same_attr}

-- what stands before the first escape is printable
abbrev pub BeginTyped : List (List ℕ) → Type 0
BeginTyped [] = ⊥
BeginTyped (segment ∷ more) = ArePrintable segment

ArePrintable-append : (xs ys : List ℕ) → ArePrintable xs → ArePrintable ys → ArePrintable (xs ++ ys)
ArePrintable-append [] ys all more = more
ArePrintable-append (x ∷ xs) ys all more = (all.0, ArePrintable-append xs ys all.1 more)

pub printable-no_escape : (bytes : List ℕ) → ArePrintable bytes → HasNoEscape bytes
printable-no_escape [] all = tt
printable-no_escape (byte ∷ bytes) all = (grind (arith, nat_tests, all.0), printable-no_escape bytes all.1)

-- printable text in front of others
pub typed-before : (text rest : List ℕ) → ArePrintable text → BeginTyped (segments rest) → BeginTyped (segments (text ++ rest))
typed-before text rest printable begins =
    let first = first_segment rest in
    let segment : List ℕ = first.0 in
    let more : List (List ℕ) = first.1 in
    let cut : segments (text ++ rest) ≡ (text ++ segment) ∷ more = segments-plain text rest segment more (printable-no_escape text printable) first.2 in
    subst BeginTyped (sym cut) (ArePrintable-append text segment printable (subst BeginTyped first.2 begins))

typed-apart_from : (text : List ℕ) (all : List (List ℕ)) → is_printable text ≡ true → BeginTyped all → AreApart text all
typed-apart_from text [] printable begins = absurd begins
typed-apart_from text (segment ∷ more) printable begins = inr (printable, begins)

-- a text of one printable character
pub one-printable : (text : List ℕ) → is_printable text ≡ true → ArePrintable text
one-printable [] is = absurd (cc)
one-printable (byte ∷ []) is = (is, tt)
one-printable (byte ∷ other ∷ bytes) is = absurd (cc)

printable-apart : (glyph : Glyph) → is_printable (glyph_text glyph) ≡ true → is_right_half glyph ≡ false
printable-apart Blank is = refl
printable-apart (Cluster text) is = refl
printable-apart RightHalf is = absurd (cc)

-- a cell that is typed
pub typed-printable : (attr : Attr) (c : Cell) → is_typed attr c ≡ true → is_printable (glyph_text c.glyph) ≡ true
typed-printable attr c is = and_right (is_same_attr attr c.attr) (is_printable (glyph_text c.glyph)) is

pub typed-looks : (attr : Attr) (c : Cell) → is_typed attr c ≡ true → attr ≡ c.attr
typed-looks attr c is = same_attr attr c.attr (and_left (is_same_attr attr c.attr) (is_printable (glyph_text c.glyph)) is)

typed-apart : (attr : Attr) (c : Cell) → is_typed attr c ≡ true → is_right_half c.glyph ≡ false
typed-apart attr c is = printable-apart c.glyph (typed-printable attr c is)

pub texts-printable : (attr : Attr) (cells : List Cell) → are_typed attr cells ≡ true → ArePrintable (cells_text cells)
texts-printable attr [] is = tt
texts-printable attr (c ∷ cells) is =
    ArePrintable-append (glyph_text c.glyph) (cells_text cells)
    (one-printable (glyph_text c.glyph) (typed-printable attr c (and_left (is_typed attr c) (are_typed attr cells) is)))
    (texts-printable attr cells (and_right (is_typed attr c) (are_typed attr cells) is))

-- what it is that text goes on
pub goes-near : (columns : ℕ) (cells : List Cell) (attr : Attr) (from : ℕ) (change : Change) → goes_on columns cells attr from change ≡ true → is_near columns from change.at ≡ true
goes-near columns cells attr from change goes =
    and_left (is_near columns from change.at) (is_typed attr change.cell)
    (and_left (is_near columns from change.at && is_typed attr change.cell) (are_typed attr (cells_between cells from change.at)) goes)

pub goes-typed : (columns : ℕ) (cells : List Cell) (attr : Attr) (from : ℕ) (change : Change) → goes_on columns cells attr from change ≡ true → is_typed attr change.cell ≡ true
goes-typed columns cells attr from change goes =
    and_right (is_near columns from change.at) (is_typed attr change.cell)
    (and_left (is_near columns from change.at && is_typed attr change.cell) (are_typed attr (cells_between cells from change.at)) goes)

pub goes-over : (columns : ℕ) (cells : List Cell) (attr : Attr) (from : ℕ) (change : Change) → goes_on columns cells attr from change ≡ true → are_typed attr (cells_between cells from change.at) ≡ true
goes-over columns cells attr from change goes = and_right (is_near columns from change.at && is_typed attr change.cell) (are_typed attr (cells_between cells from change.at)) goes

near-inner : (columns from at : ℕ) → is_near columns from at ≡ true → (nat_le from at && nat_le (at - from) 5 && not (from % columns == 0)) ≡ true
near-inner columns from at near = and_left (nat_le from at && nat_le (at - from) 5 && not (from % columns == 0)) (nat_lt (at - from) (columns - from % columns)) near

near-order : (columns from at : ℕ) → is_near columns from at ≡ true → from ≤ at
near-order columns from at near =
    let order : nat_le from at ≡ true = and_left (nat_le from at) (nat_le (at - from) 5) (and_left (nat_le from at && nat_le (at - from) 5) (not (from % columns == 0)) (near-inner columns from at near)) in
    grind (arith, nat_tests)

near-room : (columns from at : ℕ) → is_near columns from at ≡ true → at - from < columns - from % columns
near-room columns from at near =
    let room : nat_lt (at - from) (columns - from % columns) ≡ true = and_right (nat_le from at && nat_le (at - from) 5 && not (from % columns == 0)) (nat_lt (at - from) (columns - from % columns)) near in
    grind (arith, nat_tests)

pub near-inside : (columns from at : ℕ) → is_near columns from at ≡ true → from % columns ≡ 0 → ⊥
near-inside columns from at near none =
    let inside : not (from % columns == 0) ≡ true = and_right (nat_le from at && nat_le (at - from) 5) (not (from % columns == 0)) (near-inner columns from at near) in
    absurd (let e : (from % columns == 0) ≡ true = grind (arith, nat_tests, none) in cc)

-- a cell that is typed, before one that is no right half, has one column
laid-typed : (half : Option Attr) (c d : Cell) (cells : List Cell) → AreLaid half (c ∷ d ∷ cells) → is_right_half c.glyph ≡ false → is_right_half d.glyph ≡ false
    → IsDrawn c.glyph × ((is_wide c.glyph ≡ false) × AreLaid None (d ∷ cells))
laid-typed (Some attr) c d cells laid apart next = absurd (let half : is_right_half c.glyph ≡ true = ap (λ (x : Cell). is_right_half x.glyph) laid.0 in cc)
laid-typed None c d cells laid apart next = (laid.0, by_test (is_wide c.glyph) refl) where
  by_test : (test : Bool) → is_wide c.glyph ≡ test → (is_wide c.glyph ≡ false) × AreLaid None (d ∷ cells)
  by_test false is = (is, subst (λ (test : Bool). AreLaid (if test then Some c.attr else None) (d ∷ cells)) is laid.1)
  by_test true is = absurd (
      let halves : AreLaid (Some c.attr) (d ∷ cells) = subst (λ (test : Bool). AreLaid (if test then Some c.attr else None) (d ∷ cells)) is laid.1 in
      let half : is_right_half d.glyph ≡ true = ap (λ (x : Cell). is_right_half x.glyph) halves.0 in
      cc
      )

-- of cells that are typed, and the one behind them, the first is no right half
first_typed : (attr : Attr) (gap : List Cell) (f : Cell) (fs : List Cell) → are_typed attr gap ≡ true → is_typed attr f ≡ true
    → (d : Cell) × (cells : List Cell) × (gap ++ f ∷ fs ≡ d ∷ cells) × (is_right_half d.glyph ≡ false)
first_typed attr [] f fs typed next = (f, fs, refl, typed-apart attr f next)
first_typed attr (c ∷ gap) f fs typed next = (c, gap ++ f ∷ fs, refl, typed-apart attr c (and_left (is_typed attr c) (are_typed attr gap) typed))

typed-free : (attr : Attr) (gap ys : List Cell) → are_typed attr gap ≡ true → freed_front ys ≡ ys → freed_front (gap ++ ys) ≡ gap ++ ys
typed-free attr [] ys typed free = free
typed-free attr (c ∷ gap) ys typed free = ap (λ x. x ∷ (gap ++ ys)) (freed_cell-same c (typed-apart attr c (and_left (is_typed attr c) (are_typed attr gap) typed)))

-- cells that a terminal shows, typed again
module _ (lines columns : ℕ) (attr : Attr) where
  types-over : (done gap : List Cell) (f : Cell) (fs ys : List Cell) (at room : ℕ) (half : Option Attr) (rest : List ℕ) (new : TerminalState)
      → at ≡ length done → length gap ≤ room → AreLaid half (gap ++ f ∷ fs) → are_typed attr gap ≡ true → is_typed attr f ≡ true → freed_front ys ≡ ys → BeginTyped (segments rest)
      → Leads (state lines columns (done ++ (gap ++ ys)) (at + length gap) (room - length gap) attr) rest new
      → Leads (state lines columns (done ++ (gap ++ ys)) at room attr) (cells_text gap ++ rest) new
  types-over done [] f fs ys at room half rest new here fits laid typed next free begins leads =
      let place : at + 0 ≡ at = omega arith in
      let left : room - 0 ≡ room = omega arith in
      subst (λ (s : TerminalState). Leads s rest new) (ap (λ n. state lines columns (done ++ ys) n (room - 0) attr) place ∙ ap (λ n. state lines columns (done ++ ys) at n attr) left) leads
  types-over done (c ∷ gap) f fs ys at room half rest new here fits laid typed next free begins leads =
      let first : is_typed attr c ≡ true = and_left (is_typed attr c) (are_typed attr gap) typed in
      let others : are_typed attr gap ≡ true = and_right (is_typed attr c) (are_typed attr gap) typed in
      let text = glyph_text c.glyph in
      let more = cells_text gap ++ rest in
      let behind = first_typed attr gap f fs others next in
      let stands = laid-typed half c behind.0 behind.1 (subst (λ (x : List Cell). AreLaid half (c ∷ x)) behind.2 laid) (typed-apart attr c first) behind.3 in
      let laid_on : AreLaid None (gap ++ f ∷ fs) = subst (AreLaid None) (sym behind.2) stands.1.1 in
      let width : glyph_columns c.glyph ≡ 1 = narrow-columns c.glyph stands.0 stands.1.0 in
      let put : put_glyph (done ++ c ∷ (gap ++ ys)) at c.glyph attr ≡ (done ++ c ∷ []) ++ (gap ++ ys) =
      put_glyph-narrow done c (gap ++ ys) at c.glyph attr here (typed-apart attr c first) stands.0 stands.1.0
      ∙ ap (λ a. done ++ cell c.glyph a ∷ freed_front (gap ++ ys)) (typed-looks attr c first)
      ∙ ap (λ x. done ++ c ∷ x) (typed-free attr gap ys others free) ∙ sym (append_assoc done (c ∷ []) (gap ++ ys)) in
      let kept : done ++ c ∷ (gap ++ ys) ≡ (done ++ c ∷ []) ++ (gap ++ ys) = sym (append_assoc done (c ∷ []) (gap ++ ys)) in
      let place : at + length (c ∷ gap) ≡ at + 1 + length gap = omega arith in
      let left : room - length (c ∷ gap) ≡ room - 1 - length gap = omega arith in
      let last : Leads (state lines columns ((done ++ c ∷ []) ++ (gap ++ ys)) (at + 1 + length gap) (room - 1 - length gap) attr) rest new =
      subst (λ (s : TerminalState). Leads s rest new)
      (ap (λ x. state lines columns x (at + length (c ∷ gap)) (room - length (c ∷ gap)) attr) kept
      ∙ ap (λ n. state lines columns ((done ++ c ∷ []) ++ (gap ++ ys)) n (room - length (c ∷ gap)) attr) place
      ∙ ap (λ n. state lines columns ((done ++ c ∷ []) ++ (gap ++ ys)) (at + 1 + length gap) n attr) left) leads in
      let go_on : Leads (state lines columns ((done ++ c ∷ []) ++ (gap ++ ys)) (at + 1) (room - 1) attr) more new =
      types-over (done ++ c ∷ []) gap f fs ys (at + 1) (room - 1) None rest new (omega (arith, length-append done (c ∷ []))) (omega arith) laid_on others next free begins last in
      let after : Leads (state lines columns (put_glyph (done ++ c ∷ (gap ++ ys)) at c.glyph attr) (at + glyph_columns c.glyph) (room - glyph_columns c.glyph) attr) more new =
      subst (λ (s : TerminalState). Leads s more new)
      (sym (ap (λ x. state lines columns x (at + glyph_columns c.glyph) (room - glyph_columns c.glyph) attr) put
      ∙ ap (λ n. state lines columns ((done ++ c ∷ []) ++ (gap ++ ys)) (at + n) (room - n) attr) width)) go_on in
      subst (λ (bytes : List ℕ). Leads (state lines columns (done ++ c ∷ (gap ++ ys)) at room attr) bytes new) (sym (append_assoc text (cells_text gap) rest))
      (leads-glyph (state lines columns (done ++ c ∷ (gap ++ ys)) at room attr) new c.glyph more stands.0 (omega arith)
      (typed-apart_from text (segments more) (typed-printable attr c first) (typed-before (cells_text gap) rest (texts-printable attr gap others) begins)) after)

-- a terminal shows the cells of a frame up to a change, where no right half stands
pub record IsShownUpTo (cells shown : List Cell) (change : Change) : Type 0 where
  pub done : List Cell
  pub frame_rest : List Cell
  pub shown_rest : List Cell
  pub here : change.at ≡ length done
  pub of_frame : cells ≡ done ++ change.cell ∷ frame_rest
  pub of_shown : shown ≡ done ++ shown_rest
  pub free : freed_front shown_rest ≡ shown_rest

laid-behind : (half : Option Attr) (xs ys : List Cell) → AreLaid half (xs ++ ys) → (next : Option Attr) × AreLaid next ys
laid-behind half [] ys laid = (half, laid)
laid-behind half (x ∷ xs) ys laid = let next = before_rest half x (xs ++ ys) laid in laid-behind next.0 xs ys next.1

-- a place in the row of another, so many columns behind it
same-row : (columns from count : ℕ) → from % columns + count < columns → (from + count) % columns ≡ from % columns + count
same-row columns from count within =
    let sum : from + count ≡ from / columns * columns + (from % columns + count) = omega (arith, mod-add-div from columns, mul_comm columns (from / columns)) in
    ap (λ n. n % columns) sum ∙ mod-mul-add (from / columns) columns (from % columns + count) within

-- text that goes on up to a change brings the terminal there, and leaves its cells
pub leads-typed : (lines columns : ℕ) (cells shown : List Cell) (attr : Attr) (from room : ℕ) (change : Change) (rest : List ℕ) (new : TerminalState)
    → AreLaid None cells → IsShownUpTo cells shown change → goes_on columns cells attr from change ≡ true → room ≡ columns - from % columns → BeginTyped (segments rest)
    → Leads (state lines columns shown change.at (columns - change.at % columns) attr) rest new
    → Leads (state lines columns shown from room attr) (cells_text (cells_between cells from change.at) ++ rest) new
leads-typed lines columns cells shown attr from room change rest new laid up goes left begins leads =
    let at = change.at in
    let gap : List Cell = drop from up.done in
    let before : List Cell = take from up.done in
    let near = goes-near columns cells attr from change goes in
    let next = goes-typed columns cells attr from change goes in
    let behind : from ≤ at = near-order columns from at near in
    let inside : at - from < columns - from % columns = near-room columns from at near in
    let here = up.here in
    let reached : from ≤ length up.done = omega arith in
    let size : length gap ≡ at - from = omega (arith, length-drop from up.done) in
    let first : length before ≡ from = length-take-le from up.done reached in
    let whole : before ++ gap ≡ up.done = take-append-drop from up.done in
    let tail : List Cell = change.cell ∷ up.frame_rest in
    let between : cells_between cells from at ≡ gap =
    ap (λ (x : List Cell). take (at - from) (drop from x)) up.of_frame ∙ ap (take (at - from)) (drop-append-le from up.done tail reached)
    ∙ ap (λ n. take n (gap ++ tail)) (sym size) ∙ take-append_seam gap tail in
    let typed : are_typed attr gap ≡ true = subst (λ (x : List Cell). are_typed attr x ≡ true) between (goes-over columns cells attr from change goes) in
    let laid_all : AreLaid None (before ++ (gap ++ tail)) =
    subst (AreLaid None) (up.of_frame ∙ ap (λ x. x ++ tail) (sym whole) ∙ append_assoc before gap tail) laid in
    let laid_gap = laid-behind None before (gap ++ tail) laid_all in
    let screen : before ++ (gap ++ up.shown_rest) ≡ shown = sym (append_assoc before gap up.shown_rest) ∙ ap (λ x. x ++ up.shown_rest) whole ∙ sym up.of_shown in
    let place : at ≡ from + length gap = omega arith in
    let column : at % columns ≡ from % columns + length gap = ap (λ n. n % columns) place ∙ same-row columns from (length gap) (omega arith) in
    let room_left : columns - at % columns ≡ room - length gap = omega arith in
    let last : Leads (state lines columns (before ++ (gap ++ up.shown_rest)) (from + length gap) (room - length gap) attr) rest new =
    subst (λ (s : TerminalState). Leads s rest new)
    (ap (λ x. state lines columns x at (columns - at % columns) attr) (sym screen)
    ∙ ap (λ n. state lines columns (before ++ (gap ++ up.shown_rest)) n (columns - at % columns) attr) place
    ∙ ap (λ n. state lines columns (before ++ (gap ++ up.shown_rest)) (from + length gap) n attr) room_left) leads in
    let drawn : Leads (state lines columns (before ++ (gap ++ up.shown_rest)) from room attr) (cells_text gap ++ rest) new =
    types-over lines columns attr before gap change.cell up.frame_rest up.shown_rest from room laid_gap.0 rest new (sym first) (omega arith) laid_gap.1 typed next up.free begins last in
    subst (λ (x : List Cell). Leads (state lines columns x from room attr) (cells_text (cells_between cells from at) ++ rest) new) screen
    (subst (λ (x : List Cell). Leads (state lines columns (before ++ (gap ++ up.shown_rest)) from room attr) (cells_text x ++ rest) new) (sym between) drawn)

-- what a terminal makes of all changes of a frame: behind the cells that were drawn stand those that it showed before
use Rattle.std.proofs.Common.{◌≡◌, ℕ, ◌+◌, ◌-◌, ◌*◌, ◌/◌, ◌%◌, ◌<◌, ◌≤◌, suc, Bool, true, false, nat_lt, if◌then◌else◌, List, [], ◌∷◌, ◌++◌, length, Option, Some, None, refl, sym, ◌∙◌, ap, subst, arith, append_assoc, length-append, suc-mul}
use Rattle.std.proofs.Math.Nat.{mod-add-div, mul_comm}
use Rattle.std.proofs.lemmas.Bool.Decides.{nat_tests}
use Rattle.key_screen.specs.declared.cells.Attr.{Attr}
use Rattle.key_screen.specs.declared.cells.Glyph.TheVariants.{RightHalf}
use Rattle.key_screen.specs.declared.cells.Cell.{Cell}
use Rattle.key_screen.specs.Cells.{is_right_half, right_half_at}
use Rattle.key_screen.specs.DrawnText.{glyph_columns, put_glyph}
use Rattle.key_screen.specs.Layout.{is_wide, IsDrawn, half_behind, AreLaid}
use Rattle.key_screen.proofs.LayoutLemmas.{cell, freed_cell, freed_front, freed_cell-apart, freed_cell-same, drawn-apart}
use Rattle.screen_draw.specs.declared.changes.Change.{Change}
use Rattle.screen_draw.specs.declared.strokes.Pen.{Pen}
use Rattle.screen_draw.specs.Changes.{is_due, changes_from}
use Rattle.screen_draw.specs.declared.strokes.Pen.TheVariants.{Behind, Typing}
use Rattle.screen_draw.specs.DrawnBytes.{glyph_text, is_printable, approach_to, lead, stroke, pen_after, drawing}
use Rattle.screen_draw.proofs.ReadingLemmas.{Leads, leads-nothing, state}
use Rattle.screen_draw.proofs.GapLemmas.{IsShownUpTo}
use Rattle.screen_draw.proofs.StrokeLemmas.{Stands, leads-stroke, stands-after, drawing-begins}
use Rattle.screen_draw.proofs.CellLemmas.{before_rest, narrow-columns, wide-columns, put_glyph-narrow, put_glyph-wide, laid-front, not_due-same}

-- a cell that begins a cluster
laid-drawn : (half : Option Attr) (c f : Cell) (cells : List Cell) → AreLaid half (c ∷ cells) → c ≡ f → IsDrawn f.glyph → AreLaid (half_behind f) cells
laid-drawn None c f cells laid same drawn = subst (λ (x : Cell). AreLaid (half_behind x) cells) same laid.1
laid-drawn (Some attr) c f cells laid same drawn =
    let half : f.glyph ≡ RightHalf = ap (λ (x : Cell). x.glyph) (sym same) ∙ ap (λ (x : Cell). x.glyph) laid.0 in
    absurd (subst IsDrawn half drawn)

-- a right half is drawn with its left half, whether it is one of the changes or not
half-stroke : (columns : ℕ) (cells : List Cell) (pen : Pen) (change : Change) → is_right_half change.cell.glyph ≡ true → stroke columns cells pen change ≡ []
half-stroke columns cells pen change half = ap (λ test. if test then [] else lead columns cells (approach_to columns cells pen change) change ++ glyph_text change.cell.glyph) half

half-stays : (pen : Pen) (change : Change) → is_right_half change.cell.glyph ≡ true → pen_after pen change ≡ pen
half-stays pen change half =
    ap (λ test. if test then pen else if is_printable (glyph_text change.cell.glyph) then Typing change.at (glyph_columns change.cell.glyph) change.cell.attr
    else Behind change.at (glyph_columns change.cell.glyph) change.cell.attr) half

half-skipped : (columns : ℕ) (cells : List Cell) (pen : Pen) (has_drawn : Bool) (at : ℕ) (d h : Cell) (cs fs : List Cell) → is_right_half h.glyph ≡ true
    → drawing columns cells pen (changes_from has_drawn at (d ∷ cs) (h ∷ fs)) ≡ drawing columns cells pen (changes_from has_drawn (at + 1) cs fs)
half-skipped columns cells pen has_drawn at d h cs fs half = by_test (is_due has_drawn d h) where
  change : Change
  change = record { at = at; cell = h }

  more : List Change
  more = changes_from has_drawn (at + 1) cs fs

  by_test : (test : Bool) → drawing columns cells pen (if test then change ∷ more else more) ≡ drawing columns cells pen more
  by_test false = refl
  by_test true =
      ap (λ (bytes : List ℕ). bytes ++ drawing columns cells (pen_after pen change) more) (half-stroke columns cells pen change half)
      ∙ ap (λ (p : Pen). drawing columns cells p more) (half-stays pen change half)

-- no row begins with a right half, in cells of which the first stands at this place
abbrev pub NoneBegins : ℕ → ℕ → List Cell → Type 0
NoneBegins columns place cells = (row : ℕ) → place ≤ row * columns → right_half_at cells (row * columns - place) ≡ false

NoneBegins-next : (columns place : ℕ) (c : Cell) (cells : List Cell) → NoneBegins columns place (c ∷ cells) → NoneBegins columns (place + 1) cells
NoneBegins-next columns place c cells begin = λ row behind.
    let next : row * columns - place ≡ suc (row * columns - (place + 1)) = omega arith in
    ap (right_half_at (c ∷ cells)) (sym next) ∙ begin row (omega arith)

-- a wide cluster has both its columns in its row
wide-fits : (columns place : ℕ) (f h : Cell) (fs : List Cell) → 1 ≤ columns → NoneBegins columns place (f ∷ h ∷ fs) → is_right_half h.glyph ≡ true → 2 ≤ columns - place % columns
wide-fits columns place f h fs some begin half = by_order (nat_lt (place % columns + 1) columns) refl where
  by_order : (test : Bool) → nat_lt (place % columns + 1) columns ≡ test → 2 ≤ columns - place % columns
  by_order true less = let within : place % columns + 1 < columns = grind (arith, nat_tests) in omega arith
  by_order false more =
      let low : place % columns < columns = omega arith in
      let least : columns ≤ place % columns + 1 = grind (arith, nat_tests) in
      let sum : place / columns * columns + place % columns ≡ place = omega (arith, mod-add-div place columns, mul_comm columns (place / columns)) in
      let rows : suc (place / columns) * columns ≡ place / columns * columns + columns = suc-mul (place / columns) columns in
      let next : suc (place / columns) * columns - place ≡ 1 = omega arith in
      let none : right_half_at (f ∷ h ∷ fs) 1 ≡ false = ap (right_half_at (f ∷ h ∷ fs)) (sym next) ∙ begin (suc (place / columns)) (omega arith) in
      absurd (cc)

module _ (lines columns : ℕ) (some : 1 ≤ columns) (short : lines < 65536) (narrow : columns < 65536) (has_drawn : Bool) (cells : List Cell) (whole_laid : AreLaid None cells) where
  -- a terminal with these cells reads bytes, and then has others
  abbrev pub Turns : List Cell → ℕ → ℕ → Attr → List ℕ → List Cell → Type 0
  Turns shown at room mode bytes new = (at' : ℕ) × (room' : ℕ) × (mode' : Attr) × Leads (state lines columns shown at room mode) bytes (state lines columns new at' room' mode')

  -- wherever the pen is, what is drawn turns the cells shown before, behind those that were drawn, into those of the frame
  abbrev pub DrawsOn : ℕ → List Cell → List Cell → List Cell → Type 0
  DrawsOn place done cs fs = (half : Option Attr) (pen : Pen) (at room : ℕ) (mode : Attr) → AreLaid half cs → Stands columns pen at room mode
      → Turns (done ++ freed_front cs) at room mode (drawing columns cells pen (changes_from has_drawn place cs fs)) (done ++ fs)

  -- before a cell of the frame stand those that were drawn
  shown_up_to : (place : ℕ) (done : List Cell) (c f : Cell) (cs fs : List Cell) → place ≡ length done → done ++ f ∷ fs ≡ cells
      → IsShownUpTo cells (done ++ freed_cell c ∷ cs) (record { at = place; cell = f })
  shown_up_to place done c f cs fs here of_frame =
      record { done = done; frame_rest = fs; shown_rest = freed_cell c ∷ cs; here = here; of_frame = sym of_frame; of_shown = refl; free = ap (λ x. x ∷ cs) (freed_cell-same (freed_cell c) (freed_cell-apart c)) }

  -- a cluster of one column
  narrow-step : (place : ℕ) (done cs fs : List Cell) (c f : Cell) → place ≡ length done → place < lines * columns → IsDrawn f.glyph → is_wide f.glyph ≡ false → done ++ f ∷ fs ≡ cells
      → DrawsOn (place + 1) (done ++ f ∷ []) cs fs → DrawsOn place done (c ∷ cs) (f ∷ fs)
  narrow-step place done cs fs c f here within drawn slim of_frame go_on = λ half pen at room mode laid stands. by_test half pen at room mode laid stands (is_due has_drawn c f) refl where
    change : Change
    change = record { at = place; cell = f }

    more : List Change
    more = changes_from has_drawn (place + 1) cs fs

    whole : (done ++ f ∷ []) ++ fs ≡ done ++ f ∷ fs
    whole = append_assoc done (f ∷ []) fs

    by_test : (half : Option Attr) (pen : Pen) (at room : ℕ) (mode : Attr) → AreLaid half (c ∷ cs) → Stands columns pen at room mode
        → (test : Bool) → is_due has_drawn c f ≡ test
        → Turns (done ++ freed_cell c ∷ cs) at room mode (drawing columns cells pen (if test then change ∷ more else more)) (done ++ f ∷ fs)
    by_test half pen at room mode laid stands true is =
        let width : glyph_columns f.glyph ≡ 1 = narrow-columns f.glyph drawn slim in
        let low : place % columns < columns = omega arith in
        let fits : glyph_columns f.glyph ≤ columns - place % columns = omega arith in
        let next = before_rest half c cs laid in
        let rest = go_on next.0 (pen_after pen change) (place + glyph_columns f.glyph) (columns - place % columns - glyph_columns f.glyph) f.attr next.1
        (stands-after lines columns some short narrow pen change (drawn-apart f.glyph drawn) fits) in
        let put : put_glyph (done ++ freed_cell c ∷ cs) place f.glyph f.attr ≡ (done ++ f ∷ []) ++ freed_front cs =
        put_glyph-narrow done (freed_cell c) cs place f.glyph f.attr here (freed_cell-apart c) drawn slim ∙ sym (append_assoc done (f ∷ []) (freed_front cs)) in
        let bytes = drawing columns cells (pen_after pen change) more in
        let new = state lines columns (done ++ f ∷ fs) rest.0 rest.1 rest.2 in
        let last : Leads (state lines columns (put_glyph (done ++ freed_cell c ∷ cs) place f.glyph f.attr) (place + glyph_columns f.glyph) (columns - place % columns - glyph_columns f.glyph) f.attr) bytes new =
        subst (λ (x : List Cell). Leads (state lines columns x (place + glyph_columns f.glyph) (columns - place % columns - glyph_columns f.glyph) f.attr) bytes new) (sym put)
        (subst (λ (x : List Cell). Leads (state lines columns ((done ++ f ∷ []) ++ freed_front cs) (place + glyph_columns f.glyph) (columns - place % columns - glyph_columns f.glyph) f.attr) bytes (state lines columns x rest.0 rest.1 rest.2)) whole rest.3) in
        (rest.0, rest.1, rest.2, leads-stroke lines columns some short narrow cells (done ++ freed_cell c ∷ cs) at room mode pen change bytes new whole_laid (shown_up_to place done c f cs fs here of_frame) within drawn fits stands (drawing-begins columns cells (pen_after pen change) more) last)
    by_test half pen at room mode laid stands false is =
        let same : c ≡ f = not_due-same has_drawn c f is in
        let laid_on : AreLaid (half_behind f) cs = laid-drawn half c f cs laid same drawn in
        let laid_rest : AreLaid None cs = subst (λ (test : Bool). AreLaid (if test then Some f.attr else None) cs) slim laid_on in
        let kept : done ++ freed_cell c ∷ cs ≡ (done ++ f ∷ []) ++ freed_front cs =
        ap (λ (x : Cell). done ++ freed_cell x ∷ cs) same ∙ ap (λ x. done ++ x ∷ cs) (freed_cell-same f (drawn-apart f.glyph drawn))
        ∙ ap (λ x. done ++ f ∷ x) (sym (laid-front cs laid_rest)) ∙ sym (append_assoc done (f ∷ []) (freed_front cs)) in
        let rest = go_on None pen at room mode laid_rest stands in
        let last : Leads (state lines columns ((done ++ f ∷ []) ++ freed_front cs) at room mode) (drawing columns cells pen more) (state lines columns (done ++ f ∷ fs) rest.0 rest.1 rest.2) =
        subst (λ (x : List Cell). Leads (state lines columns ((done ++ f ∷ []) ++ freed_front cs) at room mode) (drawing columns cells pen more) (state lines columns x rest.0 rest.1 rest.2)) whole rest.3 in
        (rest.0, rest.1, rest.2, subst (λ (x : List Cell). Leads (state lines columns x at room mode) (drawing columns cells pen more) (state lines columns (done ++ f ∷ fs) rest.0 rest.1 rest.2)) (sym kept) last)

  -- a cluster of two columns
  wide-step : (place : ℕ) (done cs fs : List Cell) (c d f h : Cell) → place ≡ length done → place < lines * columns → IsDrawn f.glyph → is_wide f.glyph ≡ true → h ≡ cell RightHalf f.attr
      → 2 ≤ columns - place % columns → done ++ f ∷ h ∷ fs ≡ cells → DrawsOn (place + 1 + 1) (done ++ f ∷ h ∷ []) cs fs → DrawsOn place done (c ∷ d ∷ cs) (f ∷ h ∷ fs)
  wide-step place done cs fs c d f h here within drawn wide half_is fit of_frame go_on = λ half pen at room mode laid stands. by_test half pen at room mode laid stands (is_due has_drawn c f) refl where
    change : Change
    change = record { at = place; cell = f }

    first : List Change
    first = changes_from has_drawn (place + 1) (d ∷ cs) (h ∷ fs)

    more : List Change
    more = changes_from has_drawn (place + 1 + 1) cs fs

    skipped : (pen : Pen) → drawing columns cells pen first ≡ drawing columns cells pen more
    skipped pen = half-skipped columns cells pen has_drawn (place + 1) d h cs fs (ap (λ (x : Cell). is_right_half x.glyph) half_is)

    whole : (done ++ f ∷ h ∷ []) ++ fs ≡ done ++ f ∷ h ∷ fs
    whole = append_assoc done (f ∷ h ∷ []) fs

    by_test : (half : Option Attr) (pen : Pen) (at room : ℕ) (mode : Attr) → AreLaid half (c ∷ d ∷ cs) → Stands columns pen at room mode
        → (test : Bool) → is_due has_drawn c f ≡ test
        → Turns (done ++ freed_cell c ∷ d ∷ cs) at room mode (drawing columns cells pen (if test then change ∷ first else first)) (done ++ f ∷ h ∷ fs)
    by_test half pen at room mode laid stands true is =
        let width : glyph_columns f.glyph ≡ 2 = wide-columns f.glyph wide in
        let fits : glyph_columns f.glyph ≤ columns - place % columns = omega arith in
        let one = before_rest half c (d ∷ cs) laid in
        let next = before_rest one.0 d cs one.1 in
        let rest = go_on next.0 (pen_after pen change) (place + glyph_columns f.glyph) (columns - place % columns - glyph_columns f.glyph) f.attr next.1
        (stands-after lines columns some short narrow pen change (drawn-apart f.glyph drawn) fits) in
        let put : put_glyph (done ++ freed_cell c ∷ d ∷ cs) place f.glyph f.attr ≡ (done ++ f ∷ h ∷ []) ++ freed_front cs =
        put_glyph-wide done (freed_cell c) d cs place f.glyph f.attr here (freed_cell-apart c) drawn wide ∙ ap (λ (x : Cell). done ++ f ∷ x ∷ freed_front cs) (sym half_is)
        ∙ sym (append_assoc done (f ∷ h ∷ []) (freed_front cs)) in
        let bytes = drawing columns cells (pen_after pen change) first in
        let new = state lines columns (done ++ f ∷ h ∷ fs) rest.0 rest.1 rest.2 in
        let last : Leads (state lines columns (put_glyph (done ++ freed_cell c ∷ d ∷ cs) place f.glyph f.attr) (place + glyph_columns f.glyph) (columns - place % columns - glyph_columns f.glyph) f.attr) bytes new =
        subst (λ (b : List ℕ). Leads (state lines columns (put_glyph (done ++ freed_cell c ∷ d ∷ cs) place f.glyph f.attr) (place + glyph_columns f.glyph) (columns - place % columns - glyph_columns f.glyph) f.attr) b new) (sym (skipped (pen_after pen change)))
        (subst (λ (x : List Cell). Leads (state lines columns x (place + glyph_columns f.glyph) (columns - place % columns - glyph_columns f.glyph) f.attr) (drawing columns cells (pen_after pen change) more) new) (sym put)
        (subst (λ (x : List Cell). Leads (state lines columns ((done ++ f ∷ h ∷ []) ++ freed_front cs) (place + glyph_columns f.glyph) (columns - place % columns - glyph_columns f.glyph) f.attr) (drawing columns cells (pen_after pen change) more) (state lines columns x rest.0 rest.1 rest.2)) whole rest.3)) in
        (rest.0, rest.1, rest.2, leads-stroke lines columns some short narrow cells (done ++ freed_cell c ∷ d ∷ cs) at room mode pen change bytes new whole_laid (shown_up_to place done c f (d ∷ cs) (h ∷ fs) here of_frame) within drawn fits stands (drawing-begins columns cells (pen_after pen change) first) last)
    by_test half pen at room mode laid stands false is =
        let same : c ≡ f = not_due-same has_drawn c f is in
        let laid_on : AreLaid (half_behind f) (d ∷ cs) = laid-drawn half c f (d ∷ cs) laid same drawn in
        let laid_half : AreLaid (Some f.attr) (d ∷ cs) = subst (λ (test : Bool). AreLaid (if test then Some f.attr else None) (d ∷ cs)) wide laid_on in
        let kept : done ++ freed_cell c ∷ d ∷ cs ≡ (done ++ f ∷ h ∷ []) ++ freed_front cs =
        ap (λ (x : Cell). done ++ freed_cell x ∷ d ∷ cs) same ∙ ap (λ x. done ++ x ∷ d ∷ cs) (freed_cell-same f (drawn-apart f.glyph drawn))
        ∙ ap (λ x. done ++ f ∷ x ∷ cs) (laid_half.0 ∙ sym half_is)
        ∙ ap (λ x. done ++ f ∷ h ∷ x) (sym (laid-front cs laid_half.1)) ∙ sym (append_assoc done (f ∷ h ∷ []) (freed_front cs)) in
        let rest = go_on None pen at room mode laid_half.1 stands in
        let new = state lines columns (done ++ f ∷ h ∷ fs) rest.0 rest.1 rest.2 in
        let last : Leads (state lines columns ((done ++ f ∷ h ∷ []) ++ freed_front cs) at room mode) (drawing columns cells pen first) new =
        subst (λ (b : List ℕ). Leads (state lines columns ((done ++ f ∷ h ∷ []) ++ freed_front cs) at room mode) b new) (sym (skipped pen))
        (subst (λ (x : List Cell). Leads (state lines columns ((done ++ f ∷ h ∷ []) ++ freed_front cs) at room mode) (drawing columns cells pen more) (state lines columns x rest.0 rest.1 rest.2)) whole rest.3) in
        (rest.0, rest.1, rest.2, subst (λ (x : List Cell). Leads (state lines columns x at room mode) (drawing columns cells pen first) new) (sym kept) last)

  -- all cells from a place on
  pub draws-on : (place : ℕ) (done cs fs : List Cell) → place ≡ length done → place + length fs ≡ lines * columns → length cs ≡ length fs
      → AreLaid None fs → NoneBegins columns place fs → done ++ fs ≡ cells → DrawsOn place done cs fs
  draws-on place done [] [] here size same laid begin of_frame = λ half pen at room mode laid_was stands. (at, room, mode, leads-nothing (state lines columns (done ++ []) at room mode))
  draws-on place done [] (f ∷ fs) here size same laid begin of_frame = absurd (omega arith)
  draws-on place done (c ∷ cs) [] here size same laid begin of_frame = absurd (omega arith)
  draws-on place done (c ∷ d ∷ cs) (f ∷ []) here size same laid begin of_frame = absurd (omega arith)
  draws-on place done (c ∷ []) (f ∷ h ∷ fs) here size same laid begin of_frame = absurd (omega arith)
  draws-on place done (c ∷ []) (f ∷ []) here size same laid begin of_frame = by_test (is_wide f.glyph) refl where
    by_test : (test : Bool) → is_wide f.glyph ≡ test → DrawsOn place done (c ∷ []) (f ∷ [])
    by_test true wide = absurd (subst (λ (test : Bool). AreLaid (if test then Some f.attr else None) []) wide laid.1)
    by_test false slim = narrow-step place done [] [] c f here (omega arith) laid.0 slim of_frame
        (λ half pen at room mode laid_was stands. (at, room, mode, leads-nothing (state lines columns ((done ++ f ∷ []) ++ []) at room mode)))
  draws-on place done (c ∷ d ∷ cs) (f ∷ h ∷ fs) here size same laid begin of_frame = by_test (is_wide f.glyph) refl
      (λ (here' : place + 1 ≡ length (done ++ f ∷ [])) (laid' : AreLaid None (h ∷ fs)).
      draws-on (place + 1) (done ++ f ∷ []) (d ∷ cs) (h ∷ fs) here' (omega arith) (omega arith) laid' (NoneBegins-next columns place f (h ∷ fs) begin) (append_assoc done (f ∷ []) (h ∷ fs) ∙ of_frame))
      (λ (here' : place + 1 + 1 ≡ length (done ++ f ∷ h ∷ [])) (laid' : AreLaid None fs).
      draws-on (place + 1 + 1) (done ++ f ∷ h ∷ []) cs fs here' (omega arith) (omega arith) laid' (NoneBegins-next columns (place + 1) h fs (NoneBegins-next columns place f (h ∷ fs) begin)) (append_assoc done (f ∷ h ∷ []) fs ∙ of_frame)) where
        by_test : (test : Bool) → is_wide f.glyph ≡ test
            → (place + 1 ≡ length (done ++ f ∷ []) → AreLaid None (h ∷ fs) → DrawsOn (place + 1) (done ++ f ∷ []) (d ∷ cs) (h ∷ fs))
            → (place + 1 + 1 ≡ length (done ++ f ∷ h ∷ []) → AreLaid None fs → DrawsOn (place + 1 + 1) (done ++ f ∷ h ∷ []) cs fs)
            → DrawsOn place done (c ∷ d ∷ cs) (f ∷ h ∷ fs)
        by_test false slim one two = narrow-step place done (d ∷ cs) (h ∷ fs) c f here (omega arith) laid.0 slim of_frame
            (one (omega (arith, length-append done (f ∷ []))) (subst (λ (test : Bool). AreLaid (if test then Some f.attr else None) (h ∷ fs)) slim laid.1))
        by_test true wide one two =
            let halves : AreLaid (Some f.attr) (h ∷ fs) = subst (λ (test : Bool). AreLaid (if test then Some f.attr else None) (h ∷ fs)) wide laid.1 in
            let half : is_right_half h.glyph ≡ true = ap (λ (x : Cell). is_right_half x.glyph) halves.0 in
            wide-step place done cs fs c d f h here (omega arith) laid.0 wide halves.0 (wide-fits columns place f h fs some begin half) of_frame
            (two (omega (arith, length-append done (f ∷ h ∷ []))) halves.1)

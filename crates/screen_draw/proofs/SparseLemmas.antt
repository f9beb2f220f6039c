-- what is drawn of a frame places only in rows that differ
use Rattle.std.proofs.Common.{◌≡◌, ℕ, ◌+◌, ◌*◌, ◌/◌, ◌%◌, ◌<◌, ◌≤◌, Bool, true, false, ◌==◌, if◌then◌else◌, List, [], ◌∷◌, ◌++◌, length, drop, Option, Some, None, refl, sym, ◌∙◌, ap, subst, arith, append_assoc, length-append, All}
use Rattle.std.specs.Prelude.{⊤, slice_get}
use Rattle.std.proofs.lemmas.Bool.Decides.{nat_tests}
use Rattle.std.proofs.lemmas.List.Elements.{All-nil, All-cons}
use Rattle.key_screen.specs.declared.cells.Attr.{Attr}
use Rattle.key_screen.specs.declared.cells.Attr.TheVariants.{Plain, Bold, Reverse}
use Rattle.key_screen.specs.declared.cells.Cell.{Cell}
use Rattle.key_screen.specs.Cells.{is_right_half}
use Rattle.key_screen.specs.Controls.{control_of}
use Rattle.key_screen.specs.DrawnText.{glyph_columns}
use Rattle.key_screen.specs.Grids.{CellGrid}
use Rattle.key_screen.specs.Layout.{AreLaid, IsLaidOut}
use Rattle.key_screen.specs.Terminal.{segments}
use Rattle.screen_draw.specs.declared.changes.Change.{Change}
use Rattle.screen_draw.specs.declared.strokes.Pen.{Pen}
use Rattle.screen_draw.specs.declared.strokes.Pen.TheVariants.{Away, Behind, Typing}
use Rattle.screen_draw.specs.declared.strokes.Approach.{Approach}
use Rattle.screen_draw.specs.declared.strokes.Approach.TheVariants as Approaches
use Rattle.screen_draw.specs.Changes.{is_due, changes_from}
use Rattle.screen_draw.specs.DrawnBytes.{glyph_text, is_printable, look, turn, place, cells_text, cells_between, approach_to, lead, pen_after, drawing, drawn_bytes}
use Rattle.screen_draw.specs.Sparse.{DifferInRow, MayFollow, IsPlacing, BeginPlacing, IsSparse}
use Rattle.screen_draw.proofs.EscapeLemmas.{HasNoEscape, segments-plain, first_segment}
use Rattle.screen_draw.proofs.NumberLemmas.{placement, placement-no_escape, control_of-placement}
use Rattle.screen_draw.proofs.ReadingLemmas.{text-no_escapes}
use Rattle.screen_draw.proofs.GapLemmas.{printable-no_escape, texts-printable, goes-over}
use Rattle.screen_draw.proofs.StrokeLemmas.{Approached, IsTypingOn, approached, placed-there, row-within}
use Rattle.screen_draw.proofs.CellLemmas.{before_rest, due-differs, changes-none}

-- all that follows an escape has a property
module _ (P : List ℕ → Type 0) where
  abbrev AllFollow : List ℕ → Type 0
  AllFollow bytes = All P (drop 1 (segments bytes))

  follow-control : (control rest : List ℕ) → HasNoEscape control → ((segment : List ℕ) → P (control ++ segment)) → AllFollow rest → AllFollow (27 ∷ (control ++ rest))
  follow-control control rest none holds all =
      let first = first_segment rest in
      let segment : List ℕ = first.0 in
      let more : List (List ℕ) = first.1 in
      let cut : segments (27 ∷ (control ++ rest)) ≡ [] ∷ (control ++ segment) ∷ more = ap (λ (s : List (List ℕ)). [] ∷ s) (segments-plain control rest segment more none first.2) in
      let behind : All P more = subst (λ (s : List (List ℕ)). All P (drop 1 s)) first.2 all in
      let whole : All P ((control ++ segment) ∷ more) = All-cons P (control ++ segment) more (holds segment) behind in
      subst (λ (s : List (List ℕ)). All P (drop 1 s)) (sym cut) whole

  follow-text : (text rest : List ℕ) → HasNoEscape text → AllFollow rest → AllFollow (text ++ rest)
  follow-text text rest none all =
      let first = first_segment rest in
      let segment : List ℕ = first.0 in
      let more : List (List ℕ) = first.1 in
      let cut : segments (text ++ rest) ≡ (text ++ segment) ∷ more = segments-plain text rest segment more none first.2 in
      let behind : All P more = subst (λ (s : List (List ℕ)). All P (drop 1 s)) first.2 all in
      subst (λ (s : List (List ℕ)). All P (drop 1 s)) (sym cut) behind

module _ (was frame : CellGrid) (some : 1 ≤ frame.columns) (short : frame.lines < 65536) (narrow : frame.columns < 65536) where
  abbrev MayStand : List ℕ → Type 0
  MayStand sequence = MayFollow was frame (control_of sequence)

  -- a change that is drawn: its place is on the screen, its cell isn't as it was, and its text has no escape
  record IsDrawnChange (change : Change) : Type 0 where
    pub within : change.at < frame.lines * frame.columns
    pub differs : slice_get was.cells change.at ≡ slice_get frame.cells change.at → ⊥
    pub plain : HasNoEscape (glyph_text change.cell.glyph)

  abbrev AreDrawnChanges : List Change → Type 0
  AreDrawnChanges [] = ⊤
  AreDrawnChanges (change ∷ changes) = IsDrawnChange change × AreDrawnChanges changes

  -- its row is one in which the screens differ
  row-differs : (change : Change) → IsDrawnChange change → DifferInRow was frame (change.at / frame.columns + 1)
  row-differs change is =
      let low : change.at % frame.columns < frame.columns = omega arith in record {
        column = change.at % frame.columns + 1;
        on_grid = record {
          from_row = omega arith;
          to_row = row-within frame.lines frame.columns change.at is.within;
          from_column = omega arith;
          to_column = omega arith;
        };
        differ = λ same. is.differs (subst (λ n. slice_get was.cells n ≡ slice_get frame.cells n) (placed-there frame.columns change.at) same);
      }

  follow-look : (attr : Attr) (rest : List ℕ) → AllFollow MayStand rest → AllFollow MayStand (look attr ++ rest)
  follow-look Plain rest all = follow-control MayStand (91 ∷ 48 ∷ 109 ∷ []) rest (refl, (refl, (refl, tt))) (λ segment. tt) all
  follow-look Bold rest all =
      follow-control MayStand (91 ∷ 48 ∷ 109 ∷ []) (27 ∷ 91 ∷ 49 ∷ 109 ∷ rest) (refl, (refl, (refl, tt))) (λ segment. tt)
      (follow-control MayStand (91 ∷ 49 ∷ 109 ∷ []) rest (refl, (refl, (refl, tt))) (λ segment. tt) all)
  follow-look Reverse rest all =
      follow-control MayStand (91 ∷ 48 ∷ 109 ∷ []) (27 ∷ 91 ∷ 55 ∷ 109 ∷ rest) (refl, (refl, (refl, tt))) (λ segment. tt)
      (follow-control MayStand (91 ∷ 55 ∷ 109 ∷ []) rest (refl, (refl, (refl, tt))) (λ segment. tt) all)

  follow-turn : (before attr : Attr) (rest : List ℕ) → AllFollow MayStand rest → AllFollow MayStand (turn before attr ++ rest)
  follow-turn Plain Plain rest all = follow-look Plain rest all
  follow-turn Plain Bold rest all = follow-control MayStand (91 ∷ 49 ∷ 109 ∷ []) rest (refl, (refl, (refl, tt))) (λ segment. tt) all
  follow-turn Plain Reverse rest all = follow-control MayStand (91 ∷ 55 ∷ 109 ∷ []) rest (refl, (refl, (refl, tt))) (λ segment. tt) all
  follow-turn Bold attr rest all = follow-look attr rest all
  follow-turn Reverse attr rest all = follow-look attr rest all

  row_small : (change : Change) → IsDrawnChange change → change.at / frame.columns + 1 < 65536
  row_small change is = let last = row-within frame.lines frame.columns change.at is.within in omega arith

  column_small : (change : Change) → change.at % frame.columns + 1 < 65536
  column_small change = let low : change.at % frame.columns < frame.columns = omega arith in omega arith

  follow-place : (change : Change) (rest : List ℕ) → IsDrawnChange change → AllFollow MayStand rest
      → AllFollow MayStand (place (change.at / frame.columns + 1) (change.at % frame.columns + 1) ++ rest)
  follow-place change rest is all =
      let row = change.at / frame.columns + 1 in
      let column = change.at % frame.columns + 1 in
      follow-control MayStand (placement row column) rest (placement-no_escape row column)
      (λ segment. subst (MayFollow was frame) (sym (control_of-placement row column segment (row_small change is) (column_small change))) (row-differs change is)) all

  follow-gap : (pen : Pen) (from : ℕ) (change : Change) (rest : List ℕ) → IsTypingOn frame.columns frame.cells pen from change → AllFollow MayStand rest
      → AllFollow MayStand (cells_text (cells_between frame.cells from change.at) ++ rest)
  follow-gap Away from change rest typing all = absurd typing
  follow-gap (Behind last width attr) from change rest typing all = absurd typing
  follow-gap (Typing last width attr) from change rest typing all =
      let gap = cells_between frame.cells from change.at in
      follow-text MayStand (cells_text gap) rest (printable-no_escape (cells_text gap) (texts-printable attr gap (goes-over frame.columns frame.cells attr from change typing.1))) all

  follow-lead : (pen : Pen) (change : Change) (how : Approach) (rest : List ℕ) → IsDrawnChange change → Approached frame.columns frame.cells pen change how → AllFollow MayStand rest
      → AllFollow MayStand (lead frame.columns frame.cells how change ++ rest)
  follow-lead pen change Approaches.Place rest is how all =
      subst (AllFollow MayStand) (sym (append_assoc (place (change.at / frame.columns + 1) (change.at % frame.columns + 1)) (look change.cell.attr) rest))
      (follow-place change (look change.cell.attr ++ rest) is (follow-look change.cell.attr rest all))
  follow-lead pen change (Approaches.Turn before) rest is how all =
      subst (AllFollow MayStand) (sym (append_assoc (place (change.at / frame.columns + 1) (change.at % frame.columns + 1)) (turn before change.cell.attr) rest))
      (follow-place change (turn before change.cell.attr ++ rest) is (follow-turn before change.cell.attr rest all))
  follow-lead pen change Approaches.Move rest is how all = follow-place change rest is all
  follow-lead pen change (Approaches.Look before) rest is how all = follow-turn before change.cell.attr rest all
  follow-lead pen change (Approaches.Type from) rest is how all = follow-gap pen from change rest how all

  drawing-follows : (pen : Pen) (changes : List Change) → AreDrawnChanges changes → AllFollow MayStand (drawing frame.columns frame.cells pen changes)
  drawing-follows pen [] all = All-nil MayStand
  drawing-follows pen (change ∷ changes) all = by_half (is_right_half change.cell.glyph) (drawing-follows (pen_after pen change) changes all.1) where
    rest : List ℕ
    rest = drawing frame.columns frame.cells (pen_after pen change) changes

    how : Approach
    how = approach_to frame.columns frame.cells pen change

    by_half : (test : Bool) → AllFollow MayStand rest
        → AllFollow MayStand ((if test then [] else lead frame.columns frame.cells how change ++ glyph_text change.cell.glyph) ++ rest)
    by_half true more = more
    by_half false more =
        subst (AllFollow MayStand) (sym (append_assoc (lead frame.columns frame.cells how change) (glyph_text change.cell.glyph) rest))
        (follow-lead pen change how (glyph_text change.cell.glyph ++ rest) all.0 (approached frame.columns frame.cells pen change)
        (follow-text MayStand (glyph_text change.cell.glyph) rest all.0.plain more))

  -- the first of them is placed
  begins-placing : (change : Change) (rest : List ℕ) → IsDrawnChange change → BeginPlacing (segments (place (change.at / frame.columns + 1) (change.at % frame.columns + 1) ++ rest))
  begins-placing change rest is =
      let row = change.at / frame.columns + 1 in
      let column = change.at % frame.columns + 1 in
      let first = first_segment rest in
      let segment : List ℕ = first.0 in
      let more : List (List ℕ) = first.1 in
      let cut : segments (place row column ++ rest) ≡ [] ∷ (placement row column ++ segment) ∷ more =
      ap (λ (s : List (List ℕ)). [] ∷ s) (segments-plain (placement row column) rest segment more (placement-no_escape row column) first.2) in
      let placing : IsPlacing (control_of (placement row column ++ segment)) =
      subst IsPlacing (sym (control_of-placement row column segment (row_small change is) (column_small change))) (row, column, refl) in
      subst BeginPlacing (sym cut) placing

  drawing-placed : (changes : List Change) → AreDrawnChanges changes → BeginPlacing (segments (drawing frame.columns frame.cells Away changes))
  drawing-placed [] all = tt
  drawing-placed (change ∷ changes) all = by_half (is_right_half change.cell.glyph) (drawing-placed changes all.1) where
    printable : Bool
    printable = is_printable (glyph_text change.cell.glyph)

    after : Bool → Pen
    after test = if test then Away else if printable then Typing change.at (glyph_columns change.cell.glyph) change.cell.attr else Behind change.at (glyph_columns change.cell.glyph) change.cell.attr

    by_half : (test : Bool) → BeginPlacing (segments (drawing frame.columns frame.cells Away changes))
        → BeginPlacing (segments ((if test then [] else (place (change.at / frame.columns + 1) (change.at % frame.columns + 1) ++ look change.cell.attr) ++ glyph_text change.cell.glyph)
        ++ drawing frame.columns frame.cells (if test then Away else if is_printable (glyph_text change.cell.glyph) then Typing change.at (glyph_columns change.cell.glyph) change.cell.attr else Behind change.at (glyph_columns change.cell.glyph) change.cell.attr) changes))
    by_half true more = more
    by_half false more =
        let placing = place (change.at / frame.columns + 1) (change.at % frame.columns + 1) in
        let rest = drawing frame.columns frame.cells (if is_printable (glyph_text change.cell.glyph) then Typing change.at (glyph_columns change.cell.glyph) change.cell.attr else Behind change.at (glyph_columns change.cell.glyph) change.cell.attr) changes in
        subst (λ (bytes : List ℕ). BeginPlacing (segments bytes))
        (sym (append_assoc (placing ++ look change.cell.attr) (glyph_text change.cell.glyph) rest ∙ append_assoc placing (look change.cell.attr) (glyph_text change.cell.glyph ++ rest)))
        (begins-placing change (look change.cell.attr ++ (glyph_text change.cell.glyph ++ rest)) all.0)

  -- a cell behind others
  get-behind : (done : List Cell) (c : Cell) (cells : List Cell) (at : ℕ) → at ≡ length done → slice_get (done ++ c ∷ cells) at ≡ Some c
  get-behind [] c cells at here = ap (slice_get (c ∷ cells)) here
  get-behind (d ∷ done) c cells at here = ap (slice_get (d ∷ (done ++ c ∷ cells))) here ∙ get-behind done c cells (length done) refl

  cell-plain : (half : Option Attr) (f : Cell) (fs : List Cell) → AreLaid half (f ∷ fs) → HasNoEscape (glyph_text f.glyph)
  cell-plain None f fs laid = text-no_escapes f.glyph laid.0
  cell-plain (Some attr) f fs laid = subst (λ (x : Cell). HasNoEscape (glyph_text x.glyph)) (sym laid.0) tt

  drawn-changes : (half : Option Attr) (at : ℕ) (done_was done cs fs : List Cell) → at ≡ length done_was → at ≡ length done → done_was ++ cs ≡ was.cells → done ++ fs ≡ frame.cells
      → at + length fs ≡ frame.lines * frame.columns → AreLaid half fs → AreDrawnChanges (changes_from true at cs fs)
  drawn-changes half at done_was done [] fs here_was here whole_was whole size laid = tt
  drawn-changes half at done_was done (c ∷ cs) [] here_was here whole_was whole size laid = tt
  drawn-changes half at done_was done (c ∷ cs) (f ∷ fs) here_was here whole_was whole size laid =
      let next = before_rest half f fs laid in
      by_test (is_due true c f) refl
      (drawn-changes next.0 (at + 1) (done_was ++ c ∷ []) (done ++ f ∷ []) cs fs
      (omega (arith, length-append done_was (c ∷ []))) (omega (arith, length-append done (f ∷ [])))
      (append_assoc done_was (c ∷ []) cs ∙ whole_was) (append_assoc done (f ∷ []) fs ∙ whole) (omega arith) next.1) where
        by_test : (test : Bool) → is_due true c f ≡ test → AreDrawnChanges (changes_from true (at + 1) cs fs)
            → AreDrawnChanges (if test then record { at = at; cell = f } ∷ changes_from true (at + 1) cs fs else changes_from true (at + 1) cs fs)
        by_test false is more = more
        by_test true is more =
            let was_is : slice_get was.cells at ≡ Some c = ap (λ (x : List Cell). slice_get x at) (sym whole_was) ∙ get-behind done_was c cs at here_was in
            let now_is : slice_get frame.cells at ≡ Some f = ap (λ (x : List Cell). slice_get x at) (sym whole) ∙ get-behind done f fs at here in (
              record {
                within = omega arith;
                differs = λ same. let equal : Some c ≡ Some f = sym was_is ∙ same ∙ now_is in due-differs c f is (cc);
                plain = cell-plain half f fs laid;
              },
              more,
            )

-- the bytes of a frame are sparse
pub frame-sparse : (was frame : CellGrid) → frame.lines < 65536 → frame.columns < 65536 → length frame.cells ≡ frame.lines * frame.columns → IsLaidOut frame.columns frame.cells
    → IsSparse was frame (drawn_bytes frame.columns frame.cells (changes_from true 0 was.cells frame.cells))
frame-sparse was frame short narrow size laid = by_test (frame.columns == 0) refl where
  changes : List Change
  changes = changes_from true 0 was.cells frame.cells

  by_test : (test : Bool) → (frame.columns == 0) ≡ test → IsSparse was frame (if test then [] else drawing frame.columns frame.cells Away changes)
  by_test true none = record { begins = tt; allowed = All-nil (λ sequence. MayFollow was frame (control_of sequence)); quiet = λ same. refl }
  by_test false is =
      let some : 1 ≤ frame.columns = grind (arith, nat_tests) in
      let drawn = drawn-changes was frame some short narrow None 0 [] [] was.cells frame.cells refl refl refl refl (omega arith) laid.halves in record {
        begins = drawing-placed was frame some short narrow changes drawn;
        allowed = drawing-follows was frame some short narrow Away changes drawn;
        quiet = λ same.
            ap (λ (g : CellGrid). drawing frame.columns frame.cells Away (changes_from true 0 g.cells frame.cells)) same
            ∙ ap (drawing frame.columns frame.cells Away) (changes-none 0 frame.cells);
      }

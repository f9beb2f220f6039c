-- what a drawing puts draws the frame
use Rattle.std.proofs.Common.{◌≡◌, ℕ, ◌*◌, ◌<◌, Bool, true, false, List, length, ◌++◌, append_assoc, sym, ◌∙◌, ap, subst, []}
use Rattle.key_screen.specs.declared.cells.Cell.{Cell}
use Rattle.key_screen.specs.Grids.{CellGrid, blank_grid}
use Rattle.key_screen.specs.Terminal.{shown_grid, blank_terminal}
use Rattle.key_screen.specs.Layout.{IsLaidOut}
use Rattle.screen_draw.specs.Changes.{changes_from}
use Rattle.screen_draw.specs.DrawnBytes.{clear, clearing, drawn_bytes}
use Rattle.screen_draw.specs.Drawings.{Shows, Display, HasSizeOf, IsDrawing}
use Rattle.screen_draw.specs.Sparse.{IsSparse}
use Rattle.screen_draw.proofs.ReadingLemmas.{text_read-none}
use Rattle.screen_draw.proofs.FrameLemmas.{blank_as, clear-shown, frame-drawn}
use Rattle.screen_draw.proofs.SparseLemmas.{frame-sparse}

-- a terminal that was given nothing shows a blank screen
pub blank-shown : (lines columns : ℕ) → Shows [] (blank_grid lines columns)
blank-shown lines columns = ap shown_grid (text_read-none (blank_terminal lines columns) 0)

-- the bytes that a screen with these fields puts for a frame
abbrev pub put_bytes : Bool → List Cell → CellGrid → List ℕ
put_bytes has_drawn cells frame = clearing has_drawn ++ drawn_bytes frame.columns frame.cells (changes_from has_drawn 0 cells frame.cells)

pub put-is : (columns : ℕ) (was cells : List Cell) (has_drawn : Bool) (kept : List Cell) (frame : CellGrid) → columns ≡ frame.columns → was ≡ kept → cells ≡ frame.cells
    → clearing has_drawn ++ drawn_bytes columns cells (changes_from has_drawn 0 was cells) ≡ put_bytes has_drawn kept frame
put-is columns was cells has_drawn kept frame width before after =
    ap (λ n. clearing has_drawn ++ drawn_bytes n cells (changes_from has_drawn 0 was cells)) width
    ∙ ap (λ (x : List Cell). clearing has_drawn ++ drawn_bytes frame.columns cells (changes_from has_drawn 0 x cells)) before
    ∙ ap (λ (x : List Cell). clearing has_drawn ++ drawn_bytes frame.columns x (changes_from has_drawn 0 kept x)) after

pub same_count : (lines columns : ℕ) (cells : List Cell) (screen : Display) (has_drawn : Bool) (frame : CellGrid)
    → record { grid = record { lines = lines; columns = columns; cells = cells }; has_drawn = has_drawn } ≡ screen → length cells ≡ lines * columns
    → HasSizeOf screen.grid frame → length frame.cells ≡ frame.lines * frame.columns → length cells ≡ length frame.cells
same_count lines columns cells screen has_drawn frame view count same size =
    let rows : frame.lines ≡ lines = same.lines ∙ ap (λ (d : Display). d.grid.lines) (sym view) in
    let width : frame.columns ≡ columns = same.columns ∙ ap (λ (d : Display). d.grid.columns) (sym view) in
    count ∙ ap (λ n. n * columns) (sym rows) ∙ ap (λ n. frame.lines * n) (sym width) ∙ sym size

-- the bytes of a frame, with the clearing before them where nothing was drawn
drawn_behind : (has_drawn : Bool) (grid frame : CellGrid) → length grid.cells ≡ length frame.cells → frame.lines < 65536 → frame.columns < 65536
    → length frame.cells ≡ frame.lines * frame.columns → IsLaidOut frame.columns frame.cells → (before : List ℕ) (was : CellGrid) → Shows before was → HasSizeOf was frame
    → (has_drawn ≡ true → was ≡ grid) → Shows (before ++ put_bytes has_drawn grid.cells frame) frame
drawn_behind true grid frame equal few slim size laid before was shows same kept = frame-drawn true grid frame equal few slim size laid before was shows same kept
drawn_behind false grid frame equal few slim size laid before was shows same kept =
    subst (λ (bytes : List ℕ). Shows bytes frame) (append_assoc before clear (drawn_bytes frame.columns frame.cells (changes_from false 0 grid.cells frame.cells)))
    (frame-drawn false grid frame equal few slim size laid (before ++ clear) (blank_as was) (clear-shown before was shows) (record { lines = same.lines; columns = same.columns }) (λ has. absurd (cc)))

pub is_drawing : (lines columns : ℕ) (cells : List Cell) (screen : Display) (has_drawn : Bool) (frame : CellGrid)
    → record { grid = record { lines = lines; columns = columns; cells = cells }; has_drawn = has_drawn } ≡ screen → length cells ≡ lines * columns
    → lines < 65536 → columns < 65536 → HasSizeOf screen.grid frame → length frame.cells ≡ frame.lines * frame.columns → IsLaidOut frame.columns frame.cells
    → IsDrawing screen frame (put_bytes has_drawn cells frame)
is_drawing lines columns cells screen has_drawn frame view count short narrow same size laid =
    let grid : CellGrid = record { lines = lines; columns = columns; cells = cells } in
    let equal = same_count lines columns cells screen has_drawn frame view count same size in
    let rows : frame.lines ≡ lines = same.lines ∙ ap (λ (d : Display). d.grid.lines) (sym view) in
    let width : frame.columns ≡ columns = same.columns ∙ ap (λ (d : Display). d.grid.columns) (sym view) in
    let few : frame.lines < 65536 = subst (λ n. n < 65536) (sym rows) short in
    let slim : frame.columns < 65536 = subst (λ n. n < 65536) (sym width) narrow in
    let drawing : IsDrawing (record { grid = grid; has_drawn = has_drawn }) frame (put_bytes has_drawn cells frame) = record {
      shows = λ before was shows size_was kept. drawn_behind has_drawn grid frame equal few slim size laid before was shows size_was kept;
      sparse = λ has. subst (λ (test : Bool). IsSparse grid frame (put_bytes test cells frame)) (sym has) (frame-sparse grid frame few slim size laid);
      cleared = λ none. (drawn_bytes frame.columns frame.cells (changes_from false 0 cells frame.cells), ap (λ (test : Bool). put_bytes test cells frame) none);
    } in
    subst (λ (d : Display). IsDrawing d frame (put_bytes has_drawn cells frame)) view drawing

-- a screen with the cells of the frame is the frame
abbrev screen_of : ℕ → ℕ → List Cell → Display
screen_of lines columns cells = record { grid = record { lines = lines; columns = columns; cells = cells }; has_drawn = true }

abbrev screen_with : CellGrid → Display
screen_with frame = record { grid = frame; has_drawn = true }

pub drawn_screen : (lines columns : ℕ) (cells new : List Cell) (screen : Display) (has_drawn : Bool) (frame : CellGrid)
    → record { grid = record { lines = lines; columns = columns; cells = cells }; has_drawn = has_drawn } ≡ screen → HasSizeOf screen.grid frame → new ≡ frame.cells
    → screen_of lines columns new ≡ screen_with frame
drawn_screen lines columns cells new screen has_drawn frame view same changed =
    let rows : lines ≡ frame.lines = sym (same.lines ∙ ap (λ (d : Display). d.grid.lines) (sym view)) in
    let width : columns ≡ frame.columns = sym (same.columns ∙ ap (λ (d : Display). d.grid.columns) (sym view)) in
    ap (λ n. screen_of n columns new) rows ∙ ap (λ n. screen_of frame.lines n new) width ∙ ap (λ x. screen_of frame.lines frame.columns x) changed

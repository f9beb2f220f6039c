-- the bytes of a frame draw it
use Rattle.std.proofs.Common.{◌≡◌, ℕ, ◌+◌, ◌-◌, ◌*◌, ◌<◌, ◌≤◌, Bool, true, false, ◌==◌, if◌then◌else◌, List, [], ◌∷◌, ◌++◌, length, replicate, None, Result, Ok, Err, refl, sym, ◌∙◌, ap, subst, arith, append-nil}
use Rattle.std.proofs.lemmas.Bool.Decides.{nat_tests}
use Rattle.key_screen.specs.declared.cells.Attr.{Attr}
use Rattle.key_screen.specs.declared.cells.Cell.{Cell}
use Rattle.key_screen.specs.Cells.{blank_cell, right_half_at}
use Rattle.key_screen.specs.Grids.{CellGrid}
use Rattle.key_screen.specs.Layout.{IsLaidOut}
use Rattle.key_screen.specs.Terminal.{TerminalState, text_read, all_read, segments, in_front, sequences_read, sequence_read, shown_grid, blank_terminal}
use Rattle.screen_draw.specs.declared.changes.Change.{Change}
use Rattle.screen_draw.specs.declared.strokes.Pen.TheVariants.{Away}
use Rattle.screen_draw.specs.Changes.{changes_from}
use Rattle.screen_draw.specs.DrawnBytes.{clear, drawing, drawn_bytes}
use Rattle.screen_draw.specs.Drawings.{HasSizeOf, Shows}
use Rattle.screen_draw.proofs.EscapeLemmas.{segments-some, segments-behind}
use Rattle.screen_draw.proofs.ReadingLemmas.{Leads, cleared_terminal, leads-clear, text_read-none, state}
use Rattle.screen_draw.proofs.StrokeLemmas.{Begins, drawing-begins}
use Rattle.screen_draw.proofs.CellLemmas.{laid-front, changes-first}
use Rattle.screen_draw.proofs.DrawnLemmas.{NoneBegins, draws-on}
use Rattle.screen_draw.proofs.LaidLemmas.{IsTerminal, shows-terminal}

-- sequences behind those that were read
sequences_read-behind : (told : Result TerminalState ℕ) (position : ℕ) (xs ys : List (List ℕ)) (t new : TerminalState) → sequences_read told position xs ≡ Ok t
    → ((position : ℕ) → sequences_read (Ok t) position ys ≡ Ok new) → sequences_read told position (xs ++ ys) ≡ Ok new
sequences_read-behind told position [] ys t new is leads = ap (λ r. sequences_read r position ys) is ∙ leads position
sequences_read-behind (Ok s) position (x ∷ xs) ys t new is leads = sequences_read-behind (sequence_read s position x) (position + 1 + length x) xs ys t new is leads
sequences_read-behind (Err e) position (x ∷ xs) ys t new is leads = absurd (cc)

all_read-behind : (t : TerminalState) (xs ys : List (List ℕ)) (between new : TerminalState) → 0 < length xs → all_read t xs ≡ Ok between
    → ((position : ℕ) → sequences_read (Ok between) position ys ≡ Ok new) → all_read t (xs ++ ys) ≡ Ok new
all_read-behind t [] ys between new some is leads = absurd (omega arith)
all_read-behind t (x ∷ xs) ys between new some is leads = sequences_read-behind (text_read t 0 x) (length x) xs ys between new is leads

-- what follows an escape
leads-behind : (t new : TerminalState) (rest : List ℕ) → Leads t (27 ∷ rest) new → (position : ℕ) → sequences_read (Ok t) position (segments rest) ≡ Ok new
leads-behind t new rest leads position =
    ap (λ n. sequences_read (Ok t) n (segments rest)) (let same : position ≡ position + 0 = omega arith in same)
    ∙ ap (λ told. sequences_read told (position + 0) (segments rest)) (sym (text_read-none t position)) ∙ leads position

-- bytes that begin with an escape, or none, behind all that was read
read-behind : (t between new : TerminalState) (given bytes : List ℕ) → all_read t (segments given) ≡ Ok between → Begins Away (segments bytes) → Leads between bytes new
    → all_read t (segments (given ++ bytes)) ≡ Ok new
read-behind t between new given [] is begins leads =
    ap (λ b. all_read t (segments b)) (append-nil given) ∙ is ∙ sym (text_read-none between 0) ∙ leads 0
read-behind t between new given (byte ∷ rest) is begins leads = by_test (byte == 27) refl begins where
  escape : byte ≡ 27 → all_read t (segments (given ++ byte ∷ rest)) ≡ Ok new
  escape same =
      ap (λ b. all_read t (segments (given ++ b ∷ rest))) same ∙ ap (all_read t) (segments-behind given rest)
      ∙ all_read-behind t (segments given) (segments rest) between new (segments-some given) is
      (leads-behind between new rest (subst (λ b. Leads between (b ∷ rest) new) same leads))

  no_text : (s : List (List ℕ)) → Begins Away (in_front byte s) → all_read t (segments (given ++ byte ∷ rest)) ≡ Ok new
  no_text [] none = absurd (let e : byte ∷ [] ≡ [] = none in cc)
  no_text (segment ∷ more) none = absurd (let e : byte ∷ segment ≡ [] = none in cc)

  by_test : (test : Bool) → (byte == 27) ≡ test → Begins Away (if test then [] ∷ segments rest else in_front byte (segments rest)) → all_read t (segments (given ++ byte ∷ rest)) ≡ Ok new
  by_test true same begins' = escape (grind (arith, nat_tests))
  by_test false other begins' = no_text (segments rest) begins'

-- a screen whose cells are all blank, of the size of another
abbrev pub blank_as : CellGrid → CellGrid
blank_as grid = record grid { cells = replicate (length grid.cells) blank_cell }

-- a terminal that is cleared shows blank cells, whatever it showed before
pub clear-shown : (given : List ℕ) (was : CellGrid) → Shows given was → Shows (given ++ clear) (blank_as was)
clear-shown given was shows =
    let terminal = shows-terminal given was shows in
    let blank = blank_terminal was.lines was.columns in
    let old = state was.lines was.columns was.cells terminal.at terminal.room terminal.mode in
    let new = cleared_terminal old in
    let all : all_read blank (segments (given ++ clear)) ≡ Ok new = read-behind blank old new given clear terminal.is refl (leads-clear old) in
    ap shown_grid {x = all_read blank (segments (given ++ clear))} {y = Ok new} all

-- two screens of one size
resized : (screen frame : CellGrid) → HasSizeOf screen frame → (cells : List Cell) (at room : ℕ) (mode : Attr)
    → state screen.lines screen.columns cells at room mode ≡ state frame.lines frame.columns cells at room mode
resized screen frame same cells at room mode =
    ap (λ n. state n screen.columns cells at room mode) (sym same.lines) ∙ ap (λ n. state frame.lines n cells at room mode) (sym same.columns)

no_cells : (cells : List Cell) (lines columns : ℕ) → length cells ≡ lines * columns → columns ≡ 0 → cells ≡ []
no_cells [] lines columns size none = refl
no_cells (c ∷ cells) lines columns size none = absurd (let e : lines * columns ≡ lines * 0 = ap (λ n. lines * n) none in omega arith)

-- a frame of no columns has no cells
drawn-nothing : (given : List ℕ) (was frame : CellGrid) → HasSizeOf was frame → length was.cells ≡ was.lines * was.columns → length frame.cells ≡ frame.lines * frame.columns → frame.columns ≡ 0
    → Shows given was → Shows (given ++ []) frame
drawn-nothing given was frame same size_was size none shows =
    let cells : was.cells ≡ frame.cells =
    no_cells was.cells was.lines was.columns size_was (sym same.columns ∙ none) ∙ sym (no_cells frame.cells frame.lines frame.columns size none) in
    let is : was ≡ frame =
    ap (λ n. record { lines = n; columns = was.columns; cells = was.cells }) (sym same.lines)
    ∙ ap (λ n. record { lines = frame.lines; columns = n; cells = was.cells }) (sym same.columns)
    ∙ ap (λ c. record { lines = frame.lines; columns = frame.columns; cells = c }) cells in
    subst (λ bytes. Shows bytes frame) (sym (append-nil given)) (subst (Shows given) is shows)

-- the changes of a frame that has columns
drawn-changes : (given : List ℕ) (was frame : CellGrid) (has_drawn : Bool) → HasSizeOf was frame → frame.lines < 65536 → frame.columns < 65536
    → length frame.cells ≡ frame.lines * frame.columns → IsLaidOut frame.columns frame.cells → 1 ≤ frame.columns → Shows given was
    → Shows (given ++ drawing frame.columns frame.cells Away (changes_from has_drawn 0 was.cells frame.cells)) frame
drawn-changes given was frame has_drawn same short narrow size laid some shows =
    let terminal = shows-terminal given was shows in
    let bytes = drawing frame.columns frame.cells Away (changes_from has_drawn 0 was.cells frame.cells) in
    let blank = blank_terminal frame.lines frame.columns in
    let old = state frame.lines frame.columns was.cells terminal.at terminal.room terminal.mode in
    let before : all_read blank (segments given) ≡ Ok old =
    ap (λ n. all_read (blank_terminal n frame.columns) (segments given)) same.lines ∙ ap (λ n. all_read (blank_terminal was.lines n) (segments given)) same.columns
    ∙ terminal.is ∙ ap (λ (t : TerminalState). Ok t) (resized was frame same was.cells terminal.at terminal.room terminal.mode) in
    let equal : length was.cells ≡ length frame.cells =
    terminal.size ∙ ap (λ n. n * was.columns) (sym same.lines) ∙ ap (λ n. frame.lines * n) (sym same.columns) ∙ sym size in
    let begin : NoneBegins frame.columns 0 frame.cells = λ row behind.
    ap (right_half_at frame.cells) (let place : row * frame.columns - 0 ≡ row * frame.columns = omega arith in place) ∙ laid.row_starts row in
    let drawn = draws-on frame.lines frame.columns some short narrow has_drawn frame.cells laid.halves 0 [] was.cells frame.cells refl (omega arith) equal laid.halves begin refl None Away terminal.at terminal.room terminal.mode
    terminal.laid.halves tt in
    let new = state frame.lines frame.columns frame.cells drawn.0 drawn.1 drawn.2 in
    let leads : Leads old bytes new =
    subst (λ (x : List Cell). Leads (state frame.lines frame.columns x terminal.at terminal.room terminal.mode) bytes new) (laid-front was.cells terminal.laid.halves) drawn.3 in
    let all : all_read blank (segments (given ++ bytes)) ≡ Ok new =
    read-behind blank old new given bytes before (drawing-begins frame.columns frame.cells Away (changes_from has_drawn 0 was.cells frame.cells)) leads in
    ap shown_grid {x = all_read blank (segments (given ++ bytes))} {y = Ok new} all

-- the bytes of a frame draw it on a terminal that shows the one before, and the first on any
pub frame-drawn : (has_drawn : Bool) (grid frame : CellGrid) → length grid.cells ≡ length frame.cells → frame.lines < 65536 → frame.columns < 65536
    → length frame.cells ≡ frame.lines * frame.columns → IsLaidOut frame.columns frame.cells → (given : List ℕ) (was : CellGrid) → Shows given was → HasSizeOf was frame
    → (has_drawn ≡ true → was ≡ grid) → Shows (given ++ drawn_bytes frame.columns frame.cells (changes_from has_drawn 0 grid.cells frame.cells)) frame
frame-drawn has_drawn grid frame equal short narrow size laid given was shows same kept = by_test (frame.columns == 0) refl where
  terminal : IsTerminal (all_read (blank_terminal was.lines was.columns) (segments given)) was
  terminal = shows-terminal given was shows

  equal_was : length was.cells ≡ length frame.cells
  equal_was = terminal.size ∙ ap (λ n. n * was.columns) (sym same.lines) ∙ ap (λ n. frame.lines * n) (sym same.columns) ∙ sym size

  changes : (test : Bool) → has_drawn ≡ test → changes_from has_drawn 0 was.cells frame.cells ≡ changes_from has_drawn 0 grid.cells frame.cells
  changes true is = ap (λ (g : CellGrid). changes_from has_drawn 0 g.cells frame.cells) (kept is)
  changes false is =
      ap (λ test. changes_from test 0 was.cells frame.cells) is ∙ changes-first 0 was.cells frame.cells grid.cells equal_was equal
      ∙ ap (λ test. changes_from test 0 grid.cells frame.cells) (sym is)

  by_test : (test : Bool) → (frame.columns == 0) ≡ test
      → Shows (given ++ (if test then [] else drawing frame.columns frame.cells Away (changes_from has_drawn 0 grid.cells frame.cells))) frame
  by_test true none = drawn-nothing given was frame same terminal.size size (grind (arith, nat_tests)) shows
  by_test false some = subst (λ (c : List Change). Shows (given ++ drawing frame.columns frame.cells Away c) frame) (changes has_drawn refl)
      (drawn-changes given was frame has_drawn same short narrow size laid (grind (arith, nat_tests)) shows)

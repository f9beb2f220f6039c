-- what a terminal makes of one change
use Rattle.std.proofs.Common.{◌≡◌, ℕ, ◌+◌, ◌-◌, ◌*◌, ◌/◌, ◌%◌, ◌<◌, ◌≤◌, Bool, true, false, not, ◌==◌, nat_lt, if◌then◌else◌, List, [], ◌∷◌, ◌++◌, refl, sym, ◌∙◌, ap, subst, arith, append_assoc, inl, inr, ◌⊎◌, None, mul-le-mul_right}
use Rattle.std.specs.Prelude.{⊤}
use Rattle.std.proofs.Math.Nat.{mod-add-div, div-mul-le_self, mul_comm}
use Rattle.std.proofs.lemmas.Nat.{mod-mul-add}
use Rattle.std.proofs.lemmas.Bool.Decides.{nat_tests}
use Rattle.key_screen.specs.declared.cells.Attr.{Attr}
use Rattle.key_screen.specs.declared.cells.Attr.TheVariants.{Plain, Bold, Reverse}
use Rattle.key_screen.specs.declared.cells.Cell.{Cell}
use Rattle.key_screen.specs.Cells.{is_right_half}
use Rattle.key_screen.specs.DrawnText.{glyph_columns}
use Rattle.key_screen.specs.Layout.{IsDrawn, AreLaid}
use Rattle.key_screen.specs.Terminal.{TerminalState, segments}
use Rattle.key_screen.proofs.LayoutLemmas.{drawn-apart}
use Rattle.screen_draw.specs.declared.changes.Change.{Change}
use Rattle.screen_draw.specs.declared.strokes.Pen.{Pen}
use Rattle.screen_draw.specs.declared.strokes.Pen.TheVariants.{Away, Behind, Typing}
use Rattle.screen_draw.specs.declared.strokes.Approach.{Approach}
use Rattle.screen_draw.specs.declared.strokes.Approach.TheVariants as Approaches
use Rattle.screen_draw.specs.Changes.{is_same_attr}
use Rattle.screen_draw.specs.DrawnBytes.{glyph_text, is_printable, look, turn, place, is_here, cells_text, cells_between, goes_on, place_as, approach_to, lead, stroke, pen_after, drawing}
use Rattle.screen_draw.proofs.PrintableLemmas.{ArePrintable}
use Rattle.screen_draw.proofs.ReadingLemmas.{Leads, AreApart, after_glyph, placed_at, leads-look, leads-turn, leads-place, leads-glyph, state}
use Rattle.screen_draw.proofs.GapLemmas.{BeginTyped, typed-before, one-printable, typed-printable, typed-looks, texts-printable, goes-near, goes-typed, goes-over, near-inside, IsShownUpTo, leads-typed}
use Rattle.screen_draw.proofs.TestLemmas.{and_left, and_right, same_attr}

-- what the pen says of the place and of the look before a change
abbrev pub IsHereAt : ℕ → Pen → ℕ → Type 0
IsHereAt columns Away at = ⊥
IsHereAt columns (Behind last width attr) at = is_here columns last width at ≡ true
IsHereAt columns (Typing last width attr) at = is_here columns last width at ≡ true

abbrev pub IsLookingAs : Pen → Attr → Type 0
IsLookingAs Away attr = ⊥
IsLookingAs (Behind last width attr) other = attr ≡ other
IsLookingAs (Typing last width attr) other = attr ≡ other

abbrev pub IsTypingOn : ℕ → List Cell → Pen → ℕ → Change → Type 0
IsTypingOn columns cells Away from change = ⊥
IsTypingOn columns cells (Behind last width attr) from change = ⊥
IsTypingOn columns cells (Typing last width attr) from change = (from ≡ last + width) × (goes_on columns cells attr from change ≡ true)

abbrev pub Approached : ℕ → List Cell → Pen → Change → Approach → Type 0
Approached columns cells pen change Approaches.Place = ⊤
Approached columns cells pen change (Approaches.Turn before) = IsLookingAs pen before
Approached columns cells pen change Approaches.Move = IsLookingAs pen change.cell.attr
Approached columns cells pen change (Approaches.Look before) = IsHereAt columns pen change.at × IsLookingAs pen before
Approached columns cells pen change (Approaches.Type from) = IsTypingOn columns cells pen from change

placed_as : (columns : ℕ) (cells : List Cell) (pen : Pen) (attr : Attr) (change : Change) → ((other : Attr) → attr ≡ other → IsLookingAs pen other) → Approached columns cells pen change (place_as attr change)
placed_as columns cells pen attr change looks = by_test (is_same_attr attr change.cell.attr) refl where
  by_test : (test : Bool) → is_same_attr attr change.cell.attr ≡ test → Approached columns cells pen change (if test then Approaches.Move else Approaches.Turn attr)
  by_test true is = looks change.cell.attr (same_attr attr change.cell.attr is)
  by_test false is = looks attr refl

pub approached : (columns : ℕ) (cells : List Cell) (pen : Pen) (change : Change) → Approached columns cells pen change (approach_to columns cells pen change)
approached columns cells Away change = tt
approached columns cells (Behind last width attr) change = by_test (is_here columns last width change.at) refl where
  by_test : (test : Bool) → is_here columns last width change.at ≡ test
      → Approached columns cells (Behind last width attr) change (if test then Approaches.Look attr else place_as attr change)
  by_test true is = (is, refl)
  by_test false is = placed_as columns cells (Behind last width attr) attr change (λ other same. same)
approached columns cells (Typing last width attr) change = by_tests (goes_on columns cells attr (last + width) change) (is_here columns last width change.at) refl refl where
  by_tests : (goes here : Bool) → goes_on columns cells attr (last + width) change ≡ goes → is_here columns last width change.at ≡ here
      → Approached columns cells (Typing last width attr) change (if goes then Approaches.Type (last + width) else if here then Approaches.Look attr else place_as attr change)
  by_tests true here goes is = (refl, goes)
  by_tests false true goes is = (is, refl)
  by_tests false false goes is = placed_as columns cells (Typing last width attr) attr change (λ other same. same)

-- the first text of what is drawn behind a pen
abbrev pub IsFirst : Pen → List ℕ → Type 0
IsFirst Away segment = segment ≡ []
IsFirst (Behind last width attr) segment = segment ≡ []
IsFirst (Typing last width attr) segment = ArePrintable segment

abbrev pub Begins : Pen → List (List ℕ) → Type 0
Begins pen [] = ⊥
Begins pen (segment ∷ more) = IsFirst pen segment

none-first : (pen : Pen) → IsFirst pen []
none-first Away = refl
none-first (Behind last width attr) = refl
none-first (Typing last width attr) = tt

begins-turn : (pen : Pen) (before attr : Attr) (rest : List ℕ) → Begins pen (segments (turn before attr ++ rest))
begins-turn pen Plain Plain rest = none-first pen
begins-turn pen Plain Bold rest = none-first pen
begins-turn pen Plain Reverse rest = none-first pen
begins-turn pen Bold Plain rest = none-first pen
begins-turn pen Bold Bold rest = none-first pen
begins-turn pen Bold Reverse rest = none-first pen
begins-turn pen Reverse Plain rest = none-first pen
begins-turn pen Reverse Bold rest = none-first pen
begins-turn pen Reverse Reverse rest = none-first pen

-- printable text, where the pen is behind such
begins-typed : (columns : ℕ) (cells : List Cell) (pen : Pen) (from : ℕ) (change : Change) (all : List (List ℕ)) → IsTypingOn columns cells pen from change → BeginTyped all → Begins pen all
begins-typed columns cells Away from change all typing typed = absurd typing
begins-typed columns cells (Behind last width attr) from change all typing typed = absurd typing
begins-typed columns cells (Typing last width attr) from change [] typing typed = absurd typed
begins-typed columns cells (Typing last width attr) from change (segment ∷ more) typing typed = typed

-- what is drawn behind a character that is typed begins with such, or with an escape
begin-typed : (pen : Pen) (all : List (List ℕ)) → Begins pen all → BeginTyped all
begin-typed pen [] begins = absurd begins
begin-typed Away (segment ∷ more) begins = subst ArePrintable (sym begins) tt
begin-typed (Behind last width attr) (segment ∷ more) begins = subst ArePrintable (sym begins) tt
begin-typed (Typing last width attr) (segment ∷ more) begins = begins

-- the cells of a gap, and the text of the change behind it
gap-typed : (columns : ℕ) (cells : List Cell) (pen : Pen) (from : ℕ) (change : Change) (rest : List ℕ) → IsTypingOn columns cells pen from change → BeginTyped (segments rest)
    → BeginTyped (segments (glyph_text change.cell.glyph ++ rest)) × ArePrintable (cells_text (cells_between cells from change.at))
gap-typed columns cells Away from change rest typing typed = absurd typing
gap-typed columns cells (Behind last width attr) from change rest typing typed = absurd typing
gap-typed columns cells (Typing last width attr) from change rest typing typed =
    let next = goes-typed columns cells attr from change typing.1 in (
      typed-before (glyph_text change.cell.glyph) rest (one-printable (glyph_text change.cell.glyph) (typed-printable attr change.cell next)) typed,
      texts-printable attr (cells_between cells from change.at) (goes-over columns cells attr from change typing.1),
    )

begins-lead : (columns : ℕ) (cells : List Cell) (pen : Pen) (change : Change) (rest : List ℕ) (how : Approach) → Approached columns cells pen change how → BeginTyped (segments rest)
    → Begins pen (segments ((lead columns cells how change ++ glyph_text change.cell.glyph) ++ rest))
begins-lead columns cells pen change rest Approaches.Place is typed = none-first pen
begins-lead columns cells pen change rest (Approaches.Turn before) is typed = none-first pen
begins-lead columns cells pen change rest Approaches.Move is typed = none-first pen
begins-lead columns cells pen change rest (Approaches.Look before) is typed =
    subst (λ (bytes : List ℕ). Begins pen (segments bytes)) (sym (append_assoc (turn before change.cell.attr) (glyph_text change.cell.glyph) rest))
    (begins-turn pen before change.cell.attr (glyph_text change.cell.glyph ++ rest))
begins-lead columns cells pen change rest (Approaches.Type from) is typed =
    let gap = cells_text (cells_between cells from change.at) in
    let text = glyph_text change.cell.glyph in
    let parts = gap-typed columns cells pen from change rest is typed in
    subst (λ (bytes : List ℕ). Begins pen (segments bytes)) (sym (append_assoc gap text rest))
    (begins-typed columns cells pen from change (segments (gap ++ (text ++ rest))) is (typed-before gap (text ++ rest) parts.1 parts.0))

pub drawing-begins : (columns : ℕ) (cells : List Cell) (pen : Pen) (changes : List Change) → Begins pen (segments (drawing columns cells pen changes))
drawing-begins columns cells pen [] = none-first pen
drawing-begins columns cells pen (change ∷ changes) = by_half (is_right_half change.cell.glyph) refl (drawing-begins columns cells pen changes) (drawing-begins columns cells (pen_after pen change) changes) where
  by_half : (test : Bool) → is_right_half change.cell.glyph ≡ test → Begins pen (segments (drawing columns cells pen changes))
      → Begins (pen_after pen change) (segments (drawing columns cells (pen_after pen change) changes))
      → Begins pen (segments ((if test then [] else lead columns cells (approach_to columns cells pen change) change ++ glyph_text change.cell.glyph) ++ drawing columns cells (pen_after pen change) changes))
  by_half true is same next =
      let stays : pen ≡ pen_after pen change = sym (ap (λ test. if test then pen else if is_printable (glyph_text change.cell.glyph) then Typing change.at (glyph_columns change.cell.glyph) change.cell.attr else Behind change.at (glyph_columns change.cell.glyph) change.cell.attr) is) in
      subst (λ (p : Pen). Begins pen (segments (drawing columns cells p changes))) stays same
  by_half false is same next =
      begins-lead columns cells pen change (drawing columns cells (pen_after pen change) changes) (approach_to columns cells pen change) (approached columns cells pen change)
      (begin-typed (pen_after pen change) (segments (drawing columns cells (pen_after pen change) changes)) next)

-- a glyph's text stands apart from what is drawn behind it
drawn-apart_after : (pen : Pen) (change : Change) (rest : List (List ℕ)) → is_right_half change.cell.glyph ≡ false → Begins (pen_after pen change) rest → AreApart (glyph_text change.cell.glyph) rest
drawn-apart_after pen change [] no_half begins = absurd begins
drawn-apart_after pen change (segment ∷ more) no_half begins = by_test (is_printable (glyph_text change.cell.glyph)) refl
    (subst (λ (test : Bool). IsFirst (if test then pen else if is_printable (glyph_text change.cell.glyph) then Typing change.at (glyph_columns change.cell.glyph) change.cell.attr else Behind change.at (glyph_columns change.cell.glyph) change.cell.attr) segment) no_half begins) where
      by_test : (test : Bool) → is_printable (glyph_text change.cell.glyph) ≡ test
          → IsFirst (if test then Typing change.at (glyph_columns change.cell.glyph) change.cell.attr else Behind change.at (glyph_columns change.cell.glyph) change.cell.attr) segment
          → (segment ≡ []) ⊎ ((is_printable (glyph_text change.cell.glyph) ≡ true) × ArePrintable segment)
      by_test true is first = inr (is, first)
      by_test false is first = inl first

-- what the pen says of the terminal: its place, the room left in that row, and how text looks
abbrev pub IsStanding : ℕ → ℕ → ℕ → ℕ → Type 0
IsStanding columns next at room = (at ≡ next) × ((next % columns ≡ 0 → ⊥) → room ≡ columns - next % columns)

abbrev pub Stands : ℕ → Pen → ℕ → ℕ → Attr → Type 0
Stands columns Away at room mode = ⊤
Stands columns (Behind last width attr) at room mode = IsStanding columns (last + width) at room × (mode ≡ attr)
Stands columns (Typing last width attr) at room mode = IsStanding columns (last + width) at room × (mode ≡ attr)

-- a place is that of its row and column
row_and_column : (columns at : ℕ) → at / columns * columns + at % columns ≡ at
row_and_column columns at = omega (arith, mod-add-div at columns, mul_comm columns (at / columns))

pub placed-there : (columns at : ℕ) → (at / columns + 1 - 1) * columns + (at % columns + 1 - 1) ≡ at
placed-there columns at =
    let row : at / columns + 1 - 1 ≡ at / columns = omega arith in
    let column : at % columns + 1 - 1 ≡ at % columns = omega arith in
    ap (λ n. n * columns + (at % columns + 1 - 1)) row ∙ ap (λ n. at / columns * columns + n) column ∙ row_and_column columns at

pub row-within : (lines columns at : ℕ) → at < lines * columns → at / columns + 1 ≤ lines
row-within lines columns at within = by_order (nat_lt (at / columns) lines) refl where
  by_order : (test : Bool) → nat_lt (at / columns) lines ≡ test → at / columns + 1 ≤ lines
  by_order true less = grind (arith, nat_tests)
  by_order false more =
      let behind : lines ≤ at / columns = grind (arith, nat_tests) in
      let rows : lines * columns ≤ at / columns * columns = mul-le-mul_right columns behind in
      absurd (omega (arith, div-mul-le_self at columns))

-- behind a glyph that had room
pub stands-behind : (columns at width : ℕ) → 1 ≤ columns → width ≤ columns - at % columns → IsStanding columns (at + width) (at + width) (columns - at % columns - width)
stands-behind columns at width some fits = (refl, by_order (nat_lt (at % columns + width) columns) refl) where
  low : at % columns < columns
  low = omega arith

  sum : at + width ≡ at / columns * columns + (at % columns + width)
  sum = omega (arith, row_and_column columns at)

  by_order : (test : Bool) → nat_lt (at % columns + width) columns ≡ test → ((at + width) % columns ≡ 0 → ⊥) → columns - at % columns - width ≡ columns - (at + width) % columns
  by_order true less inside =
      let within : at % columns + width < columns = grind (arith, nat_tests) in
      let rest : (at + width) % columns ≡ at % columns + width = ap (λ n. n % columns) sum ∙ mod-mul-add (at / columns) columns (at % columns + width) within in
      omega arith
  by_order false more inside =
      let least : columns ≤ at % columns + width = grind (arith, nat_tests) in
      let whole : at % columns + width ≡ columns = omega arith in
      let next : at / columns * columns + (at % columns + width) ≡ (at / columns + 1) * columns + 0 =
      ap (λ n. at / columns * columns + n) whole ∙ (let rows : at / columns * columns + columns ≡ (at / columns + 1) * columns + 0 = grind arith in rows) in
      absurd (inside (ap (λ n. n % columns) (sum ∙ next) ∙ mod-mul-add (at / columns + 1) columns 0 (omega arith)))

-- a terminal stands where the pen is
stands-here : (columns last width at at' room : ℕ) → is_here columns last width at ≡ true → IsStanding columns (last + width) at' room → (at' ≡ at) × (room ≡ columns - at % columns)
stands-here columns last width at at' room here stands =
    let same : last + width ≡ at = grind (arith, nat_tests, and_left (last + width == at) (not (at % columns == 0)) here) in
    let inside : not (at % columns == 0) ≡ true = and_right (last + width == at) (not (at % columns == 0)) here in
    (stands.0 ∙ same, stands.1 (λ none. absurd (let e : (at % columns == 0) ≡ true = grind (arith, nat_tests, ap (λ n. n % columns) same) in cc)) ∙ ap (λ n. columns - n % columns) same)

pub stands-at : (columns : ℕ) (pen : Pen) (at at' room : ℕ) (mode : Attr) → IsHereAt columns pen at → Stands columns pen at' room mode → (at' ≡ at) × (room ≡ columns - at % columns)
stands-at columns Away at at' room mode here stands = absurd here
stands-at columns (Behind last width attr) at at' room mode here stands = stands-here columns last width at at' room here stands.0
stands-at columns (Typing last width attr) at at' room mode here stands = stands-here columns last width at at' room here stands.0

-- and types on
stands-typing : (columns : ℕ) (cells : List Cell) (pen : Pen) (from : ℕ) (change : Change) (at room : ℕ) (mode : Attr) → IsTypingOn columns cells pen from change → Stands columns pen at room mode
    → (at ≡ from) × ((room ≡ columns - from % columns) × (goes_on columns cells mode from change ≡ true))
stands-typing columns cells Away from change at room mode typing stands = absurd typing
stands-typing columns cells (Behind last width attr) from change at room mode typing stands = absurd typing
stands-typing columns cells (Typing last width attr) from change at room mode typing stands =
    let same : last + width ≡ from = sym typing.0 in
    let inside = near-inside columns from change.at (goes-near columns cells attr from change typing.1) in (
      stands.0.0 ∙ same,
      (
        stands.0.1 (λ none. inside (ap (λ n. n % columns) typing.0 ∙ none)) ∙ ap (λ n. columns - n % columns) same,
        ap (λ a. goes_on columns cells a from change) stands.1 ∙ typing.1,
      ),
    )

stands-looking : (columns : ℕ) (pen : Pen) (attr : Attr) (at room : ℕ) (mode : Attr) → IsLookingAs pen attr → Stands columns pen at room mode → mode ≡ attr
stands-looking columns Away attr at room mode looking stands = absurd looking
stands-looking columns (Behind last width attr') attr at room mode looking stands = stands.1 ∙ looking
stands-looking columns (Typing last width attr') attr at room mode looking stands = stands.1 ∙ looking

module _ (lines columns : ℕ) (some : 1 ≤ columns) (short : lines < 65536) (narrow : columns < 65536) where
  -- a placement brings the terminal to the place of a change, and leaves its look
  leads-placement : (cells : List Cell) (at room : ℕ) (mode : Attr) (change : Change) (rest : List ℕ) (new : TerminalState) → change.at < lines * columns
      → Leads (state lines columns cells change.at (columns - change.at % columns) mode) rest new
      → Leads (state lines columns cells at room mode) (place (change.at / columns + 1) (change.at % columns + 1) ++ rest) new
  leads-placement cells at room mode change rest new within leads =
      let row = change.at / columns + 1 in
      let column = change.at % columns + 1 in
      let low : change.at % columns < columns = omega arith in
      let t = state lines columns cells at room mode in
      let there : state lines columns cells change.at (columns - change.at % columns) mode ≡ placed_at t row column =
      sym (ap (λ n. state lines columns cells n (columns - (column - 1)) mode) (placed-there columns change.at)
      ∙ ap (λ n. state lines columns cells change.at (columns - n) mode) (let same : column - 1 ≡ change.at % columns = omega arith in same)) in
      leads-place t new row column rest (omega arith) (row-within lines columns change.at within) (omega arith) (omega arith) short narrow
      (subst (λ (s : TerminalState). Leads s rest new) there leads)

  -- what stands before a change brings the terminal to its place and look
  leads-lead : (cells shown : List Cell) (at room : ℕ) (mode : Attr) (pen : Pen) (change : Change) (rest : List ℕ) (new : TerminalState) (how : Approach)
      → AreLaid None cells → IsShownUpTo cells shown change → change.at < lines * columns → Approached columns cells pen change how → Stands columns pen at room mode
      → (is_printable (glyph_text change.cell.glyph) ≡ true → BeginTyped (segments rest))
      → Leads (state lines columns shown change.at (columns - change.at % columns) change.cell.attr) rest new
      → Leads (state lines columns shown at room mode) (lead columns cells how change ++ rest) new
  leads-lead cells shown at room mode pen change rest new Approaches.Place laid up within is stands typed leads =
      let looks : Leads (state lines columns shown change.at (columns - change.at % columns) mode) (look change.cell.attr ++ rest) new =
      leads-look (state lines columns shown change.at (columns - change.at % columns) mode) new change.cell.attr rest leads in
      let placed = leads-placement shown at room mode change (look change.cell.attr ++ rest) new within looks in
      subst (λ (bytes : List ℕ). Leads (state lines columns shown at room mode) bytes new)
      (sym (append_assoc (place (change.at / columns + 1) (change.at % columns + 1)) (look change.cell.attr) rest)) placed
  leads-lead cells shown at room mode pen change rest new (Approaches.Turn before) laid up within is stands typed leads =
      let looks : Leads (state lines columns shown change.at (columns - change.at % columns) before) (turn before change.cell.attr ++ rest) new =
      leads-turn (state lines columns shown change.at (columns - change.at % columns) mode) new before change.cell.attr rest leads in
      let looked = subst (λ a. Leads (state lines columns shown change.at (columns - change.at % columns) a) (turn before change.cell.attr ++ rest) new)
      (sym (stands-looking columns pen before at room mode is stands)) looks in
      let placed = leads-placement shown at room mode change (turn before change.cell.attr ++ rest) new within looked in
      subst (λ (bytes : List ℕ). Leads (state lines columns shown at room mode) bytes new)
      (sym (append_assoc (place (change.at / columns + 1) (change.at % columns + 1)) (turn before change.cell.attr) rest)) placed
  leads-lead cells shown at room mode pen change rest new Approaches.Move laid up within is stands typed leads =
      let looks = stands-looking columns pen change.cell.attr at room mode is stands in
      let same : state lines columns shown change.at (columns - change.at % columns) change.cell.attr ≡ state lines columns shown change.at (columns - change.at % columns) mode =
      sym (ap (λ a. state lines columns shown change.at (columns - change.at % columns) a) looks) in
      leads-placement shown at room mode change rest new within (subst (λ (s : TerminalState). Leads s rest new) same leads)
  leads-lead cells shown at room mode pen change rest new (Approaches.Look before) laid up within is stands typed leads =
      let here = stands-at columns pen change.at at room mode is.0 stands in
      let same : state lines columns shown change.at (columns - change.at % columns) before ≡ state lines columns shown at room mode =
      sym (ap (λ n. state lines columns shown n room mode) here.0 ∙ ap (λ n. state lines columns shown change.at n mode) here.1
      ∙ ap (λ a. state lines columns shown change.at (columns - change.at % columns) a) (stands-looking columns pen before at room mode is.1 stands)) in
      subst (λ (s : TerminalState). Leads s (turn before change.cell.attr ++ rest) new) same
      (leads-turn (state lines columns shown change.at (columns - change.at % columns) mode) new before change.cell.attr rest leads)
  leads-lead cells shown at room mode pen change rest new (Approaches.Type from) laid up within is stands typed leads =
      let typing = stands-typing columns cells pen from change at room mode is stands in
      let gap = cells_text (cells_between cells from change.at) in
      let next = goes-typed columns cells mode from change typing.1.1 in
      let looked : Leads (state lines columns shown change.at (columns - change.at % columns) mode) rest new =
      subst (λ a. Leads (state lines columns shown change.at (columns - change.at % columns) a) rest new) (sym (typed-looks mode change.cell next)) leads in
      let drawn : Leads (state lines columns shown from room mode) (gap ++ rest) new =
      leads-typed lines columns cells shown mode from room change rest new laid up typing.1.1 typing.1.0 (typed (typed-printable mode change.cell next)) looked in
      subst (λ n. Leads (state lines columns shown n room mode) (gap ++ rest) new) (sym typing.0) drawn

  -- a change, and what is drawn behind it
  pub leads-stroke : (cells shown : List Cell) (at room : ℕ) (mode : Attr) (pen : Pen) (change : Change) (rest : List ℕ) (new : TerminalState)
      → AreLaid None cells → IsShownUpTo cells shown change → change.at < lines * columns → IsDrawn change.cell.glyph → glyph_columns change.cell.glyph ≤ columns - change.at % columns
      → Stands columns pen at room mode → Begins (pen_after pen change) (segments rest)
      → Leads (after_glyph (state lines columns shown change.at (columns - change.at % columns) change.cell.attr) change.cell.glyph) rest new
      → Leads (state lines columns shown at room mode) (stroke columns cells pen change ++ rest) new
  leads-stroke cells shown at room mode pen change rest new laid up within drawn fits stands begins leads =
      let no_half = drawn-apart change.cell.glyph drawn in
      let how = approach_to columns cells pen change in
      let text = glyph_text change.cell.glyph in
      let inner : Leads (state lines columns shown change.at (columns - change.at % columns) change.cell.attr) (text ++ rest) new =
      leads-glyph (state lines columns shown change.at (columns - change.at % columns) change.cell.attr) new change.cell.glyph rest drawn fits (drawn-apart_after pen change (segments rest) no_half begins) leads in
      let whole : Leads (state lines columns shown at room mode) (lead columns cells how change ++ (text ++ rest)) new =
      leads-lead cells shown at room mode pen change (text ++ rest) new how laid up within (approached columns cells pen change) stands
      (λ printable. typed-before text rest (one-printable text printable) (begin-typed (pen_after pen change) (segments rest) begins)) inner in
      let bytes : stroke columns cells pen change ++ rest ≡ lead columns cells how change ++ (text ++ rest) =
      ap (λ test. (if test then [] else lead columns cells how change ++ text) ++ rest) no_half ∙ append_assoc (lead columns cells how change) text rest in
      subst (λ (b : List ℕ). Leads (state lines columns shown at room mode) b new) (sym bytes) whole

  -- and where the pen is then
  pub stands-after : (pen : Pen) (change : Change) → is_right_half change.cell.glyph ≡ false → glyph_columns change.cell.glyph ≤ columns - change.at % columns
      → Stands columns (pen_after pen change) (change.at + glyph_columns change.cell.glyph) (columns - change.at % columns - glyph_columns change.cell.glyph) change.cell.attr
  stands-after pen change no_half fits =
      subst (λ (test : Bool). Stands columns (if test then pen else if is_printable (glyph_text change.cell.glyph) then Typing change.at (glyph_columns change.cell.glyph) change.cell.attr else Behind change.at (glyph_columns change.cell.glyph) change.cell.attr)
      (change.at + glyph_columns change.cell.glyph) (columns - change.at % columns - glyph_columns change.cell.glyph) change.cell.attr) (sym no_half) (by_test (is_printable (glyph_text change.cell.glyph))) where
        by_test : (test : Bool) → Stands columns (if test then Typing change.at (glyph_columns change.cell.glyph) change.cell.attr else Behind change.at (glyph_columns change.cell.glyph) change.cell.attr)
            (change.at + glyph_columns change.cell.glyph) (columns - change.at % columns - glyph_columns change.cell.glyph) change.cell.attr
        by_test true = (stands-behind columns change.at (glyph_columns change.cell.glyph) some fits, refl)
        by_test false = (stands-behind columns change.at (glyph_columns change.cell.glyph) some fits, refl)

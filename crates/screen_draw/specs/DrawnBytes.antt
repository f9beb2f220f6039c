-- The bytes that draw changes on a terminal, as ECMA-48 has them: where the next cluster goes (CUP), how it
-- looks (SGR), and its text. Two clusters stand directly behind each other only where both are printable
-- ASCII, so that they don't become one. Where few such cells lie between two changes, they are written
-- again, since a placement takes more bytes.
use Rattle.std.specs.Prelude.{ℕ, ◌+◌, ◌-◌, ◌/◌, ◌%◌, ◌==◌, nat_le, nat_lt, Bool, true, false}
use Rattle.std.specs.Prelude.{not, ◌&&◌, if◌then◌else◌, List, [], ◌∷◌, ◌++◌, take, drop}
use Rattle.key_screen.specs.declared.cells.Attr.{Attr}
use Rattle.key_screen.specs.declared.cells.Attr.TheVariants.{Plain, Bold, Reverse}
use Rattle.key_screen.specs.declared.cells.Cell.{Cell}
use Rattle.key_screen.specs.declared.cells.Glyph.{Glyph}
use Rattle.key_screen.specs.declared.cells.Glyph.TheVariants.{Blank, Cluster, RightHalf}
use Rattle.key_screen.specs.Cells.{is_right_half}
use Rattle.key_screen.specs.DrawnText.{glyph_columns}
use Rattle.screen_draw.specs.declared.changes.Change.{Change}
use Rattle.screen_draw.specs.declared.strokes.Pen.{Pen}
use Rattle.screen_draw.specs.declared.strokes.Pen.TheVariants.{Away, Behind, Typing}
use Rattle.screen_draw.specs.declared.strokes.Approach.{Approach}
use Rattle.screen_draw.specs.declared.strokes.Approach.TheVariants as Approaches
use Rattle.screen_draw.specs.Changes.{is_same_attr}

-- the text that shows a glyph; a right half is shown with its left half
abbrev pub glyph_text : Glyph → List ℕ
glyph_text Blank = 32 ∷ []
glyph_text (Cluster text) = text
glyph_text RightHalf = []

-- a text is one printable character of ASCII
abbrev pub is_printable : List ℕ → Bool
is_printable (byte ∷ []) = nat_le 32 byte && nat_le byte 126
is_printable text = false

-- how text looks from here on: `[0m`, and then `[1m` or `[7m`, since these are read only while it is plain
abbrev pub look : Attr → List ℕ
look Plain = 27 ∷ 91 ∷ 48 ∷ 109 ∷ []
look Bold = 27 ∷ 91 ∷ 48 ∷ 109 ∷ 27 ∷ 91 ∷ 49 ∷ 109 ∷ []
look Reverse = 27 ∷ 91 ∷ 48 ∷ 109 ∷ 27 ∷ 91 ∷ 55 ∷ 109 ∷ []

-- the same behind text of this look: over plain text `[1m` or `[7m` alone
abbrev pub turn : Attr → Attr → List ℕ
turn Plain Bold = 27 ∷ 91 ∷ 49 ∷ 109 ∷ []
turn Plain Reverse = 27 ∷ 91 ∷ 55 ∷ 109 ∷ []
turn before attr = look attr

-- `[2J` makes all cells blank and plain (ED)
abbrev pub clear : List ℕ
clear = 27 ∷ 91 ∷ 50 ∷ 74 ∷ []

-- what stands before all else, where it isn't known what the terminal shows
abbrev pub clearing : Bool → List ℕ
clearing true = []
clearing false = clear

-- the last decimal digit of a number
abbrev pub digit : ℕ → ℕ
digit n = 48 + n % 10

-- the digit of a unit, unless it and all before it are 0
abbrev pub digit_at : ℕ → ℕ → List ℕ
digit_at n unit = if nat_lt n unit then [] else digit (n / unit) ∷ []

-- a number below 100,000
unfoldable pub number : ℕ → List ℕ
number n = digit_at n 10000 ++ (digit_at n 1000 ++ (digit_at n 100 ++ (digit_at n 10 ++ digit n ∷ [])))

-- `[r;cH` places the next cluster
abbrev pub place : ℕ → ℕ → List ℕ
place row column = 27 ∷ 91 ∷ (number row ++ 59 ∷ (number column ++ 72 ∷ []))

-- a place stands directly behind the last one, in the same row
abbrev pub is_here : ℕ → ℕ → ℕ → ℕ → Bool
is_here columns last width at = last + width == at && not (at % columns == 0)

-- a cell is one printable character of ASCII that looks so
abbrev pub is_typed : Attr → Cell → Bool
is_typed attr cell = is_same_attr attr cell.attr && is_printable (glyph_text cell.glyph)

-- and all cells are
abbrev pub are_typed : Attr → List Cell → Bool
are_typed attr [] = true
are_typed attr (cell ∷ cells) = is_typed attr cell && are_typed attr cells

-- the text that shows cells
abbrev pub cells_text : List Cell → List ℕ
cells_text [] = []
cells_text (cell ∷ cells) = glyph_text cell.glyph ++ cells_text cells

-- the cells from one place up to another
abbrev pub cells_between : List Cell → ℕ → ℕ → List Cell
cells_between cells from to = take (to - from) (drop from cells)

-- a place is reached from another by text: at most five cells lie between, and both stand in one row
abbrev pub is_near : ℕ → ℕ → ℕ → Bool
is_near columns from at = nat_le from at && nat_le (at - from) 5 && not (from % columns == 0)
    && nat_lt (at - from) (columns - from % columns)

-- text that looks so goes on from a place up to a change: it is near, and the cells between and its own are
-- printable ASCII of this look
abbrev pub goes_on : ℕ → List Cell → Attr → ℕ → Change → Bool
goes_on columns cells attr from change =
    is_near columns from change.at && is_typed attr change.cell
    && are_typed attr (cells_between cells from change.at)

-- a change is placed; how it looks is said where that is another look than that of the text before
abbrev pub place_as : Attr → Change → Approach
place_as attr change = if is_same_attr attr change.cell.attr then Approaches.Move else Approaches.Turn attr

-- what has to stand before the text of a change, in a frame of these cells
abbrev pub approach_to : ℕ → List Cell → Pen → Change → Approach
approach_to columns cells Away change = Approaches.Place
approach_to columns cells (Behind last width attr) change =
    if is_here columns last width change.at then Approaches.Look attr else place_as attr change
approach_to columns cells (Typing last width attr) change =
    if goes_on columns cells attr (last + width) change then Approaches.Type (last + width)
    else if is_here columns last width change.at then Approaches.Look attr
    else place_as attr change

-- what stands there
abbrev pub lead : ℕ → List Cell → Approach → Change → List ℕ
lead columns cells Approaches.Place change =
    place (change.at / columns + 1) (change.at % columns + 1) ++ look change.cell.attr
lead columns cells (Approaches.Turn before) change =
    place (change.at / columns + 1) (change.at % columns + 1) ++ turn before change.cell.attr
lead columns cells Approaches.Move change = place (change.at / columns + 1) (change.at % columns + 1)
lead columns cells (Approaches.Look before) change = turn before change.cell.attr
lead columns cells (Approaches.Type from) change = cells_text (cells_between cells from change.at)

-- what draws a change
abbrev pub stroke : ℕ → List Cell → Pen → Change → List ℕ
stroke columns cells pen change =
    if is_right_half change.cell.glyph then []
    else lead columns cells (approach_to columns cells pen change) change ++ glyph_text change.cell.glyph

-- where the pen is behind a change
abbrev pub pen_after : Pen → Change → Pen
pen_after pen change =
    if is_right_half change.cell.glyph then pen
    else if is_printable (glyph_text change.cell.glyph)
    then Typing change.at (glyph_columns change.cell.glyph) change.cell.attr
    else Behind change.at (glyph_columns change.cell.glyph) change.cell.attr

-- what draws changes
abbrev pub drawing : ℕ → List Cell → Pen → List Change → List ℕ
drawing columns cells pen [] = []
drawing columns cells pen (change ∷ changes) =
    stroke columns cells pen change ++ drawing columns cells (pen_after pen change) changes

-- what draws the changes of a frame of these cells; one of no columns has none
abbrev pub drawn_bytes : ℕ → List Cell → List Change → List ℕ
drawn_bytes columns cells changes = if columns == 0 then [] else drawing columns cells Away changes

-- what a terminal makes of the bytes of a drawing
use Rattle.std.proofs.Common.{◌≡◌, ℕ, ◌+◌, ◌-◌, ◌*◌, ◌<◌, ◌≤◌, suc, Bool, true, false, ◌&&◌, ◌||◌, not, ◌==◌, nat_le, if◌then◌else◌, List, [], ◌∷◌, ◌++◌, length, take, replicate, Some, None, Result, Ok, Err, refl, sym, ◌∙◌, ap, subst, arith, append-nil, length-append, inl, inr, ◌⊎◌}
use Rattle.std.specs.List.{concat}
use Rattle.std.specs.Str.{is_utf8}
use Rattle.std.specs.Str.Lossy.{utf8_valid_len}
use Rattle.std.proofs.lemmas.Str.{IsUtf8-from_is_utf8}
use Rattle.std.proofs.lemmas.Bool.Decides.{nat_tests}
use Rattle.unicode_segmentation.proofs.Computing.{unicode_segmentation}
use Rattle.unicode_segmentation.proofs.SegmentsLemmas.{concat-segments}
use Rattle.unicode_segmentation.specs.Grapheme.{graphemes, is_grapheme_break}
use Rattle.key_screen.specs.declared.cells.Attr.{Attr}
use Rattle.key_screen.specs.declared.cells.Attr.TheVariants.{Plain, Bold, Reverse}
use Rattle.key_screen.specs.declared.cells.Cell.{Cell}
use Rattle.key_screen.specs.declared.cells.Glyph.{Glyph}
use Rattle.key_screen.specs.declared.cells.Glyph.TheVariants.{Blank, Cluster, RightHalf}
use Rattle.key_screen.specs.declared.control.Control.TheVariants.{Place}
use Rattle.key_screen.specs.declared.control.Sequence.{Sequence}
use Rattle.key_screen.specs.Cells.{blank_cell}
use Rattle.key_screen.specs.DrawnText.{cluster_columns, has_control, stands_alone, is_drawable, is_blank, drawn_glyph, glyph_columns, put_glyph}
use Rattle.key_screen.specs.KeySpelling.{is_within}
use Rattle.key_screen.specs.Layout.{IsDrawn}
use Rattle.key_screen.specs.Terminal.{TerminalState, with_cluster, clusters_read, text_read, up_to_fault, behind_control, behind_sequence, sequence_read, sequences_read, segments}
use Rattle.key_screen.proofs.DrawnGlyphs.{question_mark-drawable, blank-drawable, blank_columns}
use Rattle.screen_draw.specs.DrawnBytes.{clear, glyph_text, is_printable, look, turn, place}
use Rattle.screen_draw.proofs.EscapeLemmas.{HasNoEscape, segments-plain, first_segment, text-no_escape}
use Rattle.screen_draw.proofs.NumberLemmas.{placement, placement-no_escape, control_of-placement, drop_placement}
use Rattle.screen_draw.proofs.PrintableLemmas.{ArePrintable, first-typed}
use Rattle.screen_draw.proofs.TestLemmas.{and_left, and_right}

-- a terminal of this size, with these cells, place, room and look
abbrev pub state : ℕ → ℕ → List Cell → ℕ → ℕ → Attr → TerminalState
state lines columns cells at room mode = record { lines = lines; columns = columns; cells = cells; at = at; room = room; mode = mode }

-- bytes that are cut at their escapes, read from a position on
abbrev pub read_from : TerminalState → ℕ → List (List ℕ) → Result TerminalState ℕ
read_from t position [] = Ok t
read_from t position (text ∷ sequences) = sequences_read (text_read t position text) (position + length text) sequences

-- a terminal reads bytes, and is then so
abbrev pub Leads : TerminalState → List ℕ → TerminalState → Type 0
Leads t bytes new = (position : ℕ) → read_from t position (segments bytes) ≡ Ok new

-- no text
pub text_read-none : (t : TerminalState) (position : ℕ) → text_read t position [] ≡ Ok t
unfolding is_utf8 unicode_segmentation
text_read-none t position = refl

pub leads-nothing : (t : TerminalState) → Leads t [] t
leads-nothing t = λ position. text_read-none t position

-- a control, and what stands behind it
leads-escape : (t between new : TerminalState) (control rest : List ℕ) → HasNoEscape control
    → ((position : ℕ) (segment : List ℕ) → sequence_read t position (control ++ segment) ≡ text_read between (position + 1 + length control) segment)
    → Leads between rest new → Leads t (27 ∷ (control ++ rest)) new
leads-escape t between new control rest none obeys leads = λ position.
    let first = first_segment rest in
    let segment : List ℕ = first.0 in
    let more : List (List ℕ) = first.1 in
    let cut : segments (27 ∷ (control ++ rest)) ≡ [] ∷ (control ++ segment) ∷ more = ap (λ (s : List (List ℕ)). [] ∷ s) (segments-plain control rest segment more none first.2) in
    let next : position + 0 + 1 + length (control ++ segment) ≡ position + 0 + 1 + length control + length segment = omega (arith, length-append control segment) in
    ap (read_from t position) cut
    ∙ ap (λ told. sequences_read told (position + 0) ((control ++ segment) ∷ more)) (text_read-none t position)
    ∙ ap (λ told. sequences_read told (position + 0 + 1 + length (control ++ segment)) more) (obeys (position + 0) segment)
    ∙ ap (λ n. sequences_read (text_read between (position + 0 + 1 + length control) segment) n more) next
    ∙ ap (read_from between (position + 0 + 1 + length control)) (sym first.2)
    ∙ leads (position + 0 + 1 + length control)

-- a look
pub leads-look : (t new : TerminalState) (attr : Attr) (rest : List ℕ) → Leads (record t { mode = attr }) rest new → Leads t (look attr ++ rest) new
leads-look t new Plain rest leads =
    leads-escape t (record t { mode = Plain }) new (91 ∷ 48 ∷ 109 ∷ []) rest (refl, (refl, (refl, tt))) (λ position segment. refl) leads
leads-look t new Bold rest leads =
    leads-escape t (record t { mode = Plain }) new (91 ∷ 48 ∷ 109 ∷ []) (27 ∷ 91 ∷ 49 ∷ 109 ∷ rest) (refl, (refl, (refl, tt))) (λ position segment. refl)
    (leads-escape (record t { mode = Plain }) (record t { mode = Bold }) new (91 ∷ 49 ∷ 109 ∷ []) rest (refl, (refl, (refl, tt))) (λ position segment. refl) leads)
leads-look t new Reverse rest leads =
    leads-escape t (record t { mode = Plain }) new (91 ∷ 48 ∷ 109 ∷ []) (27 ∷ 91 ∷ 55 ∷ 109 ∷ rest) (refl, (refl, (refl, tt))) (λ position segment. refl)
    (leads-escape (record t { mode = Plain }) (record t { mode = Reverse }) new (91 ∷ 55 ∷ 109 ∷ []) rest (refl, (refl, (refl, tt))) (λ position segment. refl) leads)

-- the same behind text of another look
pub leads-turn : (t new : TerminalState) (before attr : Attr) (rest : List ℕ) → Leads (record t { mode = attr }) rest new → Leads (record t { mode = before }) (turn before attr ++ rest) new
leads-turn t new Plain Plain rest leads = leads-look (record t { mode = Plain }) new Plain rest leads
leads-turn t new Plain Bold rest leads =
    leads-escape (record t { mode = Plain }) (record t { mode = Bold }) new (91 ∷ 49 ∷ 109 ∷ []) rest (refl, (refl, (refl, tt))) (λ position segment. refl) leads
leads-turn t new Plain Reverse rest leads =
    leads-escape (record t { mode = Plain }) (record t { mode = Reverse }) new (91 ∷ 55 ∷ 109 ∷ []) rest (refl, (refl, (refl, tt))) (λ position segment. refl) leads
leads-turn t new Bold attr rest leads = leads-look (record t { mode = Bold }) new attr rest leads
leads-turn t new Reverse attr rest leads = leads-look (record t { mode = Reverse }) new attr rest leads

-- a terminal all of whose cells were made blank
abbrev pub cleared_terminal : TerminalState → TerminalState
cleared_terminal t = record t { cells = replicate (length t.cells) blank_cell }

pub leads-clear : (t : TerminalState) → Leads t clear (cleared_terminal t)
leads-clear t =
    leads-escape t (cleared_terminal t) (cleared_terminal t) (91 ∷ 50 ∷ 74 ∷ []) [] (refl, (refl, (refl, tt))) (λ position segment. refl)
    (leads-nothing (cleared_terminal t))

-- a terminal whose next cluster goes there
abbrev pub placed_at : TerminalState → ℕ → ℕ → TerminalState
placed_at t row column = record t { at = (row - 1) * t.columns + (column - 1); room = t.columns - (column - 1) }

pub leads-place : (t new : TerminalState) (row column : ℕ) (rest : List ℕ) → 1 ≤ row → row ≤ t.lines → 1 ≤ column → column ≤ t.columns → t.lines < 65536 → t.columns < 65536
    → Leads (placed_at t row column) rest new → Leads t (place row column ++ rest) new
leads-place t new row column rest first last left right small narrow leads =
    leads-escape t (placed_at t row column) new (placement row column) rest (placement-no_escape row column) obeys leads where
      obeys : (position : ℕ) (segment : List ℕ) → sequence_read t position (placement row column ++ segment)
          ≡ text_read (placed_at t row column) (position + 1 + length (placement row column)) segment
      obeys position segment =
          let within : (is_within 1 t.lines row && is_within 1 t.columns column) ≡ true = grind (arith, nat_tests) in
          let sequence : Sequence = record { control = Place row column; bytes = length (placement row column) } in
          ap (behind_sequence t position (placement row column ++ segment)) (control_of-placement row column segment (omega arith) (omega arith))
          ∙ ap (λ test. behind_control position (placement row column ++ segment) sequence (if test then Some (placed_at t row column) else None)) within
          ∙ ap (text_read (placed_at t row column) (position + 1 + length (placement row column))) (drop_placement row column segment)

-- one cluster
single : (xs : List (List ℕ)) (cluster : List ℕ) → (length xs == 1) ≡ true → concat xs ≡ cluster → xs ≡ cluster ∷ []
single [] cluster one is = absurd (cc)
single (x ∷ []) cluster one is = ap (λ c. c ∷ []) (sym (append-nil x) ∙ is)
single (x ∷ y ∷ xs) cluster one is = absurd (let e : suc (suc (length xs)) ≡ 1 = grind (arith, nat_tests) in omega arith)

drawable-alone : (cluster : List ℕ) → is_drawable cluster ≡ true → stands_alone cluster ≡ true
drawable-alone cluster is = and_right ((cluster_columns cluster == 1 || cluster_columns cluster == 2) && not (has_control cluster)) (stands_alone cluster) is

drawable-plain : (cluster : List ℕ) → is_drawable cluster ≡ true → has_control cluster ≡ false
drawable-plain cluster is = by_test (has_control cluster) (and_right (cluster_columns cluster == 1 || cluster_columns cluster == 2) (not (has_control cluster)) (and_left _ (stands_alone cluster) is)) where
  by_test : (test : Bool) → not test ≡ true → test ≡ false
  by_test true no_test = absurd (cc)
  by_test false is_false = refl

alone-utf8 : (cluster : List ℕ) → stands_alone cluster ≡ true → is_utf8 cluster ≡ true
unfolding stands_alone
alone-utf8 cluster is = and_left (is_utf8 cluster) (length (graphemes true cluster) == 1) is

alone-one : (cluster : List ℕ) → stands_alone cluster ≡ true → graphemes true cluster ≡ cluster ∷ []
unfolding stands_alone
alone-one cluster is =
    single (graphemes true cluster) cluster (and_right (is_utf8 cluster) (length (graphemes true cluster) == 1) is)
    (concat-segments (is_grapheme_break true) cluster (IsUtf8-from_is_utf8 cluster (and_left (is_utf8 cluster) (length (graphemes true cluster) == 1) is)))

pub drawable-no_escape : (cluster : List ℕ) → is_drawable cluster ≡ true → HasNoEscape cluster
drawable-no_escape cluster is = text-no_escape cluster (alone-utf8 cluster (drawable-alone cluster is)) (drawable-plain cluster is)

text_read-cluster : (t : TerminalState) (position : ℕ) (cluster : List ℕ) → is_drawable cluster ≡ true → cluster_columns cluster ≤ t.room → text_read t position cluster ≡ Ok (with_cluster t cluster)
text_read-cluster t position cluster drawable fits =
    let alone = drawable-alone cluster drawable in
    let room : nat_le (cluster_columns cluster) t.room ≡ true = grind (arith, nat_tests) in
    ap (λ test. if test then clusters_read t position (graphemes true cluster)
    else up_to_fault (clusters_read t position (graphemes true (take (utf8_valid_len cluster) cluster))) (position + utf8_valid_len cluster)) (alone-utf8 cluster alone)
    ∙ ap (clusters_read t position) (alone-one cluster alone)
    ∙ ap (λ test. if test && nat_le (cluster_columns cluster) t.room then Ok (with_cluster t cluster) else Err position) drawable
    ∙ ap (λ test. if test then Ok (with_cluster t cluster) else Err position) room

-- a text doesn't become one with the first text of what follows
abbrev pub AreApart : List ℕ → List (List ℕ) → Type 0
AreApart cluster [] = ⊥
AreApart cluster (segment ∷ more) = (segment ≡ []) ⊎ ((is_printable cluster ≡ true) × ArePrintable segment)

both_read : (t : TerminalState) (position : ℕ) (cluster segment : List ℕ) → is_drawable cluster ≡ true → cluster_columns cluster ≤ t.room
    → (segment ≡ []) ⊎ ((is_printable cluster ≡ true) × ArePrintable segment)
    → text_read t position (cluster ++ segment) ≡ text_read (with_cluster t cluster) (position + length cluster) segment
both_read t position cluster segment drawable fits (inl none) =
    ap (λ s. text_read t position (cluster ++ s)) none ∙ ap (text_read t position) (append-nil cluster)
    ∙ text_read-cluster t position cluster drawable fits
    ∙ sym (text_read-none (with_cluster t cluster) (position + length cluster)) ∙ ap (text_read (with_cluster t cluster) (position + length cluster)) (sym none)
both_read t position [] segment drawable fits (inr both) = absurd (let e = both.0 in cc)
both_read t position (byte ∷ []) segment drawable fits (inr both) = first-typed t position byte segment both drawable fits
both_read t position (byte ∷ other ∷ bytes) segment drawable fits (inr both) = absurd (let e = both.0 in cc)

-- a cluster, and what stands behind it
leads-cluster : (t new : TerminalState) (cluster rest : List ℕ) → is_drawable cluster ≡ true → cluster_columns cluster ≤ t.room → AreApart cluster (segments rest)
    → Leads (with_cluster t cluster) rest new → Leads t (cluster ++ rest) new
leads-cluster t new cluster rest drawable fits apart leads = λ position.
    let first = first_segment rest in
    let segment : List ℕ = first.0 in
    let more : List (List ℕ) = first.1 in
    let cut : segments (cluster ++ rest) ≡ (cluster ++ segment) ∷ more = segments-plain cluster rest segment more (drawable-no_escape cluster drawable) first.2 in
    let next : position + length (cluster ++ segment) ≡ position + length cluster + length segment = omega (arith, length-append cluster segment) in
    ap (read_from t position) cut
    ∙ ap (λ told. sequences_read told (position + length (cluster ++ segment)) more) (both_read t position cluster segment drawable fits (subst (AreApart cluster) first.2 apart))
    ∙ ap (λ n. sequences_read (text_read (with_cluster t cluster) (position + length cluster) segment) n more) next
    ∙ ap (read_from (with_cluster t cluster) (position + length cluster)) (sym first.2)
    ∙ leads (position + length cluster)

-- what is drawn as it is can be drawn
pub drawn-drawable : (cluster : List ℕ) → drawn_glyph cluster ≡ Cluster cluster → is_drawable cluster ≡ true
drawn-drawable cluster is = by_test (is_drawable cluster) refl where
  by_test : (test : Bool) → is_drawable cluster ≡ test → is_drawable cluster ≡ true
  by_test true drawable = drawable
  by_test false isnt =
      let mark : drawn_glyph cluster ≡ Cluster (63 ∷ []) = ap (λ test. if not test then Cluster (63 ∷ []) else if is_blank cluster then Blank else Cluster cluster) isnt in
      let same : 63 ∷ [] ≡ cluster = cc in
      subst (λ c. is_drawable c ≡ true) same question_mark-drawable

blank-drawn : drawn_glyph (32 ∷ []) ≡ Blank
blank-drawn = ap (λ test. if not test then Cluster (63 ∷ []) else if is_blank (32 ∷ []) then Blank else Cluster (32 ∷ [])) blank-drawable

pub text-no_escapes : (glyph : Glyph) → IsDrawn glyph → HasNoEscape (glyph_text glyph)
text-no_escapes Blank drawn = (refl, tt)
text-no_escapes (Cluster cluster) drawn = drawable-no_escape cluster (drawn-drawable cluster drawn)
text-no_escapes RightHalf drawn = absurd drawn

-- a terminal after a glyph
abbrev pub after_glyph : TerminalState → Glyph → TerminalState
after_glyph t glyph = record t { cells = put_glyph t.cells t.at glyph t.mode; at = t.at + glyph_columns glyph; room = t.room - glyph_columns glyph }

shown_as : (t : TerminalState) (cluster : List ℕ) (glyph : Glyph) → drawn_glyph cluster ≡ glyph → cluster_columns cluster ≡ glyph_columns glyph
    → after_glyph t glyph ≡ with_cluster t cluster
shown_as t cluster glyph is width = sym
    (ap (λ g. record t { cells = put_glyph t.cells t.at g t.mode; at = t.at + cluster_columns cluster; room = t.room - cluster_columns cluster }) is
    ∙ ap (λ n. record t { cells = put_glyph t.cells t.at glyph t.mode; at = t.at + n; room = t.room - n }) width)

-- a glyph, and what stands behind it
pub leads-glyph : (t new : TerminalState) (glyph : Glyph) (rest : List ℕ) → IsDrawn glyph → glyph_columns glyph ≤ t.room → AreApart (glyph_text glyph) (segments rest)
    → Leads (after_glyph t glyph) rest new → Leads t (glyph_text glyph ++ rest) new
leads-glyph t new Blank rest drawn fits apart leads =
    leads-cluster t new (32 ∷ []) rest blank-drawable (omega (arith, blank_columns)) apart
    (subst (λ (s : TerminalState). Leads s rest new) (shown_as t (32 ∷ []) Blank blank-drawn blank_columns) leads)
leads-glyph t new (Cluster cluster) rest drawn fits apart leads =
    leads-cluster t new cluster rest (drawn-drawable cluster drawn) fits apart
    (subst (λ (s : TerminalState). Leads s rest new) (shown_as t cluster (Cluster cluster) drawn refl) leads)
leads-glyph t new RightHalf rest drawn fits apart leads = absurd drawn

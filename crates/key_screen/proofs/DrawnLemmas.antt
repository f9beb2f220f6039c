-- glyphs are drawn one by one
use Rattle.std.proofs.Common.{◌≡◌, ℕ, ◌+◌, ◌-◌, ◌<◌, ◌≤◌, zero, suc, Bool, true, false, ◌&&◌, nat_lt, nat_le, if◌then◌else◌, List, [], ◌∷◌, ◌++◌, map, take, refl, sym, ◌∙◌, ap, arith, append_assoc}
use Rattle.std.proofs.lemmas.Bool.Decides.{nat_tests}
use Rattle.key_screen.specs.declared.cells.Glyph.{Glyph}
use Rattle.key_screen.specs.declared.cells.Attr.{Attr}
use Rattle.key_screen.specs.declared.cells.Cell.{Cell}
use Rattle.key_screen.specs.DrawnText.{drawn_glyph, glyph_columns, put_glyph, put_glyphs}

-- one more of the glyphs that are still to come, where there is room for it
pub take-one : (room : ℕ) (cluster : List ℕ) (left : List (List ℕ)) → 0 < room → take room (cluster ∷ left) ≡ cluster ∷ take (room - 1) left
take-one zero cluster left some = absurd (omega arith)
take-one (suc room) cluster left some = ap (λ n. cluster ∷ take n left) (let same : room ≡ suc room - 1 = omega arith in same)

-- a glyph is drawn, and the rest is still to come
pub drawn-step : (count done done' : ℕ) (glyphs glyphs' whole : List Glyph) (cluster : List ℕ) (before after : List (List ℕ)) (glyph : Glyph)
    → before ≡ cluster ∷ after → glyph ≡ drawn_glyph cluster → glyphs' ≡ glyphs ++ glyph ∷ [] → done < count → done' ≡ done + 1
    → glyphs ++ map drawn_glyph (take (count - done) before) ≡ whole
    → glyphs' ++ map drawn_glyph (take (count - done') after) ≡ whole
drawn-step count done done' glyphs glyphs' whole cluster before after glyph split same more room next so_far =
    let left : count - done - 1 ≡ count - done' = omega arith in
    let first : take (count - done) before ≡ cluster ∷ take (count - done') after =
    ap (take (count - done)) split ∙ take-one (count - done) cluster after (omega arith) ∙ ap (λ n. cluster ∷ take n after) left in
    ap (λ g. g ++ map drawn_glyph (take (count - done') after)) (more ∙ ap (λ g. glyphs ++ g ∷ []) same)
    ∙ append_assoc glyphs (drawn_glyph cluster ∷ []) (map drawn_glyph (take (count - done') after))
    ∙ ap (λ t. glyphs ++ map drawn_glyph t) (sym first) ∙ so_far

-- nothing has room in a row of no columns
no_room : (columns room : ℕ) (put cells : List Cell) → room ≤ 0 → cells ≡ (if nat_lt 0 columns && nat_le columns room then put else cells)
no_room columns room put cells none = grind (arith, nat_tests)

-- what has room leaves at least a column less
some_room : (columns room count : ℕ) (x y cells : List Cell) → room ≤ suc count → (room - columns ≤ count → x ≡ y)
    → (if nat_lt 0 columns && nat_le columns room then x else cells) ≡ (if nat_lt 0 columns && nat_le columns room then y else cells)
some_room columns room count x y cells short same = by_test (nat_lt 0 columns) refl where
  by_test : (test : Bool) → nat_lt 0 columns ≡ test
      → (if test && nat_le columns room then x else cells) ≡ (if test && nat_le columns room then y else cells)
  by_test false is = refl
  by_test true is = ap (λ put. if nat_le columns room then put else cells) (same (let some : 0 < columns = grind (arith, nat_tests) in omega arith))

-- the glyphs past the first `count` have no room in a row of that many columns or fewer
pub put_glyphs-take : (count : ℕ) (cells : List Cell) (at room : ℕ) (glyphs : List Glyph) (attr : Attr) → room ≤ count
    → put_glyphs cells at room (take count glyphs) attr ≡ put_glyphs cells at room glyphs attr
put_glyphs-take zero cells at room [] attr short = refl
put_glyphs-take (suc count) cells at room [] attr short = refl
put_glyphs-take zero cells at room (glyph ∷ glyphs) attr short =
    no_room (glyph_columns glyph) room (put_glyphs (put_glyph cells at glyph attr) (at + glyph_columns glyph) (room - glyph_columns glyph) glyphs attr) cells short
put_glyphs-take (suc count) cells at room (glyph ∷ glyphs) attr short =
    some_room (glyph_columns glyph) room count _ _ cells short
    (put_glyphs-take count (put_glyph cells at glyph attr) (at + glyph_columns glyph) (room - glyph_columns glyph) glyphs attr)

-- One row further, up or down, and one line further.
use Rattle.std.proofs.Common.{◌≡◌, ℕ, zero, suc, ◌+◌, ◌-◌, ◌≤◌, List, [], ◌∷◌, ◌++◌, length, drop, take, map, refl, sym, ap, ◌∙◌, arith, append_assoc}
use Rattle.std.proofs.lemmas.List.{append-nil, take_all}
use Rattle.mc_viewer.specs.Rows.{line_length, last_row_to, row_after, rows_down, rows_up, line_behind}
use Rattle.mc_viewer.proofs.LineLemmas.{line-ends_file}

module _ (left more : ℕ) (one_more : more ≡ suc left) where
  pub down-further : (rows : List ℕ) (row below : ℕ) → below ≡ row_after row rows → rows_down left rows below ≡ rows_down more rows row
  unfolding rows_down
  down-further rows row below is = ap (rows_down left rows) is ∙ ap (λ n. rows_down n rows row) (sym one_more)

  pub up-further : (rows : List ℕ) (row above : ℕ) → above ≡ last_row_to (row - 1) 0 rows → rows_up left rows above ≡ rows_up more rows row
  unfolding rows_up
  up-further rows row above is = ap (rows_up left rows) is ∙ ap (λ n. rows_up n rows row) (sym one_more)

  pub line-further : (bytes : List ℕ) (at end : ℕ) → end ≡ at + line_length (drop at bytes) → line_behind left bytes end ≡ line_behind more bytes at
  unfolding line_behind
  line-further bytes at end is = ap (line_behind left bytes) is ∙ ap (λ n. line_behind n bytes at) (sym one_more)

pub down-none : (rows : List ℕ) (row : ℕ) → rows_down 0 rows row ≡ row
unfolding rows_down
down-none rows row = refl

pub up-none : (rows : List ℕ) (row : ℕ) → rows_up 0 rows row ≡ row
unfolding rows_up
up-none rows row = refl

pub line-none : (bytes : List ℕ) (at : ℕ) → line_behind 0 bytes at ≡ at
unfolding line_behind
line-none bytes at = refl

-- behind the last line there is none
pub line-last : (lines : ℕ) (bytes : List ℕ) (at : ℕ) → length bytes ≤ at → line_behind lines bytes at ≡ at
unfolding line_behind
line-last zero bytes at past = refl
line-last (suc lines) bytes at past =
    ap (line_behind lines bytes) (line-ends_file bytes (length bytes) at refl past) ∙ line-last lines bytes at past

-- a row, and those behind it
pub rows-further : (shown : ℕ → List ℕ) (done : List (List ℕ)) (text : List ℕ) (row left more : ℕ) (rows rest : List ℕ) → more ≡ suc left
    → rows ≡ row ∷ rest → text ≡ shown row
    → (done ++ text ∷ []) ++ map shown (take left rest) ≡ done ++ map shown (take more rows)
rows-further shown done text row left more rows rest one_more rows_is text_is =
    append_assoc done (text ∷ []) (map shown (take left rest))
    ∙ ap (λ (t : List ℕ). done ++ (t ∷ map shown (take left rest))) text_is
    ∙ ap (λ l. done ++ map shown (take (suc left) l)) (sym rows_is)
    ∙ ap (λ n. done ++ map shown (take n rows)) (sym one_more)

-- no more rows are wanted
pub take-none : (shown : ℕ → List ℕ) (done : List (List ℕ)) (left : ℕ) (rows : List ℕ) → left ≡ 0 → done ≡ done ++ map shown (take left rows)
take-none shown done left rows none = sym (append-nil done) ∙ ap (λ n. done ++ map shown (take n rows)) (sym none)

-- no more rows are there
pub take-empty : (shown : ℕ → List ℕ) (done : List (List ℕ)) (left : ℕ) (rows : List ℕ) → rows ≡ [] → done ≡ done ++ map shown (take left rows)
take-empty shown done left rows none =
    let nothing : take left [] ≡ [] = take_all {A = ℕ} left [] (omega arith) in
    sym (append-nil done) ∙ ap (λ (l : List ℕ). done ++ map shown l) (sym nothing)
    ∙ ap (λ (l : List ℕ). done ++ map shown (take left l)) (sym none)

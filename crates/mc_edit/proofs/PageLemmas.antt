-- A page, line by line.
use Rattle.std.proofs.Common.{◌≡◌, ℕ, zero, suc, ◌+◌, ◌-◌, List, [], ◌∷◌, ◌++◌, length, refl, sym, ap, ◌∙◌, append_assoc}
use Rattle.std.proofs.lemmas.Bool.{cond-true, cond-false, eq-eqb, ne_eqb}
use Rattle.mc_edit.specs.Lines.{line_start, line_end}
use Rattle.mc_edit.specs.Pages.{row_at, rows_from, top_of, lines_above}

module _ (bytes : List ℕ) (at start : ℕ) (is_start : start ≡ line_start bytes at) where
  -- a line that isn't the first leads to the one above it
  module _ (left more : ℕ) (one_more : more ≡ suc left) (some : start ≡ 0 → ⊥) where
    not_first : line_start bytes at ≡ 0 → ⊥
    not_first zero_start = some (is_start ∙ zero_start)

    pub top_of-further : top_of bytes left (start - 1) ≡ top_of bytes more at
    top_of-further =
        ap (λ n. top_of bytes left (n - 1)) is_start ∙ sym (cond-false _ _ _ (ne_eqb _ _ not_first))
        ∙ ap (λ n. top_of bytes n at) (sym one_more)

    pub lines_above-further : lines_above bytes left (start - 1) + 1 ≡ lines_above bytes more at
    lines_above-further =
        ap (λ n. lines_above bytes left (n - 1) + 1) is_start ∙ sym (cond-false _ _ _ (ne_eqb _ _ not_first))
        ∙ ap (λ n. lines_above bytes n at) (sym one_more)

  -- the first line leads nowhere
  pub top_of-first : (lines : ℕ) → start ≡ 0 → top_of bytes lines at ≡ start
  top_of-first zero first = sym is_start
  top_of-first (suc lines) first = cond-true _ _ _ (eq-eqb _ _ (sym is_start ∙ first)) ∙ sym first

  pub lines_above-first : (lines : ℕ) → start ≡ 0 → lines_above bytes lines at ≡ 0
  lines_above-first zero first = refl
  lines_above-first (suc lines) first = cond-true _ _ _ (eq-eqb _ _ (sym is_start ∙ first))

module _ (bytes : List ℕ) (left right at end : ℕ) (is_end : end ≡ line_end bytes at) (rows : List (List ℕ)) (lines more : ℕ)
    (one_more : more ≡ suc lines) where
  -- a line gives its row, and leads to the next one
  pub rows_from-further : (row : List ℕ) → row ≡ row_at bytes left right at → (end ≡ length bytes → ⊥)
      → (rows ++ row ∷ []) ++ rows_from bytes left right lines (end + 1) ≡ rows ++ rows_from bytes left right more at
  rows_from-further row is_row some =
      let goes_on : line_end bytes at ≡ length bytes → ⊥ = λ (ends : line_end bytes at ≡ length bytes). some (is_end ∙ ends) in
      append_assoc rows (row ∷ []) (rows_from bytes left right lines (end + 1))
      ∙ ap (λ (l : List ℕ). rows ++ (l ∷ rows_from bytes left right lines (end + 1))) is_row
      ∙ ap (λ n. rows ++ (row_at bytes left right at ∷ rows_from bytes left right lines (n + 1))) is_end
      ∙ ap (λ l. rows ++ (row_at bytes left right at ∷ l)) (sym (cond-false _ _ _ (ne_eqb _ _ goes_on)))
      ∙ ap (λ n. rows ++ rows_from bytes left right n at) (sym one_more)

  -- the last line gives its row alone
  pub rows_from-last : (row : List ℕ) → row ≡ row_at bytes left right at → end ≡ length bytes
      → rows ++ row ∷ [] ≡ rows ++ rows_from bytes left right more at
  rows_from-last row is_row ends =
      ap (λ (l : List ℕ). rows ++ l ∷ []) is_row
      ∙ ap (λ l. rows ++ (row_at bytes left right at ∷ l)) (sym (cond-true _ _ _ (eq-eqb _ _ (sym is_end ∙ ends))))
      ∙ ap (λ n. rows ++ rows_from bytes left right n at) (sym one_more)

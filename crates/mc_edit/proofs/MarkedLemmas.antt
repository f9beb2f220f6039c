-- The columns that a block has in each line.
use Rattle.std.proofs.Common.{◌≡◌, ℕ, suc, ◌+◌, List, [], ◌∷◌, ◌++◌, length, sym, ap, ◌∙◌, append_assoc}
use Rattle.std.proofs.lemmas.Bool.{cond-true, cond-false, eq-eqb, ne_eqb}
use Rattle.mc_edit.specs.declared.marked.MarkedColumns.{MarkedColumns}
use Rattle.mc_edit.specs.Lines.{line_end}
use Rattle.mc_edit.specs.Marked.{marked_in_line, marked_lines}

module _ (bytes : List ℕ) (left right from to at end : ℕ) (is_end : end ≡ line_end bytes at) (marked : List MarkedColumns)
    (lines more : ℕ) (one_more : more ≡ suc lines) (here : MarkedColumns) (is_here : here ≡ marked_in_line bytes left right from to at) where
  -- a line has its columns, and leads to the next one
  pub marked_lines-further : (end ≡ length bytes → ⊥)
      → (marked ++ here ∷ []) ++ marked_lines bytes left right from to lines (end + 1) ≡ marked ++ marked_lines bytes left right from to more at
  marked_lines-further some =
      let goes_on : line_end bytes at ≡ length bytes → ⊥ = λ (ends : line_end bytes at ≡ length bytes). some (is_end ∙ ends) in
      append_assoc marked (here ∷ []) (marked_lines bytes left right from to lines (end + 1))
      ∙ ap (λ (m : MarkedColumns). marked ++ (m ∷ marked_lines bytes left right from to lines (end + 1))) is_here
      ∙ ap (λ n. marked ++ (marked_in_line bytes left right from to at ∷ marked_lines bytes left right from to lines (n + 1))) is_end
      ∙ ap (λ l. marked ++ (marked_in_line bytes left right from to at ∷ l)) (sym (cond-false _ _ _ (ne_eqb _ _ goes_on)))
      ∙ ap (λ n. marked ++ marked_lines bytes left right from to n at) (sym one_more)

  -- the last line has its columns alone
  pub marked_lines-last : end ≡ length bytes → marked ++ here ∷ [] ≡ marked ++ marked_lines bytes left right from to more at
  marked_lines-last ends =
      ap (λ (m : MarkedColumns). marked ++ m ∷ []) is_here
      ∙ ap (λ l. marked ++ (marked_in_line bytes left right from to at ∷ l)) (sym (cond-true _ _ _ (eq-eqb _ _ (sym is_end ∙ ends))))
      ∙ ap (λ n. marked ++ marked_lines bytes left right from to n at) (sym one_more)

-- three lines that are put behind each other
use Rattle.std.proofs.Common.{◌≡◌, ℕ, List, [], ◌∷◌, ◌++◌, ap, ◌∙◌}
use Rattle.key_screen.specs.declared.cells.Attr.TheVariants.{Plain}
use Rattle.mc_dialogs.specs.declared.frame.Line.{Line}

abbrev pub plain_line : List ℕ → Line
plain_line text = record { text = text; attr = Plain }

pub three_lines : (one two three : List ℕ) (first second third : Line) (none some more all : List Line)
    → none ≡ [] → some ≡ none ++ first ∷ [] → more ≡ some ++ second ∷ [] → all ≡ more ++ third ∷ []
    → first ≡ plain_line one → second ≡ plain_line two → third ≡ plain_line three
    → all ≡ plain_line one ∷ plain_line two ∷ plain_line three ∷ []
three_lines one two three first second third none some more all begun put_first put_second put_third is_first is_second is_third =
    put_third ∙ ap (λ l. l ++ third ∷ []) (put_second ∙ ap (λ l. l ++ second ∷ []) (put_first ∙ ap (λ l. l ++ first ∷ []) begun))
    ∙ ap (λ x. x ∷ second ∷ third ∷ []) is_first ∙ ap (λ x. plain_line one ∷ x ∷ third ∷ []) is_second ∙ ap (λ x. plain_line one ∷ plain_line two ∷ x ∷ []) is_third

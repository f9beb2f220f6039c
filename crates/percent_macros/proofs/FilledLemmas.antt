-- Plain text is filled in as it stands.
use Rattle.std.proofs.Common.{◌≡◌, ℕ, List, [], ◌∷◌, ◌++◌, map, refl, ap, ◌∙◌, sym, append_assoc}
use Rattle.percent_macros.specs.Commands.{CommandPart, Typed, Asked, prompts_in, filled_command}

pub filled-typed : (text : List ℕ) (parts : List CommandPart) (answers : List (List ℕ))
    → filled_command (map Typed text ++ parts) answers ≡ text ++ filled_command parts answers
filled-typed [] parts answers = refl
filled-typed (byte ∷ text) parts answers = ap (λ rest. byte ∷ rest) (filled-typed text parts answers)

pub prompts_in-typed : (text : List ℕ) (parts : List CommandPart) → prompts_in (map Typed text ++ parts) ≡ prompts_in parts
prompts_in-typed [] parts = refl
prompts_in-typed (byte ∷ text) parts = prompts_in-typed text parts

-- a piece of text, and a prompt with its answer, go over to the command
pub filled-plain : (command text : List ℕ) (left others : List CommandPart) (answers : List (List ℕ)) (whole : List ℕ)
    → left ≡ map Typed text ++ others → command ++ filled_command left answers ≡ whole → (command ++ text) ++ filled_command others answers ≡ whole
filled-plain command text left others answers whole is so_far =
    append_assoc command text (filled_command others answers)
    ∙ ap (λ rest. command ++ rest) (sym (ap (λ parts. filled_command parts answers) is ∙ filled-typed text others answers)) ∙ so_far

pub filled-answer : (command question answer : List ℕ) (left others : List CommandPart) (answers more : List (List ℕ)) (whole : List ℕ)
    → left ≡ Asked question ∷ others → answers ≡ answer ∷ more → command ++ filled_command left answers ≡ whole
    → (command ++ answer) ++ filled_command others more ≡ whole
filled-answer command question answer left others answers more whole is first so_far =
    append_assoc command answer (filled_command others more)
    ∙ ap (λ rest. command ++ rest) (sym (ap (λ parts. filled_command parts answers) is ∙ ap (filled_command (Asked question ∷ others)) first)) ∙ so_far

-- The entries of blocks, the oldest first, are those that stand newest first, from behind.
use Rattle.std.proofs.Common.{◌≡◌, List, [], ◌∷◌, ◌++◌, reverse, refl, ap, sym, ◌∙◌, append_assoc}
use Rattle.std.proofs.lemmas.List.{reverse-append, append-nil}
use Rattle.session_entries.specs.declared.history.Entry.{Entry}
use Rattle.session_packed.specs.Blocks.{BlockView, entries_of, entries_up}

entries_of-append : (blocks more : List BlockView) → entries_of (blocks ++ more) ≡ entries_of blocks ++ entries_of more
entries_of-append [] more = refl
entries_of-append (block ∷ blocks) more =
    ap (λ entries. block.newest ++ entries) (entries_of-append blocks more) ∙ sym (append_assoc block.newest (entries_of blocks) (entries_of more))

entries_up-reverse : (blocks : List BlockView) → reverse (entries_of (reverse blocks)) ≡ entries_up blocks
entries_up-reverse [] = refl
entries_up-reverse (block ∷ blocks) =
    ap (λ all. reverse (entries_of all)) (reverse-append (block ∷ []) blocks)
    ∙ (ap reverse (entries_of-append (reverse blocks) (block ∷ []))
    ∙ (reverse-append (entries_of (reverse blocks)) (block.newest ++ [])
    ∙ (ap (λ entries. reverse entries ++ reverse (entries_of (reverse blocks))) (append-nil block.newest)
    ∙ ap (λ entries. reverse block.newest ++ entries) (entries_up-reverse blocks))))

-- with those of the newest block, which stands alone
pub upwards : (older : List BlockView) (newest : List Entry) → reverse (newest ++ entries_of (reverse older)) ≡ entries_up older ++ reverse newest
upwards older newest =
    reverse-append newest (entries_of (reverse older)) ∙ ap (λ entries. entries ++ reverse newest) (entries_up-reverse older)

-- What is sorted are the names with their numbers, and these are the names.
use Rattle.std.proofs.Common.{ℕ, List, Contains, sym, subst}
use Rattle.host_tree.proofs.listing.in_order.Goals as goal

pub returns-clause-keeps : goal.returns-clause-keeps
returns-clause-keeps c = λ name h.
    subst (λ (names : List (List ℕ)). Contains names name) (sym c.in_ok-names.ensures)
    (c.sorted_once-sorted.ensures.keeps name
    (subst (λ (names : List (List ℕ)). Contains names name) (sym c.in_ok-ranked.ensures) h))

pub returns-clause-adds_none : goal.returns-clause-adds_none
returns-clause-adds_none c = λ name h.
    subst (λ (names : List (List ℕ)). Contains names name) c.in_ok-ranked.ensures
    (c.sorted_once-sorted.ensures.adds_none name
    (subst (λ (names : List (List ℕ)). Contains names name) c.in_ok-names.ensures h))

-- The closure compares as the wish does, whose order is one.
use Rattle.std.proofs.Common.{rules}
use Rattle.std.proofs.lemmas.List.Sorted.{ranks_by}
use Rattle.std.proofs.lemmas.Fn.{always_returns_same}
use Rattle.panel_listing.specs.Arranging.{item_in, comes_before}
use Rattle.panel_listing.proofs.OrderLemmas.{item_total}
use Rattle.panel_listing.proofs.arranging.sort_rows.Goals as goal

pub returns-clause-ordered : goal.returns-clause-ordered
returns-clause-ordered c =
    c.in_ok-sort_by.ensures.sorted (comes_before c.args.wish.now) (ranks_by (item_total c.args.wish.now) item_in)
    (always_returns_same _ _ _ (λ a r g k. (search rules, search rules)))

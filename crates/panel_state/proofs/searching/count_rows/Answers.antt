-- There is at most one row more than items.
use Rattle.std.proofs.Common.{length, ap, arith}
use Rattle.panel_state.proofs.ReadingLemmas.{rows_within}
use Rattle.panel_state.proofs.searching.count_rows.Goals as goal

pub returns-clause-bound : goal.returns-clause-bound
returns-clause-bound c =
    let most = rows_within c.args.wish.now c.args.listing.now c.requires in
    omega (arith, most, c.count_items.ensures.bound, ap length c.items.ensures)

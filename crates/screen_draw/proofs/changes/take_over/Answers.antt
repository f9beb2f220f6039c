-- one more change is in its place
use Rattle.screen_draw.specs.Changes.{with_changes}
use Rattle.screen_draw.proofs.CellLemmas.{taken-over}
use Rattle.screen_draw.proofs.changes.take_over.Goals as goal

pub loop-change-preserved : goal.loop-change-preserved
loop-change-preserved c =
    let taken = taken-over c.loop-change.cells c.put_change.new.cells c.in-Some.change c.loop-change.change-iterator.rest.items c.next.new.self.rest.items
    (with_changes c.args.cells.now c.args.changes.items) c.in-Some.ensures.steps.0 c.put_change.ensures c.loop-change.invariant.2 c.loop-change.invariant.3 in
    (tt, tt, taken.0, taken.1)

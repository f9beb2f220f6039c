-- the changes that are left, put from here on, give the whole
use Rattle.std.proofs.Common.{◌≡◌, All, length}
use Rattle.screen_draw.specs.Changes.{with_changes, IsWithin}
use Rattle.screen_draw.proofs.changes.take_over.Given as goal

abbrev pub invariant-loop-change : goal.invariant-loop-change
invariant-loop-change l =
    (goal.iterator-loop-change).can_next l.change-iterator ×
    (goal.iterator-loop-change).is_finite l.change-iterator ×
    All (IsWithin (length l.cells)) l.change-iterator.rest.items ×
    (with_changes l.cells l.change-iterator.rest.items ≡ with_changes l.fn.cells l.fn.changes.items)

-- What is left of a block and of those behind it is what was left.
use Rattle.std.proofs.Common.{◌≡◌, ◌+◌, ◌++◌, length, map, reverse}
use Rattle.session_packed.specs.Blocks.{entries_up}
use Rattle.session_packed.specs.Walks.{entry_in}
use Rattle.session_packed.proofs.walks.OldestFirst.next.Given as goal

abbrev pub invariant-loop-met : goal.invariant-loop-met
invariant-loop-met l =
    reverse (map entry_in l.self-inside.met.items) ++ (entries_up l.self-inside.newer.now ++ entries_up l.self-inside.newest.now) ≡ l.fn.self

abbrev pub decreases-loop-met : goal.decreases-loop-met
decreases-loop-met l = length l.self-inside.newer.now + length l.self-inside.newest.now

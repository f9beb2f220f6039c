-- What is left of this block and of those before it is what was left.
use Rattle.std.proofs.Common.{◌≡◌, ◌++◌, length, reverse}
use Rattle.session_packed.specs.Blocks.{entries_of}
use Rattle.session_packed.proofs.walks.NewestFirst.next.Given as goal

abbrev pub invariant-loop-met : goal.invariant-loop-met
invariant-loop-met l = l.self-inside.block ++ entries_of (reverse l.self-inside.older.now) ≡ l.fn.self

abbrev pub decreases-loop-met : goal.decreases-loop-met
decreases-loop-met l = length l.self-inside.older.now

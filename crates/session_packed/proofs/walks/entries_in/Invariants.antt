-- What was met, and what is left, is all.
use Rattle.std.proofs.Common.{◌≡◌, ◌++◌, length, map}
use Rattle.session_packed.specs.Walks.{entry_in}
use Rattle.session_packed.proofs.walks.entries_in.Given as goal

abbrev pub invariant-loop-all : goal.invariant-loop-all
invariant-loop-all l = map entry_in l.all.items ++ l.walk ≡ l.fn.block.newest

abbrev pub decreases-loop-all : goal.decreases-loop-all
decreases-loop-all l = length l.walk

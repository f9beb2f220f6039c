-- What is left is of the names, and where all that is left can be told, all can.
use Rattle.std.proofs.Common.{ℕ, List, length}
use Rattle.tree_trait.specs.CrashImages.{Among}
use Rattle.copy_tree.specs.Taking.{AreShort}
use Rattle.copy_tree.proofs.looking.children.Given as goal

abbrev pub invariant-loop-name : goal.invariant-loop-name
invariant-loop-name l = ((name : List ℕ) → Among l.rest name → Among l.fn.names name) × (AreShort l.pair l.rest → AreShort l.pair l.fn.names)

abbrev pub decreases-loop-name : goal.decreases-loop-name
decreases-loop-name l = length l.rest

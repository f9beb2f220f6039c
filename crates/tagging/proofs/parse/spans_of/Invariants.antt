use Rattle.std.proofs.Common.{◌≡◌, ◌++◌, length}
use Rattle.tagging.specs.GlobText.{spans_after}
use Rattle.tagging.proofs.parse.spans_of.Given as goal

abbrev pub invariant-loop-first : goal.invariant-loop-first
invariant-loop-first l = l.spans.items ++ spans_after 0 l.rest ≡ spans_after 0 l.marks

abbrev pub decreases-loop-first : goal.decreases-loop-first
decreases-loop-first l = length l.rest

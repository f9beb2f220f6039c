-- The blocks that were passed are counted.
use Rattle.std.proofs.Common.{◌≡◌, ◌*◌, ◌≤◌, length, take}
use Rattle.gap_text.specs.LineCounts.{newlines, seen_from, AreCounts}
use Rattle.gap_text.proofs.line_counts.count_on.Given as goal

abbrev pub invariant-loop-block : goal.invariant-loop-block
invariant-loop-block l =
    AreCounts l.counts.items (seen_from l.side l.half)
    × (length l.counts.items ≡ l.block)
    × (l.all ≡ newlines (take (65536 * l.block) (seen_from l.side l.half)))
    × (l.all ≤ 65536 * l.block)

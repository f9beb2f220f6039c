-- What was passed isn't above the limit.
use Rattle.std.proofs.Common.{◌<◌, ◌≤◌, IfSome, length, slice_index}
use Rattle.gap_text.proofs.line_counts.last_within.Given as goal

abbrev pub invariant-loop-at : goal.invariant-loop-at
invariant-loop-at l = IfSome l.last (λ at. (at < length l.counts) × (slice_index l.counts at ≤ l.most))

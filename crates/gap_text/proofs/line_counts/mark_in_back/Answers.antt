-- What stands behind a counted block's start is counted, and so is all.
use Rattle.std.proofs.Common.{arith}
use Rattle.gap_text.proofs.LineCountLemmas.{back-mark}
use Rattle.gap_text.proofs.line_counts.mark_in_back.Goals as goal

pub overflow_sub-result-in-Some : goal.overflow_sub-result-in-Some
overflow_sub-result-in-Some c =
    omega (arith, c.requires.all, back-mark c.args.counts.now c.args.back.now c.requires.counts c.in-Some.at c.in-Some.ensures.within)

pub returns-in-Some-clause-counted : goal.returns-in-Some-clause-counted
returns-in-Some-clause-counted c =
    omega (arith, c.requires.all, back-mark c.args.counts.now c.args.back.now c.requires.counts c.in-Some.at c.in-Some.ensures.within)

-- The first newline ends the line.
use Rattle.std.proofs.Common.{sym, arith}
use Rattle.mc_viewer.proofs.LineLemmas.{line_length-at, line_length-none}
use Rattle.mc_viewer.proofs.rows.line_length.Goals as goal

pub returns-in-Some-clause-value : goal.returns-in-Some-clause-value
returns-in-Some-clause-value c =
    sym (line_length-at c.args.bytes.now c.in-Some.newline c.in-Some.ensures.0.high
    (λ k low. c.in-Some.ensures.0.before k (omega arith) low) c.in-Some.ensures.1)

pub returns-in-None-clause-value : goal.returns-in-None-clause-value
returns-in-None-clause-value c =
    sym (line_length-none c.args.bytes.now (λ k low. c.in-None.ensures k (omega arith) low))

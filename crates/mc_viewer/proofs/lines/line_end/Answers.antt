-- The line goes on over a piece without a newline, and ends at the first newline.
use Rattle.std.proofs.Common.{ap, sym, ◌∙◌, arith}
use Rattle.mc_viewer.specs.Viewing.{held_bytes}
use Rattle.mc_viewer.proofs.LineLemmas.{line-goes_on, line-ends_at, line-ends_file}
use Rattle.mc_viewer.proofs.lines.line_end.Goals as goal

pub returns-in-Some-clause-shown : goal.returns-in-Some-clause-shown
returns-in-Some-clause-shown g c = λ bytes known size_is.
    let still = ap (λ t. held_bytes t c.args.subject.now) c.loop-end.invariant.same ∙ known in
    line-ends_at bytes c.as_slice.result.now c.args.size 4096 c.loop-end.end (c.as_slice.ensures.value ∙ c.in_ok-piece.ensures.shown bytes still) size_is
    c.loop-end-test.true c.in-Some.newline c.min.result (omega (arith, c.min.ensures)) c.in-Some.ensures.0.high
    (λ k low here. c.in-Some.ensures.0.before k (omega arith) low here) c.in-Some.ensures.1
    ∙ c.loop-end.invariant.line bytes known size_is

pub loop-end-preserved : goal.loop-end-preserved
loop-end-preserved g c = record {
  same = c.in_ok-piece.ensures.same ∙ c.loop-end.invariant.same;
  apart = λ out. c.in_ok-piece.ensures.apart out ∙ c.loop-end.invariant.apart out;
  later = omega (arith, c.in_ok-piece.ensures.cause.later, c.loop-end.invariant.later);
  from = omega (arith, c.min-end.ensures, c.loop-end.invariant.from, c.requires.inside);
  within = omega (arith, c.min-end.ensures);
  line = λ bytes known size_is.
      let still = ap (λ t. held_bytes t c.args.subject.now) c.loop-end.invariant.same ∙ known in
      sym (line-goes_on bytes c.as_slice.result.now c.args.size 4096 c.loop-end.end (c.as_slice.ensures.value ∙ c.in_ok-piece.ensures.shown bytes still) size_is
      c.loop-end-test.true c.min-end.result (omega (arith, c.min-end.ensures, c.len-in-loop-end.ensures, c.as_slice.ensures.len))
      (λ k low here. c.in_default.ensures k (omega arith) low here))
      ∙ c.loop-end.invariant.line bytes known size_is;
}

pub returns-clause-shown : goal.returns-clause-shown
returns-clause-shown g c = λ bytes known size_is.
    sym (line-ends_file bytes c.args.size c.loop-end.end size_is c.loop-end-test.false) ∙ c.loop-end.invariant.line bytes known size_is

-- The row that ends behind the byte holds it.
use Rattle.std.proofs.Common.{inl, inr, ap, sym, ◌∙◌, arith}
use Rattle.mc_viewer.specs.Viewing.{held_bytes}
use Rattle.mc_viewer.proofs.StartLemmas.{IsRow-next, holding-at}
use Rattle.mc_viewer.proofs.walking.walk.Goals as goal

pub returns-then-end-byte-clause-shown : goal.returns-then-end-byte-clause-shown
returns-then-end-byte-clause-shown g c = λ bytes known size_is first.
    let still = ap (λ t. held_bytes t c.args.subject.now) c.loop-end.invariant.same ∙ known in
    sym (holding-at c.args.layout.shape c.args.layout.columns bytes c.loop-end.row c.in_ok-end.end (c.loop-end.invariant.here bytes known size_is first)
    (omega (arith, c.loop-end.invariant.inside)) (c.in_ok-end.ensures.shown bytes still size_is) c.args.byte c.loop-end.invariant.before (inl (omega arith)))

pub returns-then-end-size-clause-shown : goal.returns-then-end-size-clause-shown
returns-then-end-size-clause-shown g c = λ bytes known size_is first.
    let still = ap (λ t. held_bytes t c.args.subject.now) c.loop-end.invariant.same ∙ known in
    sym (holding-at c.args.layout.shape c.args.layout.columns bytes c.loop-end.row c.in_ok-end.end (c.loop-end.invariant.here bytes known size_is first)
    (omega (arith, c.loop-end.invariant.inside)) (c.in_ok-end.ensures.shown bytes still size_is) c.args.byte c.loop-end.invariant.before (inr (omega arith)))

pub loop-end-preserved : goal.loop-end-preserved
loop-end-preserved g c = record {
  same = c.in_ok-end.ensures.same ∙ c.loop-end.invariant.same;
  apart = λ out. c.in_ok-end.ensures.apart out ∙ c.loop-end.invariant.apart out;
  later = omega (arith, c.in_ok-end.ensures.cause.later, c.loop-end.invariant.later);
  inside = omega (arith, c.in_ok-end.ensures.within);
  before = omega arith;
  here = λ bytes known size_is first.
      let still = ap (λ t. held_bytes t c.args.subject.now) c.loop-end.invariant.same ∙ known in
      IsRow-next c.args.layout.shape c.args.layout.columns bytes c.loop-end.row c.in_ok-end.end (c.loop-end.invariant.here bytes known size_is first)
      (omega (arith, c.loop-end.invariant.inside)) (c.in_ok-end.ensures.shown bytes still size_is);
}

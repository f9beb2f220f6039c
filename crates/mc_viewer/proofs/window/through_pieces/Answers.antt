-- A piece shows the first place, or that none begins at its places.
use Rattle.std.proofs.Common.{◌+◌, ◌≤◌, length, ap, sym, ◌∙◌, arith}
use Rattle.mc_viewer.specs.Viewing.{held_bytes}
use Rattle.mc_viewer.proofs.PlaceLemmas.{sought-found, sought-further, sought-end}
use Rattle.mc_viewer.proofs.window.through_pieces.Goals as goal

pub returns-in-Some-clause-shown : goal.returns-in-Some-clause-shown
returns-in-Some-clause-shown g c = λ bytes known size_is.
    let still = ap (λ t. held_bytes t c.args.subject.now) c.loop-at.invariant.same ∙ known in
    let some : 1 ≤ length c.args.finder.now = omega (arith, c.requires.some, c.requires.width) in
    sym (sought-found c.args.finder.now some bytes c.as_slice.result.now c.loop-at.at (65536 + c.args.width)
    (c.as_slice.ensures.value ∙ c.in_ok-piece.ensures.shown bytes still) c.in-Some.place c.in-Some.ensures.first)
    ∙ c.loop-at.invariant.left bytes known size_is

pub loop-at-preserved : goal.loop-at-preserved
loop-at-preserved g c = record {
  same = c.in_ok-piece.ensures.same ∙ c.loop-at.invariant.same;
  apart = λ out. c.in_ok-piece.ensures.apart out ∙ c.loop-at.invariant.apart out;
  later = omega (arith, c.in_ok-piece.ensures.cause.later, c.loop-at.invariant.later);
  left = λ bytes known size_is.
      let still = ap (λ t. held_bytes t c.args.subject.now) c.loop-at.invariant.same ∙ known in
      let some : 1 ≤ length c.args.finder.now = omega (arith, c.requires.some, c.requires.width) in
      sym (sought-further c.args.finder.now some bytes c.as_slice.result.now c.loop-at.at (65536 + c.args.width)
      (c.as_slice.ensures.value ∙ c.in_ok-piece.ensures.shown bytes still) 65536 (omega (arith, c.requires.width)) c.in_default.ensures.first)
      ∙ c.loop-at.invariant.left bytes known size_is;
}

pub returns-clause-shown : goal.returns-clause-shown
returns-clause-shown g c = λ bytes known size_is.
    let some : 1 ≤ length c.args.finder.now = omega (arith, c.requires.some, c.requires.width) in
    sym (sought-end c.args.finder.now some c.loop-at.at c.args.size bytes size_is c.loop-at-test.false) ∙ c.loop-at.invariant.left bytes known size_is

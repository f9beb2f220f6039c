-- The lines that are passed in a piece lead further.
use Rattle.std.proofs.Common.{◌≡◌, ◌+◌, length, drop, ap, sym, ◌∙◌, arith, length-take, length-drop}
use Rattle.mc_viewer.specs.Viewing.{held_bytes}
use Rattle.mc_viewer.specs.Rows.{line_behind}
use Rattle.mc_viewer.proofs.StepLemmas.{line-none, line-last}
use Rattle.mc_viewer.proofs.lines.line_behind.Goals as goal

pub loop-start-preserved : goal.loop-start-preserved
loop-start-preserved g c = record {
  same = c.in_ok-piece.ensures.same ∙ c.loop-start.invariant.same;
  apart = λ out. c.in_ok-piece.ensures.apart out ∙ c.loop-start.invariant.apart out;
  later = omega (arith, c.in_ok-piece.ensures.cause.later, c.loop-start.invariant.later);
  within = omega (arith, c.min-start.ensures);
  way = λ bytes known size_is.
      let start = c.loop-start.start in
      let passed = c.pass_lines-passed.result in
      let still = ap (λ t. held_bytes t c.args.subject.now) c.loop-start.invariant.same ∙ known in
      let shown = c.as_slice.ensures.value ∙ c.in_ok-piece.ensures.shown bytes still in
      let there : c.min-start.result ≡ start + passed.bytes = omega (
        arith,
        c.min-start.ensures,
        c.pass_lines-passed.ensures.within,
        ap length shown,
        length-take 65536 (drop start bytes),
        length-drop start bytes,
        size_is,
        c.loop-start-test.true,
      ) in
      ap (line_behind passed.left bytes) there ∙ sym (c.pass_lines-passed.ensures.way bytes 65536 start shown)
      ∙ c.loop-start.invariant.way bytes known size_is;
}

pub returns-then-left-eq0-clause-shown : goal.returns-then-left-eq0-clause-shown
returns-then-left-eq0-clause-shown g c = λ bytes known size_is.
    sym (line-none bytes c.loop-start.start) ∙ ap (λ n. line_behind n bytes c.loop-start.start) (sym c.if-left-eq0.true)
    ∙ c.loop-start.invariant.way bytes known size_is

pub returns-clause-shown : goal.returns-clause-shown
returns-clause-shown g c = λ bytes known size_is.
    sym (line-last c.loop-start.left bytes c.loop-start.start (omega arith)) ∙ c.loop-start.invariant.way bytes known size_is

pub returns-then-len-eq0-clause-shown : goal.returns-then-len-eq0-clause-shown
returns-then-len-eq0-clause-shown g c = λ bytes known size_is.
    let still = ap (λ t. held_bytes t c.args.subject.now) c.loop-start.invariant.same ∙ known in
    absurd (omega (
      arith,
      c.if-len-eq0.true,
      c.len.ensures,
      ap length (c.in_ok-piece.ensures.shown bytes still),
      length-take 65536 (drop c.loop-start.start bytes),
      length-drop c.loop-start.start bytes,
      c.loop-start-test.true,
      size_is,
    ))

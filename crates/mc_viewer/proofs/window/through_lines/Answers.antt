-- A part says what its lines come to.
use Rattle.std.proofs.Common.{◌≡◌, [], length, drop, ap, sym, ◌∙◌, arith, length-take, length-drop}
use Rattle.std.proofs.lemmas.Bool.{eqb-true}
use Rattle.std.proofs.lemmas.List.{drop_all}
use Rattle.text_search.specs.Lines.{in_lines}
use Rattle.text_search.proofs.LineLemmas.{in_lines-past}
use Rattle.mc_viewer.specs.Viewing.{held_bytes}
use Rattle.mc_viewer.proofs.SeekLemmas.{lines-further}
use Rattle.mc_viewer.proofs.window.through_lines.Goals as goal

pub returns-in-Found-clause-shown : goal.returns-in-Found-clause-shown
returns-in-Found-clause-shown g c = λ bytes known size_is.
    let still = ap (λ t. held_bytes t c.args.subject.now) c.loop-at.invariant.same ∙ known in
    let rest = drop c.loop-at.at bytes in
    sym (c.in-Found.ensures.answer c.loop-at.at rest (c.as_slice-lines.ensures.value ∙ c.in_ok-part.ensures.shown bytes still))
    ∙ ap (λ m. in_lines m c.loop-at.at 0 rest) c.loop-at.invariant.keeps
    ∙ c.loop-at.invariant.left bytes known size_is

pub returns-in-TooLong-clause-shown : goal.returns-in-TooLong-clause-shown
returns-in-TooLong-clause-shown g c = λ bytes known size_is.
    let still = ap (λ t. held_bytes t c.args.subject.now) c.loop-at.invariant.same ∙ known in
    let rest = drop c.loop-at.at bytes in
    sym (c.in-TooLong.ensures.answer c.loop-at.at rest (c.as_slice-lines.ensures.value ∙ c.in_ok-part.ensures.shown bytes still))
    ∙ ap (λ m. in_lines m c.loop-at.at 0 rest) c.loop-at.invariant.keeps
    ∙ c.loop-at.invariant.left bytes known size_is

pub loop-at-preserved : goal.loop-at-preserved
loop-at-preserved g c = record {
  same = c.in_ok-part.ensures.same ∙ c.loop-at.invariant.same;
  apart = λ out. c.in_ok-part.ensures.apart out ∙ c.loop-at.invariant.apart out;
  later = omega (arith, c.in_ok-part.ensures.cause.later, c.loop-at.invariant.later);
  keeps = c.in-Passed.ensures.same ∙ c.loop-at.invariant.keeps;
  left = λ bytes known size_is.
      let still = ap (λ t. held_bytes t c.args.subject.now) c.loop-at.invariant.same ∙ known in
      lines-further c.args.matcher.now c.loop-at.matcher bytes c.loop-at.at c.in-Passed.count c.args.from c.loop-at.invariant.keeps
      (c.in-Passed.ensures.answer c.loop-at.at (drop c.loop-at.at bytes) (c.as_slice-lines.ensures.value ∙ c.in_ok-part.ensures.shown bytes still))
      (c.loop-at.invariant.left bytes known size_is);
}

pub returns-clause-shown : goal.returns-clause-shown
returns-clause-shown g c = λ bytes known size_is.
    sym (in_lines-past c.args.matcher.now c.loop-at.at (drop c.loop-at.at bytes) (drop_all c.loop-at.at bytes (omega (arith, size_is, c.loop-at-test.false))))
    ∙ c.loop-at.invariant.left bytes known size_is

pub returns-then-is_empty-clause-shown : goal.returns-then-is_empty-clause-shown
returns-then-is_empty-clause-shown g c = λ bytes known size_is.
    let still = ap (λ t. held_bytes t c.args.subject.now) c.loop-at.invariant.same ∙ known in
    let shown = c.as_slice-lines.ensures.value ∙ c.in_ok-part.ensures.shown bytes still in
    let none : length c.as_slice-lines.result.now ≡ 0 = eqb-true (length c.as_slice-lines.result.now) 0 (sym c.is_empty.ensures ∙ c.if-is_empty.true) in
    let past : drop c.loop-at.at bytes ≡ [] = drop_all c.loop-at.at bytes (omega (arith, none, ap length shown, length-take 1048577 (drop c.loop-at.at bytes), length-drop c.loop-at.at bytes)) in
    sym (in_lines-past c.args.matcher.now c.loop-at.at (drop c.loop-at.at bytes) past) ∙ c.loop-at.invariant.left bytes known size_is

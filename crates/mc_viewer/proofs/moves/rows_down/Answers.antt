-- One row further.
use Rattle.std.proofs.Common.{◌≡◌, ◌+◌, ◌-◌, suc, ap, sym, ◌∙◌, arith}
use Rattle.mc_viewer.specs.Viewing.{held_bytes}
use Rattle.mc_viewer.specs.Rows.{all_rows, rows_down}
use Rattle.mc_viewer.proofs.StepLemmas.{down-further, down-none}
use Rattle.mc_viewer.proofs.moves.rows_down.Goals as goal

pub loop-preserved : goal.loop-preserved
loop-preserved g c = record {
  same = c.in_ok-row.ensures.same ∙ c.loop.invariant.same;
  apart = λ out. c.in_ok-row.ensures.apart out ∙ c.loop.invariant.apart out;
  later = omega (arith, c.in_ok-row.ensures.cause.later, c.loop.invariant.later);
  inside = c.in_ok-row.ensures.within;
  here = λ bytes known size_is first.
      c.in_ok-row.ensures.row bytes (ap (λ t. held_bytes t c.args.subject.now) c.loop.invariant.same ∙ known) size_is (c.loop.invariant.here bytes known size_is first);
  way = λ bytes known size_is first.
      let rows = all_rows c.args.layout.shape c.args.layout.columns bytes in
      let left = c.args.count - (c.loop.counter + 1) in
      let more = c.args.count - c.loop.counter in
      let one_more : more ≡ suc left = omega arith in
      down-further left more one_more rows c.loop.row c.in_ok-row.row
      (c.in_ok-row.ensures.shown bytes (ap (λ t. held_bytes t c.args.subject.now) c.loop.invariant.same ∙ known) size_is (c.loop.invariant.here bytes known size_is first))
      ∙ c.loop.invariant.way bytes known size_is first;
}

pub returns-clause-shown : goal.returns-clause-shown
returns-clause-shown g c = λ bytes known size_is first.
    let rows = all_rows c.args.layout.shape c.args.layout.columns bytes in
    let none : c.args.count - c.loop.counter ≡ 0 = omega arith in
    sym (down-none rows c.loop.row) ∙ ap (λ n. rows_down n rows c.loop.row) (sym none) ∙ c.loop.invariant.way bytes known size_is first

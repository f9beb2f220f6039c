-- One row further.
use Rattle.std.proofs.Common.{◌≡◌, ◌+◌, ◌-◌, suc, ap, sym, ◌∙◌, arith}
use Rattle.mc_viewer.specs.Viewing.{held_bytes}
use Rattle.mc_viewer.specs.Rows.{all_rows, rows_up}
use Rattle.mc_viewer.proofs.StepLemmas.{up-further, up-none}
use Rattle.mc_viewer.proofs.moves.rows_up.Goals as goal

pub loop-preserved : goal.loop-preserved
loop-preserved g c = record {
  same = c.in_ok-row.ensures.same ∙ c.loop.invariant.same;
  apart = λ out. c.in_ok-row.ensures.apart out ∙ c.loop.invariant.apart out;
  later = omega (arith, c.in_ok-row.ensures.cause.later, c.loop.invariant.later);
  kept = c.in_ok-row.ensures.kept;
  way = λ bytes known size_is.
      let rows = all_rows c.args.layout.shape c.args.layout.columns bytes in
      let left = c.args.count - (c.loop.counter + 1) in
      let more = c.args.count - c.loop.counter in
      let one_more : more ≡ suc left = omega arith in
      let still = ap (λ t. held_bytes t c.args.subject.now) c.loop.invariant.same ∙ known in
      up-further left more one_more rows c.loop.row c.in_ok-row.row (c.in_ok-row.ensures.shown bytes still size_is)
      ∙ c.loop.invariant.way bytes known size_is;
}

pub returns-clause-shown : goal.returns-clause-shown
returns-clause-shown g c = λ bytes known size_is.
    let rows = all_rows c.args.layout.shape c.args.layout.columns bytes in
    let none : c.args.count - c.loop.counter ≡ 0 = omega arith in
    sym (up-none rows c.loop.row) ∙ ap (λ n. rows_up n rows c.loop.row) (sym none) ∙ c.loop.invariant.way bytes known size_is

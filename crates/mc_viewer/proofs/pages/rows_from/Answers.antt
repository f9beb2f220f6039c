-- Each row, and those behind it.
use Rattle.std.proofs.Common.{◌≡◌, ℕ, List, suc, ◌-◌, ◌<◌, ◌++◌, map, take, drop, length, ap, ◌∙◌, arith}
use Rattle.mc_viewer.specs.Viewing.{held_bytes}
use Rattle.mc_viewer.specs.Rows.{row_starts}
use Rattle.mc_viewer.specs.Pages.{shown_row}
use Rattle.mc_viewer.proofs.StartLemmas.{split-at, starts-end}
use Rattle.mc_viewer.proofs.StepLemmas.{rows-further, take-none, take-empty}
use Rattle.mc_viewer.proofs.pages.rows_from.Goals as goal

pub loop-row-preserved : goal.loop-row-preserved
loop-row-preserved g c = record {
  same = c.in_ok-seen.ensures.same ∙ c.loop-row.invariant.same;
  apart = λ out. c.in_ok-seen.ensures.apart out ∙ c.loop-row.invariant.apart out;
  later = omega (arith, c.in_ok-seen.ensures.cause.later, c.loop-row.invariant.later);
  kept = c.in_ok-seen.ensures.kept;
  all = λ bytes known size_is.
      let still = ap (λ t. held_bytes t c.args.subject.now) c.loop-row.invariant.same ∙ known in
      let shape = c.args.layout.shape in
      let columns = c.args.layout.columns in
      let shown = shown_row c.args.layout bytes in
      let row = c.loop-row.row in
      let end = c.in_ok-seen.seen.end in
      let left = c.loop-row.left - 1 in
      let one_more : c.loop-row.left ≡ suc left = omega arith in
      let inside : row < length bytes = omega arith in
      let text_is = c.in_ok-seen.ensures.text bytes still size_is in
      let end_is = c.in_ok-seen.ensures.end bytes still size_is in
      let behind = row_starts shape columns end 0 (drop end bytes) in
      ap (λ (rows : List (List ℕ)). rows ++ map shown (take left behind)) c.in_ok-push.ensures.done
      ∙ rows-further shown c.loop-row.rows c.in_ok-seen.seen.text row left c.loop-row.left (row_starts shape columns row 0 (drop row bytes)) behind one_more
      (split-at shape columns bytes row end inside end_is) text_is
      ∙ c.loop-row.invariant.all bytes known size_is;
}

pub returns-then-left-eq0-clause-shown : goal.returns-then-left-eq0-clause-shown
returns-then-left-eq0-clause-shown g c = λ bytes known size_is.
    let starts = row_starts c.args.layout.shape c.args.layout.columns c.loop-row.row 0 (drop c.loop-row.row bytes) in
    take-none (shown_row c.args.layout bytes) c.loop-row.rows c.loop-row.left starts c.if-left-eq0.true
    ∙ c.loop-row.invariant.all bytes known size_is

pub returns-clause-shown : goal.returns-clause-shown
returns-clause-shown g c = λ bytes known size_is.
    let starts = row_starts c.args.layout.shape c.args.layout.columns c.loop-row.row 0 (drop c.loop-row.row bytes) in
    take-empty (shown_row c.args.layout bytes) c.loop-row.rows c.loop-row.left starts
    (starts-end c.args.layout.shape c.args.layout.columns c.loop-row.row bytes (omega arith))
    ∙ c.loop-row.invariant.all bytes known size_is

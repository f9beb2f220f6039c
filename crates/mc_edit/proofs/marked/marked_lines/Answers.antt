-- Each line gives its columns.
use Rattle.std.proofs.Common.{◌≡◌, ◌+◌, ◌-◌, ◌≤◌, ◌++◌, ℕ, List, Vec, Global, suc, ap, sym, ◌∙◌, arith, length}
use Rattle.std.proofs.lemmas.List.{append-nil}
use Rattle.mc_edit.specs.declared.marked.MarkedColumns.{MarkedColumns}
use Rattle.mc_edit.specs.Marked.{marked_lines}
use Rattle.mc_edit.proofs.MarkedLemmas.{marked_lines-further, marked_lines-last}
use Rattle.mc_edit.proofs.marked.marked_lines.Goals as goal
use Rattle.mc_edit.proofs.marked.marked_lines.Goals.{else-loop-test, then-loop-test+in_ok-marked_in_line+in_ok-push+then-end-len}

pub loop-preserved : goal.loop-preserved
loop-preserved c =
    let bytes = c.args.text.now.bytes in
    let left = c.args.sight.left in
    let right = c.args.sight.right in
    let from = c.args.span.start in
    let to = c.args.span.end in
    let lines = c.args.lines - (c.loop.counter + 1) in
    let end = c.line_end-end.result in
    let one_more : c.args.lines - c.loop.counter ≡ suc lines = omega arith in
    let some = λ (ends : end ≡ length bytes). c.if-end-len.false (ends ∙ sym c.len.ensures.value) in
    let within : end + 1 ≤ length bytes = omega (arith, c.line_end-end.ensures.high, c.if-end-len.false, c.len.ensures.value) in (
      within,
      ap (λ (marked : List MarkedColumns). marked ++ marked_lines bytes left right from to lines (end + 1)) c.in_ok-push.ensures.items
          ∙ marked_lines-further bytes left right from to c.loop.at end c.line_end-end.ensures.value c.loop.marked.items lines
          (c.args.lines - c.loop.counter) one_more c.in_ok-marked_in_line.field-0 c.in_ok-marked_in_line.ensures some
          ∙ c.loop.invariant.1,
    )

pub returns : goal.returns
returns c =
    let bytes = c.args.text.now.bytes in
    let left = c.args.sight.left in
    let right = c.args.sight.right in
    let from = c.args.span.start in
    let to = c.args.span.end in
    let more = c.args.lines - c.loop.counter in
    elim c.loop-test.branch [
      | else-loop-test w ↦
          let no_more : more ≡ 0 = omega (arith, w.loop-test.false) in
          ap (λ (marked : Vec MarkedColumns Global). marked.items) w.marked-is
          ∙ sym (append-nil c.loop.marked.items)
          ∙ ap (λ n. c.loop.marked.items ++ marked_lines bytes left right from to n c.loop.at) (sym no_more)
          ∙ c.loop.invariant.1
      | then-loop-test+in_ok-marked_in_line+in_ok-push+then-end-len w ↦
          let lines = c.args.lines - (c.loop.counter + 1) in
          let one_more : more ≡ suc lines = omega (arith, w.loop-test.true) in
          ap (λ (marked : Vec MarkedColumns Global). marked.items) w.marked-is
          ∙ w.in_ok-push.ensures.items
          ∙ marked_lines-last bytes left right from to c.loop.at w.line_end-end.result w.line_end-end.ensures.value c.loop.marked.items lines
          more one_more w.in_ok-marked_in_line.field-0 w.in_ok-marked_in_line.ensures (w.if-end-len.true ∙ w.len.ensures.value)
          ∙ c.loop.invariant.1
    ]

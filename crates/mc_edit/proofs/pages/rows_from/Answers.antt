-- Each line gives its row.
use Rattle.std.proofs.Common.{◌≡◌, ◌+◌, ◌-◌, ◌≤◌, ◌++◌, ℕ, List, suc, ap, sym, ◌∙◌, arith, length}
use Rattle.mc_edit.specs.Pages.{rows_from}
use Rattle.mc_edit.proofs.PageLemmas.{rows_from-further}
use Rattle.mc_edit.proofs.pages.rows_from.Goals as goal

pub loop-preserved : goal.loop-preserved
loop-preserved c =
    let bytes = c.args.text.now.bytes in
    let left = c.args.sight.left in
    let right = c.args.sight.right in
    let lines = c.args.lines - (c.loop.counter + 1) in
    let end = c.line_end-end.result in
    let one_more : c.args.lines - c.loop.counter ≡ suc lines = omega arith in
    let some = λ (ends : end ≡ length bytes). c.if-end-len.false (ends ∙ sym c.len.ensures.value) in
    let within : end + 1 ≤ length bytes = omega (arith, c.line_end-end.ensures.high, c.if-end-len.false, c.len.ensures.value) in (
      within,
      ap (λ (rows : List (List ℕ)). rows ++ rows_from bytes left right lines (end + 1)) c.in_ok-push.ensures.done
          ∙ rows_from-further bytes left right c.loop.at end c.line_end-end.ensures.value c.loop.rows lines (c.args.lines - c.loop.counter) one_more
          c.in_ok-row_at.field-0 c.in_ok-row_at.ensures some
          ∙ c.loop.invariant.1,
    )

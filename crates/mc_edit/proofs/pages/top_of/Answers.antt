-- A line that isn't the first leads to the one above it.
use Rattle.std.proofs.Common.{◌≡◌, ◌+◌, ◌-◌, ◌≤◌, suc, ◌∙◌, arith, length}
use Rattle.mc_edit.proofs.PageLemmas.{top_of-further, lines_above-further}
use Rattle.mc_edit.proofs.pages.top_of.Goals as goal

pub loop-preserved : goal.loop-preserved
loop-preserved c =
    let bytes = c.args.text.now.bytes in
    let start = c.line_start-start.result in
    let left = c.args.lines - (c.loop.counter + 1) in
    let more = c.args.lines - c.loop.counter in
    let one_more : more ≡ suc left = omega arith in
    let is_start = c.line_start-start.ensures.value in
    let further = lines_above-further bytes c.loop.place start is_start left more one_more c.if-start-eq0.false in
    let within : start - 1 ≤ length bytes = omega (arith, c.line_start-start.ensures.bound, c.loop.invariant.0) in
    let counted : c.loop.above + 1 ≡ c.loop.counter + 1 = omega (arith, c.loop.invariant.1) in (
      within,
      counted,
      top_of-further bytes c.loop.place start is_start left more one_more c.if-start-eq0.false ∙ c.loop.invariant.2,
      omega (arith, further, c.loop.invariant.3),
    )

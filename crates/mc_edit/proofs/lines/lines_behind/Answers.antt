-- Each newline leads one line on, and the last line leads nowhere.
use Rattle.std.proofs.Common.{◌≡◌, ◌+◌, ◌-◌, ℕ, suc, ap, sym, ◌∙◌, arith, drop, length}
use Rattle.mc_edit.specs.Lines.{line_end, start_of_line}
use Rattle.mc_edit.proofs.LineLemmas.{start_of_line-last, start_of_line-further}
use Rattle.mc_edit.proofs.lines.lines_behind.Goals as goal

pub loop-preserved : goal.loop-preserved
loop-preserved c =
    let bytes = c.args.text.now.bytes in
    let start = c.loop.start in
    let left = c.args.lines - (c.loop.counter + 1) in
    let one_more : suc left ≡ c.args.lines - c.loop.counter = omega arith in
    let goes_on = λ (ends : line_end bytes start ≡ length bytes). c.if-end-len.false (c.line_end-end.ensures.value ∙ ends ∙ sym c.len.ensures.value) in (
      omega arith,
      ap (λ (end : ℕ). end + 1 + start_of_line left (drop (end + 1) bytes)) c.line_end-end.ensures.value
          ∙ sym (start_of_line-further bytes start c.loop.invariant.0 left goes_on)
          ∙ ap (λ (lines : ℕ). start + start_of_line lines (drop start bytes)) one_more
          ∙ c.loop.invariant.1,
    )

pub returns-then-end-len-clause-value : goal.returns-then-end-len-clause-value
returns-then-end-len-clause-value c =
    let bytes = c.args.text.now.bytes in
    let start = c.loop.start in
    let ends : line_end bytes start ≡ length bytes = sym c.line_end-end.ensures.value ∙ c.if-end-len.true ∙ c.len.ensures.value in
    let no_more : start + start_of_line (c.args.lines - c.loop.counter) (drop start bytes) ≡ start =
    omega (arith, start_of_line-last bytes start c.loop.invariant.0 (c.args.lines - c.loop.counter) ends) in
    sym no_more ∙ c.loop.invariant.1

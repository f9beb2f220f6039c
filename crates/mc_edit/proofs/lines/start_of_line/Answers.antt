-- From the line of the mark so many lines are left.
use Rattle.std.proofs.Common.{◌≡◌, ℕ, ◌+◌, ◌-◌, take, drop, ap, ◌∙◌, arith}
use Rattle.gap_text.specs.LineCounts.{newlines}
use Rattle.mc_edit.specs.Lines.{start_of_line}
use Rattle.mc_edit.proofs.LineLemmas.{start_of_line-marked}
use Rattle.mc_edit.proofs.lines.start_of_line.Goals as goal

pub returns-clause-value : goal.returns-clause-value
returns-clause-value c =
    let text = c.args.text.now in
    let mark = c.line_mark-mark.result in
    let left = c.saturating_sub-lines.result - mark.lines in
    let all : mark.lines + left ≡ c.args.line - 1 =
    omega (arith, c.saturating_sub-lines.ensures, c.line_mark-mark.ensures.before) in
    let count : newlines (take mark.place text.bytes) + left ≡ c.args.line - 1 =
    omega (arith, c.line_mark-mark.ensures.counted, all) in
    c.lines_behind.ensures.value
    ∙ ap (λ (start : ℕ). start + start_of_line left (drop start c.line_mark-mark.new.self.bytes)) c.line_start-start.ensures.value
    ∙ rw c.line_mark-mark.ensures.same
    (start_of_line-marked text.bytes mark.place c.line_mark-mark.ensures.within left
    ∙ ap (λ (lines : ℕ). start_of_line lines text.bytes) count)

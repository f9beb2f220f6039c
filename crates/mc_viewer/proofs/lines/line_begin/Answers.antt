-- Behind the newline the line begins.
use Rattle.std.proofs.Common.{◌-◌, ap, ◌∙◌}
use Rattle.mc_viewer.specs.Viewing.{held_bytes}
use Rattle.mc_viewer.proofs.LineLemmas.{line-begins}
use Rattle.mc_viewer.proofs.lines.line_begin.Goals as goal

pub returns-in-Some-clause-shown : goal.returns-in-Some-clause-shown
returns-in-Some-clause-shown g c = λ bytes known.
    let still = ap (λ t. held_bytes t c.args.subject.now) c.loop-end.invariant.same ∙ known in
    line-begins bytes c.as_slice.result.now (c.loop-end.end - c.saturating_sub-start.result) c.saturating_sub-start.result c.in-Some.newline
    (c.as_slice.ensures.value ∙ c.in_ok-piece.ensures.shown bytes still) c.in-Some.ensures.0.high c.in-Some.ensures.1

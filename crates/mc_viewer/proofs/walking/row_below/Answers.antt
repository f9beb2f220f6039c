-- The row behind, or none.
use Rattle.std.proofs.Common.{sym, ◌∙◌, arith}
use Rattle.mc_viewer.proofs.StartLemmas.{IsRow-next, after-inside, after-last, after-empty}
use Rattle.mc_viewer.proofs.walking.row_below.Goals as goal

pub returns-then-size-eq0-clause-shown : goal.returns-then-size-eq0-clause-shown
returns-then-size-eq0-clause-shown g c = λ bytes known size_is row.
    after-empty c.args.layout.shape c.args.layout.columns c.args.row bytes (size_is ∙ c.if-size-eq0.true)

pub returns-then-end-size-clause-shown : goal.returns-then-end-size-clause-shown
returns-then-end-size-clause-shown g c = λ bytes known size_is row.
    sym (after-inside c.args.layout.shape c.args.layout.columns bytes c.args.row c.in_ok-end.end row (omega arith)
    (c.in_ok-end.ensures.shown bytes known size_is) (omega arith))

pub returns-then-end-size-clause-row : goal.returns-then-end-size-clause-row
returns-then-end-size-clause-row g c = λ bytes known size_is row.
    IsRow-next c.args.layout.shape c.args.layout.columns bytes c.args.row c.in_ok-end.end row (omega arith)
    (c.in_ok-end.ensures.shown bytes known size_is)

pub returns-clause-shown : goal.returns-clause-shown
returns-clause-shown g c = λ bytes known size_is row.
    sym (after-last c.args.layout.shape c.args.layout.columns bytes c.args.row c.in_ok-end.end row (omega arith)
    (c.in_ok-end.ensures.shown bytes known size_is) (omega arith))

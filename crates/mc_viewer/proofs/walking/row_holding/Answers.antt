-- From a row before the byte on.
use Rattle.std.proofs.Common.{ap, ◌∙◌}
use Rattle.mc_viewer.specs.Viewing.{held_bytes}
use Rattle.mc_viewer.proofs.StartLemmas.{IsRow-first, holding-empty}
use Rattle.mc_viewer.proofs.walking.row_holding.Goals as goal

pub returns-then-size-eq0-clause-shown : goal.returns-then-size-eq0-clause-shown
returns-then-size-eq0-clause-shown g c = λ bytes known size_is.
    holding-empty c.args.layout.shape c.args.layout.columns c.args.byte bytes (size_is ∙ c.if-size-eq0.true)

pub returns-then-size-eq0-clause-row : goal.returns-then-size-eq0-clause-row
returns-then-size-eq0-clause-row g c = λ bytes known size_is.
    IsRow-first c.args.layout.shape c.args.layout.columns bytes

pub returns-clause-shown : goal.returns-clause-shown
returns-clause-shown g c = λ bytes known size_is.
    let still = ap (λ t. held_bytes t c.args.subject.now) c.in_ok-from.ensures.same ∙ known in
    c.in_ok-row.ensures.shown bytes still size_is (c.in_ok-from.ensures.row bytes known size_is c.args.layout.columns)

pub returns-clause-row : goal.returns-clause-row
returns-clause-row g c = λ bytes known size_is.
    let still = ap (λ t. held_bytes t c.args.subject.now) c.in_ok-from.ensures.same ∙ known in
    c.in_ok-row.ensures.row bytes still size_is (c.in_ok-from.ensures.row bytes known size_is c.args.layout.columns)

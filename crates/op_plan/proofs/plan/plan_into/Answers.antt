-- a star alone keeps the names of sources that lie side by side
use Rattle.std.proofs.Common.{◌≡◌, ◌∙◌, sym, true, false}
use Rattle.std.specs.Prelude.{is_some, not}
use Rattle.std.specs.Option.{option_map_or}
use Rattle.op_plan.specs.Meeting.{meet}
use Rattle.op_plan.proofs.BesideLemmas.{beside_there, beside_placed}
use Rattle.op_plan.proofs.plan.plan_into.Goals as goal

pub returns-then-lie_beside-clause-answer : goal.returns-then-lie_beside-clause-answer
returns-then-lie_beside-clause-answer c =
    let some : is_some c.args.pattern.now ≡ true = sym c.is_some.ensures ∙ c.if-is_some.true in
    let beside : option_map_or (λ held. not (meet held c.args.folder.now)) c.args.sources.holder false ≡ true = sym c.lie_beside.ensures ∙ c.if-lie_beside.true in
    beside_there c.args.pattern.now c.args.sources.holder c.args.folder.now c.args.sources.paths c.pairs_beside.result some c.requires.held beside
    c.pairs_beside.ensures.answer

pub returns-then-lie_beside-clause-placed : goal.returns-then-lie_beside-clause-placed
returns-then-lie_beside-clause-placed c =
    let some : is_some c.args.pattern.now ≡ true = sym c.is_some.ensures ∙ c.if-is_some.true in
    let beside : option_map_or (λ held. not (meet held c.args.folder.now)) c.args.sources.holder false ≡ true = sym c.lie_beside.ensures ∙ c.if-lie_beside.true in
    beside_placed c.args.pattern.now c.args.sources.holder c.args.folder.now c.args.sources.paths c.pairs_beside.result some c.requires.held beside
    c.pairs_beside.ensures.sources c.pairs_beside.ensures.placed

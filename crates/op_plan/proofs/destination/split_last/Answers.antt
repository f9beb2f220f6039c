use Rattle.std.proofs.Common.{◌∙◌, sym}
use Rattle.op_plan.proofs.SplitLemmas.{last-without, front-without, last-behind, front-root, front-named}
use Rattle.op_plan.proofs.destination.split_last.Goals as goal

pub returns-in-None-clause-front : goal.returns-in-None-clause-front
returns-in-None-clause-front c = front-without c.args.text.now c.in-None.ensures.found

pub returns-in-None-clause-last : goal.returns-in-None-clause-last
returns-in-None-clause-last c = last-without c.args.text.now c.in-None.ensures.found

pub returns-then-is_empty-clause-front : goal.returns-then-is_empty-clause-front
returns-then-is_empty-clause-front c =
    let found = c.in-Some.ensures.found in
    front-root c.args.text.now c.in-Some.front.now c.in-Some.last.now found.1 found.0 (sym c.is_empty.ensures ∙ c.if-is_empty.true)

pub returns-then-is_empty-clause-last : goal.returns-then-is_empty-clause-last
returns-then-is_empty-clause-last c =
    let found = c.in-Some.ensures.found in last-behind c.args.text.now c.in-Some.front.now c.in-Some.last.now found.1 found.0

pub returns-else-is_empty-clause-front : goal.returns-else-is_empty-clause-front
returns-else-is_empty-clause-front c =
    let found = c.in-Some.ensures.found in
    front-named c.args.text.now c.in-Some.front.now c.in-Some.last.now found.1 found.0 (sym c.is_empty.ensures ∙ c.if-is_empty.false)

pub returns-else-is_empty-clause-last : goal.returns-else-is_empty-clause-last
returns-else-is_empty-clause-last c =
    let found = c.in-Some.ensures.found in last-behind c.args.text.now c.in-Some.front.now c.in-Some.last.now found.1 found.0

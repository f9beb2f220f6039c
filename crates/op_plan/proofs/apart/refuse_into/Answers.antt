-- where no source has to do with the folder, none has to do with a target
use Rattle.std.proofs.Common.{◌≡◌, ◌∙◌, sym, false}
use Rattle.op_plan.proofs.ApartLemmas.{none_into_apart, sources_apart}
use Rattle.op_plan.proofs.apart.refuse_into.Goals as goal

pub returns-then-not-any_source_meets-clause-answer : goal.returns-then-not-any_source_meets-clause-answer
returns-then-not-any_source_meets-clause-answer c =
    let none : c.any_source_meets.result ≡ false = c.if-not-any_source_meets.true in
    none_into_apart c.args.folder.now c.args.names.now c.args.pairs.now c.requires (sym c.any_source_meets.ensures ∙ none)

pub returns-then-not-any_source_meets-clause-apart : goal.returns-then-not-any_source_meets-clause-apart
returns-then-not-any_source_meets-clause-apart c =
    let none : c.any_source_meets.result ≡ false = c.if-not-any_source_meets.true in
    sources_apart c.args.folder.now c.args.names.now c.args.pairs.now c.requires (sym c.any_source_meets.ensures ∙ none)

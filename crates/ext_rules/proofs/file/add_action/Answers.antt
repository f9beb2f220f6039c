use Rattle.std.proofs.Common.{◌≡◌, ◌∷◌, [], ◌-◌, List, set, ap, ◌∙◌, sym, arith}
use Rattle.std.proofs.lemmas.Result.{on_ok_weaker}
use Rattle.ext_rules.specs.declared.actions.Action.{Action}
use Rattle.ext_rules.specs.FileRules.{FileRule}
use Rattle.ext_rules.specs.Drafts.{extended_rules}
use Rattle.ext_rules.proofs.DraftLemmas.{with_actions, extended-put}
use Rattle.ext_rules.proofs.file.add_action.Goals as goal

pub returns-clause-extended : goal.returns-clause-extended
returns-clause-extended c =
    let rules = c.args.rules.now.items in
    let last = c.len-last.result - 1 in
    let rule : FileRule = c.index_mut.result.now in
    on_ok_weaker
    {P = c.push.new.self ≡ with_actions rule (c.args.action ∷ [])}
    {Q = (more : List Action) → extended_rules (set rules last c.push.new.self) more ≡ extended_rules rules (c.args.action ∷ more)}
    c.push.result
    (λ is more. ap (λ new. extended_rules (set rules last new) more) is
    ∙ extended-put rules last rule c.args.action more (omega arith) (sym c.index_mut.ensures.value))
    c.push.ensures

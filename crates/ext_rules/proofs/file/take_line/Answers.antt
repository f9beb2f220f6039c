use Rattle.std.proofs.Common.{◌∷◌, ap, ◌∙◌, sym}
use Rattle.ext_rules.specs.Drafts.{continued_rules}
use Rattle.ext_rules.proofs.FileLemmas.{continued-rule}
use Rattle.ext_rules.proofs.file.take_line.Goals as goal

pub returns-in_ok-begin_rule-in-Rule-clause-said : goal.returns-in_ok-begin_rule-in-Rule-clause-said
returns-in_ok-begin_rule-in-Rule-clause-said c = λ lines.
    let rules = c.args.rules.now.items in
    ap (λ new. continued_rules new lines) c.in_ok-begin_rule-in-Rule.ensures
    ∙ continued-rule rules c.in-Rule.condition lines
    ∙ ap (λ read. continued_rules rules (read ∷ lines)) (sym c.in-Rule.is)

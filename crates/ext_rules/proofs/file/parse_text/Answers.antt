use Rattle.std.proofs.Common.{◌≡◌, [], ap, ◌∙◌, sym}
use Rattle.std.proofs.lemmas.List.{append-nil}
use Rattle.ext_rules.specs.ExtFiles.{readings}
use Rattle.ext_rules.specs.Drafts.{extended_rules, continued_rules}
use Rattle.ext_rules.proofs.DraftLemmas.{extended-nothing}
use Rattle.ext_rules.proofs.file.parse_text.Goals as goal

pub returns-clause-rules : goal.returns-clause-rules
returns-clause-rules c =
    let rules = c.loop-line.rules.items in
    let nothing : c.loop-line.rest.now ≡ [] = c.in_default.ensures.first in
    sym (append-nil (extended_rules rules []) ∙ extended-nothing rules)
    ∙ ap (λ rest. continued_rules rules (readings rest)) (sym nothing)
    ∙ c.loop-line.invariant.said

-- what is retained is what the closure's test keeps
use Rattle.std.proofs.Common.{◌∙◌, ap, rules}
use Rattle.std.specs.Prelude.{filter}
use Rattle.std.proofs.lemmas.Fn.{filter_same}
use Rattle.op_plan.specs.Naming.{has_match}
use Rattle.op_plan.proofs.naming.matching.Goals as goal

pub returns : goal.returns
returns c =
    filter_same _ (has_match c.args.pattern.now) _ (λ x b f k. search rules) _ _ c.retain.ensures.filtered ∙ ap (filter (has_match c.args.pattern.now)) c.sources.view_is

use Rattle.regex.specs.Strings.{matcher_pattern}
use Rattle.std.proofs.Common.{◌∙◌}
use Rattle.tagging.proofs.RegexLemmas.{found_as_meant}
use Rattle.tagging.proofs.regex_name.finds.Goals as goal

pub returns-clause-found : goal.returns-clause-found
returns-clause-found c = λ text meant.
    c.is_match.ensures.found ∙ found_as_meant text (matcher_pattern c.args.matcher.now) c.args.name.now meant (λ k. (c.type_inv.name k).fits)

use Rattle.std.proofs.Common.{ap, is_some, rules}
use Rattle.tagging.proofs.RegexLemmas.{regex_means, refused_means_nothing}
use Rattle.tagging.proofs.regex_name.NameRegex.new.Goals as goal

pub returns-in-Ok-clause-is_pattern : goal.returns-in-Ok-clause-is_pattern
returns-in-Ok-clause-is_pattern c = ap is_some (regex_means c.in-Ok.regex c.args.text.now c.in-Ok.ensures.read (search rules) (search rules)).is

pub returns-in-Err-Syntax-clause-bad : goal.returns-in-Err-Syntax-clause-bad
returns-in-Err-Syntax-clause-bad c = λ _.
    refused_means_nothing c.args.text.now c.in-Err-Syntax.field-0 c.in-Err-Syntax.field-0-0 c.in-Err-Syntax.field-0-is (search rules) (search rules)

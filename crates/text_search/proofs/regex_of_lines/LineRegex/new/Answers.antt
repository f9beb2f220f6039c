-- A text that is compiled is a pattern, and so is one that is too big; one that is bad is none.
use Rattle.std.proofs.Common.{rules}
use Rattle.text_search.proofs.MeaningLemmas.{regex_means, pattern_is, bad_is_none, too_big_is_one}
use Rattle.regex.specs.Bytes.{regex_pattern}
use Rattle.text_search.proofs.regex_of_lines.LineRegex.new.Goals as goal

pub returns-in-Ok-clause-is_pattern : goal.returns-in-Ok-clause-is_pattern
returns-in-Ok-clause-is_pattern c =
    pattern_is c.args.text.now (regex_pattern c.in-Ok.regex) (regex_means c.in-Ok.regex c.args.text.now c.in-Ok.ensures.read (search rules) (search rules))

pub returns-in-Err-clause-bad : goal.returns-in-Err-clause-bad
returns-in-Err-clause-bad c = λ h.
    bad_is_none c.args.text.now c.in-Err.error (cc) (search rules) (search rules)

pub returns-in-Err-clause-too_big : goal.returns-in-Err-clause-too_big
returns-in-Err-clause-too_big c = λ h.
    too_big_is_one c.args.text.now c.in-Err.error (cc) (search rules)

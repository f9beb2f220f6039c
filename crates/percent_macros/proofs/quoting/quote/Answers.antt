use Rattle.std.proofs.Common.{ap, ◌∙◌}
use Rattle.percent_macros.specs.Quoting.{as_operand}
use Rattle.percent_macros.specs.ShellWords.{shell_word}
use Rattle.percent_macros.proofs.WordLemmas.{shell_word-quoted}
use Rattle.percent_macros.proofs.quoting.quote.Goals as goal

pub returns-clause-read_back : goal.returns-clause-read_back
returns-clause-read_back c = ap shell_word c.in_ok-word.ensures ∙ shell_word-quoted (as_operand c.args.name.now)

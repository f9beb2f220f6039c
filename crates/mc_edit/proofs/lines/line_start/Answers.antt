-- The last newline before the place ends the line before.
use Rattle.mc_edit.proofs.LineLemmas.{line_start-last, line_start-first}
use Rattle.mc_edit.proofs.lines.line_start.Goals as goal

pub returns-in-Some-clause-value : goal.returns-in-Some-clause-value
returns-in-Some-clause-value c = line_start-last c.args.text.now.bytes c.args.at c.in-Some.newline c.requires c.in-Some.ensures

pub returns-in-None-clause-value : goal.returns-in-None-clause-value
returns-in-None-clause-value c = line_start-first c.args.text.now.bytes c.args.at c.requires c.in-None.ensures

-- The first newline from the place on ends its line.
use Rattle.std.proofs.Common.{◌∙◌}
use Rattle.mc_edit.proofs.LineLemmas.{line_end-first, line_end-last}
use Rattle.mc_edit.proofs.lines.line_end.Goals as goal

pub returns-in-Some-clause-value : goal.returns-in-Some-clause-value
returns-in-Some-clause-value c = line_end-first c.args.text.now.bytes c.args.at c.in-Some.newline c.in-Some.ensures

pub returns-in-None-clause-value : goal.returns-in-None-clause-value
returns-in-None-clause-value c = c.len.ensures.value ∙ line_end-last c.args.text.now.bytes c.args.at c.requires c.in-None.ensures

use Rattle.std.proofs.Common.{◌∙◌, ap, arith}
use Rattle.std.proofs.lemmas.Grind.{common_steps}
use Rattle.text_scan.specs.Lines.{lines_of}
use Rattle.text_scan.proofs.LineLemmas.{lines_of-cut, lines_of-last}
use Rattle.text_scan.proofs.first_line.Goals as goal

pub returns-in-Some-clause-first : goal.returns-in-Some-clause-first
returns-in-Some-clause-first c =
    ap lines_of c.in-Some.ensures.found.1 ∙ lines_of-cut c.in-Some.line.now c.in-Some.rest.now c.in-Some.ensures.found.0

pub returns-in-None-clause-first : goal.returns-in-None-clause-first
returns-in-None-clause-first c = lines_of-last c.args.text.now c.in-None.ensures.found (grind (arith, common_steps))

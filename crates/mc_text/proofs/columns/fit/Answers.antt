-- Nothing, the whole text, or a cut one, as the definition says.
use Rattle.std.proofs.Common.{◌≤◌, ◌<◌, ap, sym, ◌∙◌, arith}
use Rattle.std.proofs.lemmas.Grind.{common_steps}
use Rattle.mc_text.specs.Fit.{fitted_text, columns_in}
use Rattle.mc_text.proofs.Runs.{fitted-none, fitted-filled, fitted-cut}
use Rattle.mc_text.proofs.columns.fit.Goals as goal

pub returns-then-columns-eq0-clause-fitted : goal.returns-then-columns-eq0-clause-fitted
returns-then-columns-eq0-clause-fitted c =
    c.new-line.ensures.bytes ∙ sym (ap (fitted_text c.args.text.now) c.if-columns-eq0.true ∙ fitted-none c.args.text.now)

pub returns-then-wanted-columns-clause-fitted : goal.returns-then-wanted-columns-clause-fitted
returns-then-wanted-columns-clause-fitted c =
    let some : 0 < c.args.columns = omega arith in
    let le : columns_in c.args.text.now ≤ c.args.columns = omega arith in
    rw (fitted-filled c.args.text.now c.args.columns some le) (grind (arith, common_steps))

pub returns-clause-fitted : goal.returns-clause-fitted
returns-clause-fitted c =
    let some : 0 < c.args.columns = omega arith in
    let lt : c.args.columns < columns_in c.args.text.now = omega arith in
    rw (fitted-cut c.args.text.now c.args.columns some lt) (grind (arith, common_steps))

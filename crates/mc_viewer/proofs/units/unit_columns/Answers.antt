-- A plain character has one column.
use Rattle.std.proofs.Common.{sym, ap, ◌∙◌}
use Rattle.text_units.specs.Units.{unit_columns}
use Rattle.mc_viewer.proofs.PlainLemmas.{plain_columns}
use Rattle.mc_viewer.proofs.units.unit_columns.Goals as goal

pub returns-in-Some-clause-value : goal.returns-in-Some-clause-value
returns-in-Some-clause-value c = sym (ap (unit_columns c.args.column) c.in-Some.ensures.0 ∙ plain_columns c.args.column _ c.in-Some.ensures.1)

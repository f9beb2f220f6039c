-- A plain character is a unit.
use Rattle.std.proofs.Common.{sym, ◌∙◌}
use Rattle.mc_viewer.proofs.PlainLemmas.{plain_unit}
use Rattle.mc_viewer.proofs.units.shortest_text.Goals as goal

pub returns-then-is_plain-clause-value : goal.returns-then-is_plain-clause-value
returns-then-is_plain-clause-value c = sym (plain_unit c.args.bytes.now c.requires (sym c.is_plain.ensures ∙ c.if-is_plain.true))

-- The names of the one are compared with as many first names of the other.
use Rattle.std.proofs.Common.{arith}
use Rattle.std.proofs.lemmas.Grind.{common_steps}
use Rattle.mc_text.proofs.Prefixes.{begins-within, begins-longer}
use Rattle.mc_text.proofs.path.Path.is_prefix_of.Goals as goal

pub returns-then-front-names : goal.returns-then-front-names
returns-then-front-names c = grind (arith, common_steps, begins-within)

pub returns-else-front-names : goal.returns-else-front-names
returns-else-front-names c = grind (arith, common_steps, begins-longer)

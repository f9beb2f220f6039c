use Rattle.std.proofs.Common.{arith, append_assoc}
use Rattle.screen_draw.specs.DrawnBytes.{number}
use Rattle.screen_draw.proofs.strokes.push_number.Goals as goal

pub returns : goal.returns
unfolding number
returns c = grind (arith, append_assoc)

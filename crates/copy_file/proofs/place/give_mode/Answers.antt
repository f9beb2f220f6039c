-- With another mode than the source's there is one call.
use Rattle.std.proofs.Common.{false}
use Rattle.copy_file.proofs.Placing.{ran_moding}
use Rattle.copy_file.proofs.place.give_mode.Goals as goal

pub returns : goal.returns
returns g c = ran_moding c.args.part.now c.args.mode false c.set_mode.result _ _ _ _ c.if-mode.false c.set_mode.ensures

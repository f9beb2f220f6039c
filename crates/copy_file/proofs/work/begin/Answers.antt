-- The part was made.
use Rattle.std.proofs.Common.{◌≡◌, true}
use Rattle.copy_file.proofs.Stepping.{moves_began}
use Rattle.copy_file.proofs.work.begin.Goals as goal

pub returns-in-Ok : goal.returns-in-Ok
returns-in-Ok g c = moves_began (λ path. g.P.PartTest.is_free c.args.parts.now path ≡ true) c.args.item.now c.args.folder c.in-Ok.made _ _ _ _ c.in-Ok.ensures

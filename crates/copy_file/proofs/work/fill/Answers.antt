-- A chunk was written.
use Rattle.std.specs.Prelude.{⊤}
use Rattle.copy_file.proofs.Stepping.{moves_chunk}
use Rattle.copy_file.proofs.work.fill.Goals as goal

pub returns-in-Ok : goal.returns-in-Ok
returns-in-Ok g c = moves_chunk (λ _. ⊤) c.args.item.now c.args.part c.args.facts c.args.done _ _ _ _ c.requires.sound c.in-Ok.count c.in-Ok.ensures

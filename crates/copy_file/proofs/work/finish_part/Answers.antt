-- The full part was brought to its place.
use Rattle.std.proofs.Common.{◌∙◌}
use Rattle.std.specs.Prelude.{⊤}
use Rattle.copy_file.proofs.Stepping.{moves_placed}
use Rattle.copy_file.proofs.work.finish_part.Goals as goal

pub returns-in-Ok-place : goal.returns-in-Ok-place
returns-in-Ok-place g c =
    moves_placed (λ _. ⊤) c.args.item.now c.args.part c.args.facts c.args.done _ _ _ _ c.requires.sound c.in-Ok-place.calls c.in-Ok.placed c.target-2.result.now c.requires.filled
    (c.in-Ok.ensures ∙ c.target.ensures) c.target-2.ensures c.in-Ok-place.ensures

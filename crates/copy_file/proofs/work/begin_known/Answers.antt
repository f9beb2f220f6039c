-- The part was made, or its trouble came before.
use Rattle.std.proofs.Common.{◌≡◌, true}
use Rattle.copy_file.proofs.Stepping.{makes_named, makes_stopped}
use Rattle.copy_file.proofs.work.begin_known.Goals as goal

pub returns-in-Ok : goal.returns-in-Ok
returns-in-Ok g c = makes_named (λ path. g.P.PartTest.is_free c.args.parts.now path ≡ true) c.args.facts c.args.item.now c.args.folder c.in-Ok.made _ _ _ _ c.in-Ok.ensures

pub returns-in-Err : goal.returns-in-Err
returns-in-Err g c =
    makes_stopped (λ path. g.P.PartTest.is_free c.args.parts.now path ≡ true) c.args.facts c.args.item.now c.args.folder c.in-Err.stop c.troubled.result _ _ _ _ c.troubled.ensures c.in-Err.ensures

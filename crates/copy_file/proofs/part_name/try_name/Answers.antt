-- A path that is too long may be taken, but for its length.
use Rattle.std.proofs.Common.{◌≡◌, true, subst}
use Rattle.tree_trait.specs.Change.{current}
use Rattle.copy_file.specs.PartNames.{IsPathOf}
use Rattle.copy_file.proofs.Naming.{long_stops}
use Rattle.copy_file.proofs.part_name.try_name.Goals as goal

pub returns-in-Ok-None-clause-known : goal.returns-in-Ok-None-clause-known
returns-in-Ok-None-clause-known g c = λ log known.
    long_stops (current log) (λ path. g.P.PartTest.is_free c.args.parts.now path ≡ true) c.args.item.now c.args.k c.too_long.result
    c.too_long.ensures.named c.too_long.ensures.source c.too_long.ensures.target
    (subst (IsPathOf c.args.item.now c.args.k) c.in-Ok-None.field-0-is c.in-Ok-None.ensures)

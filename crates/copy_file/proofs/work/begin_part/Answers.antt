-- A part that is made of what the looks told.
use Rattle.std.proofs.Common.{◌≡◌, true}
use Rattle.copy_file.proofs.Stepping.{begins_named}
use Rattle.copy_file.proofs.work.begin_part.Goals as goal

pub returns : goal.returns
returns g c =
    begins_named (λ path. g.P.PartTest.is_free c.args.parts.now path ≡ true) c.args.item.now c.in-Ok.facts c.make_named.result _ _ _ _ _ _
    c.in-Ok.ensures.in_range c.in-Ok.ensures.known c.in-Ok.ensures.peeks c.make_named.ensures

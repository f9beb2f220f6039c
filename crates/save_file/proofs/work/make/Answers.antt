-- The part is made behind the looks.
use Rattle.std.proofs.Common.{◌≡◌, length, refl, true}
use Rattle.save_file.proofs.Making.{makes}
use Rattle.save_file.proofs.work.make.Goals as goal

pub returns : goal.returns
returns g c =
    makes (λ path. g.P.PartTest.is_free c.args.parts.now path ≡ true) c.args.copy.now c.args.bytes.now c.requires.own c.requires.stage c.in-Ok.mode c.target.result.now
    (record { size = length c.args.bytes.now; mode = c.in-Ok.mode }) c.target.ensures refl c.begin_with.result.did c.begin_with.new.self c.begin_with.result.calls _ _ _ _ _ _
    c.in-Ok.ensures.known c.in-Ok.ensures.peeks c.begin_with.ensures

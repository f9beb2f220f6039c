-- No byte is taken.
use Rattle.mc_desk.proofs.Streams.{fed_kept}
use Rattle.mc_desk.proofs.desk.Desk.seek.Goals as goal

pub invariant_of-self : goal.invariant_of-self
invariant_of-self g c = record { fed = fed_kept g.N.Tag.stream c.self.inside.session c.seek.new.self c.seek.ensures.keys c.self.invariant.fed; uncut = c.seek.ensures.uncut }

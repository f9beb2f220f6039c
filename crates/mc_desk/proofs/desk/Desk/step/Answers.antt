-- No byte is taken.
use Rattle.std.proofs.Common.{ap, sym, ◌∙◌}
use Rattle.mc_desk.specs.Outputs.{Output}
use Rattle.mc_desk.proofs.Streams.{fed_kept}
use Rattle.mc_desk.proofs.desk.Desk.step.Goals as goal

pub invariant_of-self : goal.invariant_of-self
invariant_of-self g c = record {
  fed = fed_kept g.N.Tag.stream c.self.inside.session c.step.new.self c.step.ensures.keys c.self.invariant.fed;
  uncut = λ unclosed. ap (λ (o : Output). o.put.is_cut) c.step.ensures.out ∙ c.self.invariant.uncut (sym c.step.ensures.same.0 ∙ unclosed);
}

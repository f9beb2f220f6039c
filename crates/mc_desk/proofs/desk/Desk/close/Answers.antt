-- No byte is taken.
use Rattle.std.proofs.Common.{sym, ◌∙◌}
use Rattle.std.proofs.lemmas.Bool.{true≢false}
use Rattle.mc_desk.proofs.Streams.{fed_kept}
use Rattle.mc_desk.proofs.desk.Desk.close.Goals as goal

pub invariant_of-self : goal.invariant_of-self
invariant_of-self g c = record {
  fed = fed_kept g.N.Tag.stream c.self.inside.session c.close.new.self c.close.ensures.keys c.self.invariant.fed;
  uncut = λ unclosed. absurd (true≢false (sym c.close.ensures.closed ∙ unclosed));
}

-- A byte of the keyboard joins those that were taken.
use Rattle.std.proofs.Common.{sym, subst}
use Rattle.tree_trait.specs.Answers.{IfKnown}
use Rattle.mc_desk.specs.Desks.{IsNext, Seen}
use Rattle.mc_desk.proofs.Streams.{fed_byte}
use Rattle.mc_desk.proofs.desk.Desk.byte.Goals as goal

pub invariant_of-self : goal.invariant_of-self
invariant_of-self g c = record {
  fed = fed_byte g.N.Tag.stream c.args.byte c.self.inside.session c.byte.new.self c.byte.result
      (subst (λ (d : Seen). IfKnown g.N.Tag.stream (λ bytes. IsNext bytes d.taken c.args.byte)) (sym c.self.view_is) c.requires.next) c.byte.ensures.over c.byte.ensures.keys c.self.invariant.fed;
  uncut = c.byte.ensures.uncut;
}

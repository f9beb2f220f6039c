-- Nothing is put any more; what was put stays counted.
use Rattle.std.proofs.Common.{ap, subst, ◌∙◌}
use Rattle.mc_desk.specs.Outputs.{CountsAll, Output}
use Rattle.mc_desk.proofs.terminal.SessionTerminal.cut_short.Goals as goal

pub invariant_of-self : goal.invariant_of-self
invariant_of-self g c = record {
  blames = c.self.invariant.blames;
  puts = c.self.invariant.puts;
  counted = λ whole. absurd cc;
  first = λ whole. absurd cc;
  shows = λ whole. absurd cc;
}

pub returns-clause-counted : goal.returns-clause-counted
returns-clause-counted g c whole = subst CountsAll c.self.view_is (c.self.invariant.counted (ap (λ (o : Output). o.put.is_cut) c.self.view_is ∙ whole))

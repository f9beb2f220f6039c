-- The keys of the history are those of the bytes that were taken.
use Rattle.std.proofs.Common.{reverse, subst}
use Rattle.tree_trait.specs.Answers.{IfKnown}
use Rattle.mc_desk.specs.Desks.{Seen}
use Rattle.mc_desk.specs.KeysTaken.{Reads}
use Rattle.mc_desk.proofs.Streams.{reads_end}
use Rattle.mc_desk.proofs.desk.Desk.end.Goals as goal

pub returns-clause-keys : goal.returns-clause-keys
returns-clause-keys g c =
    subst (λ (d : Seen). IfKnown g.N.Tag.stream (λ bytes. Reads bytes d.taken d.tally.closed (reverse c.end.result.history.entries))) c.self.view_is
    (reads_end g.N.Tag.stream c.self.inside.session (reverse c.end.result.history.entries) c.end.ensures.keys c.self.invariant.fed)

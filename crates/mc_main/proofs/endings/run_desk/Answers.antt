-- What the session has read is what the run has.
use Rattle.std.proofs.Common.{reverse, ◌∙◌}
use Rattle.mc_main.specs.KeysRead.{TookAll}
use Rattle.mc_main.proofs.Taking.{reads}
use Rattle.mc_main.proofs.Runs.{ran_session}
use Rattle.mc_main.proofs.endings.run_desk.Goals as goal

pub returns-clause-keys : goal.returns-clause-keys
returns-clause-keys g c =
    reads g.N.Tag.stream (g.K.Source.left c.run_session-end.new.keys) c.run_session-end.result c.run_session-end.new.desk.taken c.status_of.result c.run_session-end.new.desk.tally.closed
    (reverse c.end-tree.result.history.entries) c.end-tree.ensures.keys c.run_session-end.ensures.left c.run_session-end.ensures.cut c.status_of.ensures.failed

pub returns-clause-session : goal.returns-clause-session
returns-clause-session g c =
    ran_session g.N.Tag.start g.N.Tag.opening g.N.Tag.tree_faults c.status_of.result (reverse c.end-tree.result.history.entries) (g.T.ReadTree.contents c.end-tree.result.tree) c.run_session-end.result c.end-tree.result.quit
    c.end-tree.result.failed c.end-tree.result.lost c.run_session-end.new.desk.tally.closed c.run_session-end.new.desk.out.put.is_cut (TookAll g.N.Tag.stream (g.K.Source.left c.run_session-end.new.keys)) g.N.Tag.given
    (g.S.Sink.given c.end-tree.result.screen) c.end-tree.ensures.session c.end-tree.ensures.given c.end-tree.ensures.uncut c.run_session-end.ensures.cut c.status_of.ensures
    (λ by_key. c.end-tree.ensures.quit ∙ c.run_session-end.ensures.quit by_key) c.run_session-end.ensures.ended

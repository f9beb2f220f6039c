-- What the walk's step says.
use Rattle.std.proofs.Common.{ap}
use Rattle.find_file.proofs.Steps.{step_is, step_waits}
use Rattle.find_file.proofs.finder.Finder.step.Goals as goal

pub returns-clause-step : goal.returns-clause-step
returns-clause-step g c =
    step_is (g.T.ReadTree.contents c.args.tree.now) (g.T.ReadTree.fault_count c.args.tree.now) (g.T.ReadTree.fault_count c.step.new.tree)
    c.args.self.now (record c.args.self.now { walk = c.step.new.self }) c.step.result c.step.ensures.answer c.step.ensures.falls c.step.ensures.ended
    c.step.ensures.leaves (λ none. ap (λ tree. g.T.ReadTree.fault_count tree) (c.step.ensures.apart none)) c.step.ensures.reason

pub returns-clause-waits : goal.returns-clause-waits
returns-clause-waits g c =
    step_waits (g.T.ReadTree.contents c.args.tree.now) (g.T.ReadTree.fault_count c.args.tree.now) (g.T.ReadTree.fault_count c.step.new.tree)
    c.args.self.now (record c.args.self.now { walk = c.step.new.self }) c.step.result c.step.ensures.answer

-- A folder more was gone into, or the step works where it came to.
use Rattle.std.proofs.Common.{◌∙◌, arith}
use Rattle.delete_job.proofs.OnWay.{way_ends, way_on}
use Rattle.delete_job.proofs.deletion.Deletion.work.Goals as goal

pub returns-in-Some : goal.returns-in-Some
returns-in-Some g c =
    let a = c.in-Some.ensures in
    let before = c.loop-stepped.invariant in
    way_ends (g.T.ReadTree.contents c.args.tree.now) (g.T.ReadTree.contents c.loop-stepped.tree) (g.T.ReadTree.contents c.advance.new.tree) c.args.self.now c.loop-stepped.self a.0 c.advance.new.self c.in-Some.stepped.did c.in-Some.stepped.calls
    c.args.dirty.now c.loop-stepped.dirty c.advance.new.dirty (g.T.ReadTree.fault_count c.args.tree.now) (g.T.ReadTree.fault_count c.loop-stepped.tree) (g.T.ReadTree.fault_count c.advance.new.tree)
    c.requires.going before.way before.same before.folders before.later a.1 a.2

pub loop-stepped-preserved : goal.loop-stepped-preserved
loop-stepped-preserved g c =
    let a = c.in_default.ensures in
    let before = c.loop-stepped.invariant in
    record {
      way = way_on (g.T.ReadTree.contents c.args.tree.now) (g.T.ReadTree.contents c.loop-stepped.tree) c.args.self.now c.loop-stepped.self c.advance.new.self a.0.0 before.way before.same a.0.1 a.1;
      same = a.3 ∙ before.same;
      later = let first = before.later in let second = a.4 in omega (arith, first, second);
      folders = a.2 ∙ before.folders;
    }

-- What stands in a folder can't be looked at.
use Rattle.std.proofs.Common.{sym}
use Rattle.delete_job.proofs.Items.{may_below, meets_stopped, next_item}
use Rattle.delete_job.proofs.deletion.Deletion.meet_below.Goals as goal

pub returns-in-Err-clause-meets : goal.returns-in-Err-clause-meets
returns-in-Err-clause-meets g c =
    meets_stopped (g.T.ReadTree.contents c.args.tree.now) c.args.self.now c.args.path (next_item c.args.self.now c.args.path c.requires.depth c.requires.next)
    (may_below c.args.self.now c.args.path c.requires.depth (sym c.if-is_deepest.ensures) c.requires.short) c.in-Err.trouble c.in-Err.ensures.known

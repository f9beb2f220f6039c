-- The thing that is deleted can't be looked at.
use Rattle.std.proofs.Common.{◌∙◌, ap, sym}
use Rattle.mc_text.specs.Routes.{Route}
use Rattle.delete_job.specs.Standing.{Thing}
use Rattle.delete_job.proofs.Items.{may_top, meets_stopped, top_item}
use Rattle.delete_job.proofs.deletion.Deletion.meet_top.Goals as goal

pub returns-in-Err-clause-meets : goal.returns-in-Err-clause-meets
returns-in-Err-clause-meets g c =
    meets_stopped (g.T.ReadTree.contents c.args.tree.now) c.args.self.now c.in-Ok.path (top_item c.args.self.now c.requires.depth ∙ ap (λ (p : Route). Thing p) (sym c.in-Ok.ensures))
    (may_top c.args.self.now c.in-Ok.path c.requires.depth) c.in-Err.trouble c.in-Err.ensures.known

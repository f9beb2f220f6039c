-- A skip is one of the machine.
use Rattle.std.proofs.Common.{subst}
use Rattle.delete_job.specs.Deletions.{Deleting}
use Rattle.delete_job.specs.DeletionSteps.{DeletionSkips}
use Rattle.delete_job.proofs.DeletionRuns.{seen, skip_made}
use Rattle.delete_job.proofs.dirty_deletion.TreeDeletion.skip.Goals as goal

pub returns : goal.returns
returns c =
    subst (λ (d : Deleting). DeletionSkips c.args.cause d c.skip.result (seen c.skip.new.self c.self.inside.tried)) c.self.view_is
    (skip_made c.args.cause c.self.inside.machine c.skip.new.self c.self.inside.tried c.self.invariant.1 c.skip.result c.self.invariant.0 c.skip.ensures)

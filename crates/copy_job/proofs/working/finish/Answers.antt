-- The list stays as it is.
use Rattle.std.proofs.Common.{refl}
use Rattle.copy_tree.specs.Standing.{seen_copy}
use Rattle.copy_job.proofs.Done.{ended_so}
use Rattle.copy_job.proofs.Worked.{worked_at_end}
use Rattle.copy_job.proofs.working.finish.Goals as goal

pub returns-clause-works : goal.returns-clause-works
returns-clause-works g c dirty =
    worked_at_end (g.P.PartTest.is_free c.args.parts.now) c.args.replies (seen_copy c.args.machine.now) (seen_copy c.step.new.self) c.step.result _ _ _ _ c.step.ensures.steps c.requires.settled dirty dirty c.requires.inner
    (ended_so (g.P.PartTest.is_free c.args.parts.now) c.args.replies (seen_copy c.args.machine.now) (seen_copy c.step.new.self) c.step.result.did c.step.result.calls _ _ _ _ c.step.ensures.steps c.requires.settled c.requires.inner c.requires.ended)
    refl

-- The folder that is worked leaves the list with its sync.
use Rattle.std.proofs.Common.{not, refl}
use Rattle.copy_tree.specs.Standing.{seen_copy}
use Rattle.copy_job.proofs.Worked.{worked_in_dirty}
use Rattle.copy_job.proofs.working.work_in_dirty.Goals as goal

pub returns-clause-works : goal.returns-clause-works
returns-clause-works g c =
    worked_in_dirty (g.P.PartTest.is_free c.args.parts.now) c.args.replies (seen_copy c.args.machine.now) (seen_copy c.step-stepped.new.self) c.step-stepped.result _ _ _ _ c.step-stepped.ensures.steps
    c.requires.settled c.args.dirty.now c.remove_if.new.self c.requires.inner c.requires.marked c.is_left_dirty-synced.result (not c.is_left_dirty-synced.result) c.folder.result.now c.is_left_dirty-synced.ensures refl
    c.folder.ensures c.remove_if.ensures

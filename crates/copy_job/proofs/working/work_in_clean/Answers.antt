-- The folder joins the list, and stays there only where it was changed.
use Rattle.copy_tree.specs.Standing.{seen_copy}
use Rattle.copy_job.proofs.Worked.{ran_short, worked_in_clean}
use Rattle.copy_job.proofs.working.work_in_clean.Goals as goal

pub returns-clause-works : goal.returns-clause-works
returns-clause-works g c =
    worked_in_clean (g.P.PartTest.is_free c.args.parts.now) c.args.replies (seen_copy c.args.machine.now) (seen_copy c.step-stepped.new.self) c.step-stepped.result _ _ _ _ c.step-stepped.ensures.steps
    c.requires.settled c.args.dirty.now c.drop_last_if.new.self c.requires.inner c.requires.clean c.is_left_dirty-changed.result c.in-Ok.joined c.but_not.result c.folder.result.now c.join.new.self
    c.is_left_dirty-changed.ensures c.folder.ensures c.in-Ok.ensures.joined c.in-Ok.ensures.back c.but_not.ensures c.drop_last_if.ensures

pub returns-in_default-clause-works : goal.returns-in_default-clause-works
returns-in_default-clause-works g c =
    ran_short (g.P.PartTest.is_free c.args.parts.now) c.args.replies (seen_copy c.args.machine.now) c.without_memory.result c.is_at_barrier.result c.args.dirty.now c.join.new.self _ _ c.requires.left c.without_memory.ensures c.is_at_barrier.ensures
    c.in_default.ensures.refused

-- The folder around leaves the list with its sync.
use Rattle.std.proofs.Common.{not, refl}
use Rattle.copy_tree.specs.Standing.{seen_copy}
use Rattle.copy_job.proofs.Targets.{stays_around}
use Rattle.copy_job.proofs.Worked.{worked_around}
use Rattle.copy_job.proofs.working.bring_made.Goals as goal

pub target_around-requires : goal.target_around-requires
target_around-requires g c =
    let s = stays_around (g.P.PartTest.is_free c.args.parts.now) c.args.replies (seen_copy c.args.machine.now) (seen_copy c.step-stepped.new.self) c.step-stepped.result.did _ _ _ _ _ c.step-stepped.ensures.steps c.requires.settled c.requires.brings in
    record { outer = s.0 }

pub returns-clause-works : goal.returns-clause-works
returns-clause-works g c =
    worked_around (g.P.PartTest.is_free c.args.parts.now) c.args.replies (seen_copy c.args.machine.now) (seen_copy c.step-stepped.new.self) c.step-stepped.result _ _ _ _ c.step-stepped.ensures.steps c.requires.settled
    c.args.dirty.now c.remove_if.new.self c.requires.brings c.is_around_dirty-synced.result (not c.is_around_dirty-synced.result) c.target_around.result.now c.is_around_dirty-synced.ensures refl c.target_around.ensures
    c.remove_if.ensures

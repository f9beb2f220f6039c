-- The machine leaves what is in trouble.
use Rattle.std.proofs.Common.{refl, subst}
use Rattle.copy_tree.specs.Standing.{seen_copy}
use Rattle.copy_job.specs.Standing.{SubtreeCopying}
use Rattle.copy_job.specs.SubtreeSteps.{SubtreeSkips}
use Rattle.copy_job.proofs.Held.{skipped_held}
use Rattle.copy_job.proofs.copy.SubtreeCopy.skip.Goals as goal

pub invariant_of-self : goal.invariant_of-self
invariant_of-self c = skipped_held c.self.inside.top c.self.inside.folder c.args.cause (seen_copy c.self.inside.machine) (seen_copy c.skip.new.self) c.skip.result c.skip.ensures.skips c.self.invariant c.skip.ensures.workable

pub returns-clause-skips : goal.returns-clause-skips
returns-clause-skips c =
    subst (λ (d : SubtreeCopying). SubtreeSkips c.args.cause d c.skip.result (record { top = c.self.inside.top; at = seen_copy c.skip.new.self })) c.self.view_is (record { skips = c.skip.ensures.skips; stands = refl })

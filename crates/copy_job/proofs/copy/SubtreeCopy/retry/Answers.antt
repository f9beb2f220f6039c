-- The machine takes it anew.
use Rattle.std.proofs.Common.{ap, ◌∙◌}
use Rattle.copy_tree.specs.Standing.{Seen, seen_copy}
use Rattle.copy_job.specs.Standing.{SubtreeCopying, retries}
use Rattle.copy_job.proofs.Held.{retried_held}
use Rattle.copy_job.proofs.copy.SubtreeCopy.retry.Goals as goal

pub invariant_of-self : goal.invariant_of-self
invariant_of-self c = retried_held c.self.inside.top c.self.inside.folder (seen_copy c.self.inside.machine) (seen_copy c.retry.new.self) c.retry.ensures.retried c.self.invariant c.retry.ensures.workable

pub returns-clause-retried : goal.returns-clause-retried
returns-clause-retried c =
    ap (λ (s : Seen). (let d : SubtreeCopying = record { top = c.self.inside.top; at = s } in d)) c.retry.ensures.retried ∙ ap (λ (d : SubtreeCopying). retries d) c.self.view_is

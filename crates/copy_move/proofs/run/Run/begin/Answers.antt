-- What is dirty is synced first, or nothing is owed.
use Rattle.std.proofs.Common.{◌≡◌, true, ap, subst, ◌∙◌, refl, inl, inr}
use Rattle.job_reports.specs.declared.report.StepResult.{StepResult}
use Rattle.job_reports.specs.declared.report.Cause.TheVariants.{Memory}
use Rattle.job_reports.specs.declared.report.Did.TheVariants.{Troubled}
use Rattle.copy_move.specs.declared.run.Course.TheVariants.{OwedSyncFailed}
use Rattle.copy_move.specs.Jobs.{IsGoing, IsSound, Running}
use Rattle.copy_move.proofs.FolderSteps.{own_later, settling_later}
use Rattle.copy_move.proofs.OwedSyncs.{owed_unmade}
use Rattle.copy_move.proofs.run.Run.begin.Goals as goal

pub returns-in_default : goal.returns-in_default
returns-in_default g c =
    record { steps = inl (own_later (λ path. g.P.PartTest.is_free c.args.parts.now path ≡ true) _ _ _ _ _ _ _ _ _ _ _ _ c.requires.course c.first_owed.ensures.same c.first_owed.ensures.later c.work_on.ensures.steps) }

pub returns-in_default-copy : goal.returns-in_default-copy
returns-in_default-copy g c =
    record {
      steps = inr (owed_unmade c.in-Some.owed.now _ _ _ c.requires.course c.requires.fresh c.in-Some.ensures.owed
          (subst IsGoing (ap (λ (j : Running). j.work) c.self.view_is) (subst (λ k. IsSound k c.self.inside.work) (ap (λ (j : Running). j.course) c.self.view_is ∙ c.requires.course) c.self.invariant)) _ _ _ _ _ _ _
          (ap (λ (s : StepResult). s.did) c.without_call.ensures ∙ ap Troubled c.out_of_memory.ensures) (ap (λ (s : StepResult). s.calls) c.without_call.ensures)
          (ap (λ (j : Running). let k : Running = record j { course = OwedSyncFailed Memory } in k) c.self.view_is) refl c.first_owed.ensures.same c.first_owed.ensures.later);
    }

pub returns : goal.returns
returns g c =
    record { steps = inr (settling_later _ _ _ _ _ _ _ _ _ _ _ _ c.first_owed.ensures.same c.first_owed.ensures.later c.sync_owed.ensures.steps) }

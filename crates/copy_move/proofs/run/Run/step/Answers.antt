-- A step by the job's course.
use Rattle.std.proofs.Common.{ap, sym, ◌∙◌, ◌≡◌, true, inl}
use Rattle.copy_move.specs.Jobs.{Running}
use Rattle.copy_move.proofs.FolderSteps.{skipped_step, wound_up}
use Rattle.copy_move.proofs.run.Run.step.Goals as goal

pub returns-in-Ends : goal.returns-in-Ends
returns-in-Ends g c =
    record {
      steps = inl (wound_up (λ path. g.P.PartTest.is_free c.args.parts.now path ≡ true) _ _ _ _ _ _ _ _ c.in-Ends.ending _ _ (sym (ap (λ (j : Running). j.course) c.self.view_is) ∙ c.in-Ends.is)
          c.wind_up.ensures.steps);
    }

pub returns-in-Skips : goal.returns-in-Skips
returns-in-Skips g c =
    record {
      steps = inl (skipped_step (λ path. g.P.PartTest.is_free c.args.parts.now path ≡ true) _ _ _ c.in-Skips.cause _ _ _ _ (sym (ap (λ (j : Running). j.course) c.self.view_is) ∙ c.in-Skips.is)
          c.skip.ensures.skips);
    }

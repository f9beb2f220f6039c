-- The work's step, and the course after it.
use Rattle.std.proofs.Common.{◌≡◌, true}
use Rattle.copy_move.proofs.FolderSteps.{worked_on}
use Rattle.copy_move.proofs.run.Run.work_on.Goals as goal

pub returns : goal.returns
returns g c =
    record {
      steps = worked_on (λ path. g.P.PartTest.is_free c.args.parts.now path ≡ true) _ _ _ _ _ _ _ _ _ _ _ _ _ _ _ c.self.view_is c.requires.course c.requires.settled c.requires.cleared c.step-stepped.ensures.steps
          c.after_report-self-inside.ensures;
    }

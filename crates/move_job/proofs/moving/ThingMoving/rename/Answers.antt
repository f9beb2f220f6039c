-- A thing that was renamed stands at its target; a refused call changed no name.
use Rattle.std.proofs.Common.{◌≡◌, ap, ◌∙◌, Ok, Err}
use Rattle.job_reports.specs.declared.report.Did.TheVariants.{Moved}
use Rattle.job_reports.specs.declared.report.StepResult.{StepResult}
use Rattle.move_job.specs.declared.moving.MovingStage.TheVariants.{SyncTarget}
use Rattle.move_job.specs.Movings.{Moving}
use Rattle.move_job.proofs.MovingRuns.{renames_pair, steps_refused, steps_renamed}
use Rattle.move_job.proofs.moving.ThingMoving.rename.Goals as goal

pub returns-in-Ok-rename : goal.returns-in-Ok-rename
returns-in-Ok-rename g c =
    let pair_is : c.in-Ok.pair ≡ c.args.self.now.pair = c.in-Ok.ensures ∙ c.pair.ensures in
    steps_renamed c.args.replies c.args.self.now _ _ _ _ _ c.with_call.result.did c.with_call.result.calls (ap (λ (s : StepResult). s.did) c.with_call.ensures ∙ ap Moved pair_is)
    (ap (λ (s : StepResult). s.calls) c.with_call.ensures) c.requires.stage (ap (λ (m : Moving). let k : Moving = record m { stage = SyncTarget } in k) c.self.view_is)
    (λ log known. c.requires.may log known) (λ log known. renames_pair c.in-Ok.pair c.args.self.now.pair pair_is log (Ok tt) (g.T.ReadTree.contents c.rename.new.self) (c.in-Ok-rename.ensures.answer log known))
    c.rename.ensures.stays_unknown c.rename.ensures.cause.later

pub returns-in-Err : goal.returns-in-Err
returns-in-Err g c =
    let pair_is : c.in-Ok.pair ≡ c.args.self.now.pair = c.in-Ok.ensures ∙ c.pair.ensures in
    steps_refused c.args.replies c.args.self.now _ _ _ _ _ c.not_renamed.result.did c.not_renamed.result.calls c.requires.stage (λ log known. c.requires.may log known) c.rename.ensures.stays_unknown
    c.in-Err.error c.not_renamed.ensures.calls c.not_renamed.ensures.did
    (λ log known. renames_pair c.in-Ok.pair c.args.self.now.pair pair_is log (Err c.in-Err.error) (g.T.ReadTree.contents c.rename.new.self) (c.in-Err.ensures.answer log known)) c.in-Err.ensures.cause

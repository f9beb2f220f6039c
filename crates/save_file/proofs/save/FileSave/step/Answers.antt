-- The bytes that were read are those of the save.
use Rattle.std.proofs.Common.{◌≡◌, ◌∙◌, ap, true}
use Rattle.save_file.specs.Saving.{saving}
use Rattle.save_file.specs.declared.save.FileSave.TheInside.{Inside}
use Rattle.save_file.proofs.Settling.{seen_step}
use Rattle.save_file.proofs.save.FileSave.step.Goals as goal

pub returns-clause-steps : goal.returns-clause-steps
returns-clause-steps g c =
    seen_step (λ path. g.P.PartTest.is_free c.args.parts.now path ≡ true) c.args.self.now c.self-inside.inside.0.0 c.work.new.copy _ c.as_slice.result.now c.work.result.did c.work.result.calls _ _ _ _
    (ap (λ (inside : Inside). saving inside.copy inside.bytes) c.self-inside.view_is ∙ c.self.view_is) c.as_slice.ensures.value c.work.ensures

-- The copy of the file made the step.
use Rattle.std.proofs.Common.{◌≡◌, true}
use Rattle.carry_job.proofs.Stepping.{file_ready, file_works, file_works_going}
use Rattle.carry_job.proofs.file_copying.work_file.Goals as goal

pub step-stepped-requires : goal.step-stepped-requires
step-stepped-requires g c = file_ready c.args.copy.stage c.requires.own.part

pub returns-clause-works : goal.returns-clause-works
returns-clause-works g c =
    file_works (λ path. g.P.PartTest.is_free c.args.parts.now path ≡ true) c.args.copy c.step-stepped.new.self c.step-stepped.result.did c.step-stepped.result.calls c.after_file-stage.result _ _ _ _
    c.step-stepped.ensures.steps c.step-stepped.ensures.sound c.after_file-stage.ensures

pub returns-clause-going : goal.returns-clause-going
returns-clause-going g c =
    file_works_going (λ path. g.P.PartTest.is_free c.args.parts.now path ≡ true) c.args.places.now c.args.copy c.step-stepped.new.self c.step-stepped.result.did c.step-stepped.result.calls
    c.after_file-stage.result _ _ _ _ c.requires.own c.step-stepped.ensures.steps c.after_file-stage.ensures

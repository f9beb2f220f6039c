-- The copy of the link made the step.
use Rattle.carry_job.proofs.Stepping.{link_ready, link_works_going}
use Rattle.carry_job.proofs.link_copying.work_link.Goals as goal

pub step-stepped-requires : goal.step-stepped-requires
step-stepped-requires g c = link_ready c.args.copy.stage c.args.copy.folder c.requires.own.part

pub returns-clause-going : goal.returns-clause-going
returns-clause-going g c =
    link_works_going c.args.places.now c.args.copy c.step-stepped.new.self c.step-stepped.result.did c.step-stepped.result.calls c.after_link-stage.result _ _ _ _
    c.requires.own c.step-stepped.ensures c.after_link-stage.ensures

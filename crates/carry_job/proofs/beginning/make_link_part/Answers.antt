-- The part of a link is made.
use Rattle.carry_job.proofs.Stepping.{link_begins_going}
use Rattle.carry_job.proofs.beginning.make_link_part.Goals as goal

pub returns-clause-going : goal.returns-clause-going
returns-clause-going g c =
    link_begins_going c.args.places.now c.args.folder c.args.copy c.step-stepped.new.self c.step-stepped.result.did c.step-stepped.result.calls c.after_link_beginning-stage.result _ _ _ _
    c.requires.source c.requires.target c.step-stepped.ensures c.after_link_beginning-stage.ensures

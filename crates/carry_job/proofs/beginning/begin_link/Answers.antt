-- The part of a link has a name, or the trouble of that is told.
use Rattle.std.proofs.Common.{◌≡◌, true}
use Rattle.carry_job.proofs.Stepping.{link_begins, link_nameless}
use Rattle.carry_job.proofs.beginning.begin_link.Goals as goal

pub returns-in-Ok-clause-begins : goal.returns-in-Ok-clause-begins
returns-in-Ok-clause-begins g c =
    link_begins (λ path. g.P.PartTest.is_free c.args.parts.now path ≡ true) c.args.places.now c.args.folder c.make_link.result _ _ _ _ c.in-Ok.part _ _
    c.in-Ok.ensures.known c.in-Ok.ensures.peeks.same c.in-Ok.ensures.peeks.later c.make_link.ensures.begins

pub returns-in-Err-clause-begins : goal.returns-in-Err-clause-begins
returns-in-Err-clause-begins g c =
    link_nameless (λ path. g.P.PartTest.is_free c.args.parts.now path ≡ true) c.args.places.now c.args.folder c.uncalled.result _ _ _ _ c.in-Err.trouble
    c.in-Err.ensures.known c.in-Err.ensures.peeks.apart c.in-Err.ensures.peeks.same c.in-Err.ensures.peeks.later c.in-Err.ensures.peeks.fault c.uncalled.ensures

-- What was looked at is begun, or a look stopped it.
use Rattle.std.proofs.Common.{◌≡◌, true}
use Rattle.carry_job.proofs.Stepping.{stopped, taken_up}
use Rattle.carry_job.proofs.beginning.take.Goals as goal

pub returns-in-Ok-clause-works : goal.returns-in-Ok-clause-works
returns-in-Ok-clause-works g c =
    taken_up (λ path. g.P.PartTest.is_free c.args.parts.now path ≡ true) c.args.replies c.args.places.now c.args.folder c.begin.result _ _ _ _ c.in-Ok.taken _ _
    c.in-Ok.ensures.known c.in-Ok.ensures.peeks.same c.in-Ok.ensures.peeks.later c.begin.ensures.begins

pub returns-in-Err-clause-works : goal.returns-in-Err-clause-works
returns-in-Err-clause-works g c =
    stopped (λ path. g.P.PartTest.is_free c.args.parts.now path ≡ true) c.args.replies c.args.places.now c.args.folder c.uncalled.result _ _ _ _ c.in-Err.trouble
    c.in-Err.ensures.known c.in-Err.ensures.peeks.apart c.in-Err.ensures.peeks.same c.in-Err.ensures.peeks.later c.in-Err.ensures.peeks.fault c.uncalled.ensures

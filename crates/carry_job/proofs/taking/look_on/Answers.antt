-- The looks have told what stands at source and target.
use Rattle.std.proofs.Common.{subst}
use Rattle.tree_trait.specs.Change.{current}
use Rattle.copy_file.specs.Looking.{IsThere}
use Rattle.carry_job.proofs.Judged.{judged, judged_peeks, judged_sound}
use Rattle.carry_job.proofs.taking.look_on.Goals as goal

pub returns-in-Ok-clause-known : goal.returns-in-Ok-clause-known
returns-in-Ok-clause-known g c = λ log known.
    judged (current log) c.args.places.now c.args.replies c.args.source (c.requires.stands log known) c.in-Ok.target c.judge.result (subst (λ q. IsThere (current log) q c.in-Ok.target) c.target.ensures (c.in-Ok.ensures.known log known)) c.judge.ensures

pub returns-in-Ok-clause-sound : goal.returns-in-Ok-clause-sound
returns-in-Ok-clause-sound g c = judged_sound c.args.places.now c.args.replies c.args.source c.requires.range c.in-Ok.target c.judge.result c.judge.ensures

pub returns-in-Ok-clause-peeks : goal.returns-in-Ok-clause-peeks
returns-in-Ok-clause-peeks g c =
    judged_peeks c.args.places.now c.args.replies c.args.source c.in-Ok.target c.judge.result _ _ _ _ c.judge.ensures c.in-Ok.ensures.peeks.same c.in-Ok.ensures.peeks.later

-- What is decided of what the looks told.
use Rattle.tree_trait.specs.Change.{current}
use Rattle.copy_file.proofs.JudgedLooks.{judged, refused_stops}
use Rattle.copy_file.proofs.looks.looks.Goals as goal

pub returns-in-Ok-clause-known : goal.returns-in-Ok-clause-known
returns-in-Ok-clause-known g c = λ log known.
    let seen = c.in-Ok.ensures.known log known in
    judged (current log) c.args.item.now c.in-Ok.seen.source seen.passes seen.source seen.is c.in-Ok.seen.target c.judge.result seen.there c.judge.ensures

pub returns-in-Err-clause-known : goal.returns-in-Err-clause-known
returns-in-Err-clause-known g c = λ log known. refused_stops (current log) c.args.item.now c.in-Err.trouble.cause c.in-Err.trouble.path (c.in-Err.ensures.known log known)

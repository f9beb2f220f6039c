-- The names of a folder that comes onto a folder, or why they can't be had.
use Rattle.tree_trait.specs.Change.{current}
use Rattle.move_job.proofs.Taken.{merges_or}
use Rattle.move_job.proofs.taking.names_to_move.Goals as goal

pub returns-clause-known : goal.returns-clause-known
returns-clause-known g c = λ log known.
    let stand = c.requires.stand log known in
    merges_or (current log) c.args.pair.now c.args.source c.args.target stand.0 stand.1 c.requires.meets c.if-source-target.false _ (c.names_to_merge.ensures.known log known)

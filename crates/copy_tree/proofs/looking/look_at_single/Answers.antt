-- The looks have told what stands at source and target.
use Rattle.std.proofs.Common.{◌≡◌, None}
use Rattle.tree_trait.specs.Change.{current}
use Rattle.copy_tree.proofs.Judged.{judged, judged_sound}
use Rattle.copy_tree.proofs.looking.look_at_single.Goals as goal

pub returns-in-Ok-clause-known : goal.returns-in-Ok-clause-known
returns-in-Ok-clause-known g c = λ log known.
    let source = c.requires.known log known in
    judged (current log) c.args.stage c.args.asks.top c.args.asks.replies c.args.pair.now c.args.source source.0 source.1 c.in-Ok.target c.judge.result c.requires.single (c.in-Ok.ensures.known log known) c.judge.ensures

pub returns-in-Ok-clause-sound : goal.returns-in-Ok-clause-sound
returns-in-Ok-clause-sound g c = judged_sound c.args.asks.top c.args.asks.replies c.args.pair.now c.args.source c.requires.range c.in-Ok.target c.judge.result c.judge.ensures

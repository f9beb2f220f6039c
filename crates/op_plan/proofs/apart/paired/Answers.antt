-- at the end both lists were yielded, side by side
use Rattle.std.proofs.Common.{◌∙◌}
use Rattle.std.proofs.lemmas.Iterator.{YieldsList-from_zip}
use Rattle.std.proofs.lemmas.Iterator.Adapters.{YieldsList-from_vec}
use Rattle.std.proofs.lemmas.Iterator.Consumers.{YieldsList-end}
use Rattle.op_plan.proofs.CheckLemmas.{paired-zip}
use Rattle.op_plan.proofs.apart.paired.Goals as goal

pub returns : goal.returns
returns c =
    let end = YieldsList-end (YieldsList-from_zip (YieldsList-from_vec c.args.sources (cc) (cc)) (YieldsList-from_vec c.args.targets (cc) (cc)))
    c.loop-source.yielded c.loop-source.source-iterator c.loop-source.yielded_by c.next.result c.next.new.self c.in-None.is c.next.ensures.steps in
    c.loop-source.invariant ∙ paired-zip c.args.sources c.args.targets c.loop-source.yielded end.0

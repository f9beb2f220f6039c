-- the pairs are those that the plan has
use Rattle.op_plan.proofs.BesideLemmas.{beside_planned, beside_apart, beside_sources, beside_targets}
use Rattle.op_plan.proofs.apart.pairs_beside.Goals as goal

pub returns-clause-answer : goal.returns-clause-answer
returns-clause-answer c =
    beside_planned c.args.folder.now c.args.sources c.kept_pairs.result c.requires.some c.requires.beside
    c.kept_pairs.ensures.made c.kept_pairs.ensures.fits c.kept_pairs.ensures.too_long

pub returns-clause-apart : goal.returns-clause-apart
returns-clause-apart c = beside_apart c.args.folder.now c.args.sources c.kept_pairs.result c.requires.some c.requires.beside c.kept_pairs.ensures.made

pub returns-clause-sources : goal.returns-clause-sources
returns-clause-sources c = beside_sources c.args.folder.now c.args.sources c.kept_pairs.result c.kept_pairs.ensures.made

pub returns-clause-placed : goal.returns-clause-placed
returns-clause-placed c = beside_targets c.args.folder.now c.args.sources c.kept_pairs.result c.kept_pairs.ensures.made

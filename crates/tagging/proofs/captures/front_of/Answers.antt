use Rattle.tagging.proofs.FrontLemmas.{seam}
use Rattle.tagging.proofs.captures.front_of.Goals as goal

pub split_at-requires : goal.split_at-requires
split_at-requires c = seam c.args.part.now c.args.behind.now c.args.text.now c.in_ok-more.more.now c.utf8.text c.in_ok-more.ensures

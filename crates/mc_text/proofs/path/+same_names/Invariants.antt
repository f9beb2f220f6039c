-- The names left.
use Rattle.std.proofs.Common.{length}
use Rattle.mc_text.proofs.path.+same_names.Given as goal

abbrev pub decreases-same_names : goal.decreases-same_names
decreases-same_names l = length l.mine.now

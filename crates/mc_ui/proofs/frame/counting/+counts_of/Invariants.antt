-- the rows that are left to count
use Rattle.std.proofs.Common.{length}
use Rattle.mc_ui.proofs.frame.counting.+counts_of.Given as goal

abbrev pub decreases-counts_of : goal.decreases-counts_of
decreases-counts_of l = length l.rows.now

use Rattle.std.proofs.Common.{length}
use Rattle.host_tree.proofs.real_path.+walk.Given as goal

-- the folder above has a shorter text
abbrev pub decreases-walk : goal.decreases-walk
decreases-walk g l = length l.folder.now

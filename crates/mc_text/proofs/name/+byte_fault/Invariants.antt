-- The bytes left.
use Rattle.std.proofs.Common.{length}
use Rattle.mc_text.proofs.name.+byte_fault.Given as goal

abbrev pub decreases-byte_fault : goal.decreases-byte_fault
decreases-byte_fault l = length l.bytes.now

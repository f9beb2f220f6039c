-- what was passed over is parameters, and what is left decides
use Rattle.std.proofs.Common.{◌≡◌, [], take, drop}
use Rattle.key_screen.specs.KeySpelling.{sequence}
use Rattle.key_screen.proofs.sequences.sequence.Given as goal

abbrev pub invariant-loop-count : goal.invariant-loop-count
invariant-loop-count l = sequence [] l.bytes ≡ sequence (take l.count l.bytes) (drop l.count l.bytes)

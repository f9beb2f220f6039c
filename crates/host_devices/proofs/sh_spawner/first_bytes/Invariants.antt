use Rattle.std.proofs.Common.{◌≤◌, vec_len}
use Rattle.host_devices.proofs.sh_spawner.first_bytes.Given as goal

-- what is kept so far is within `OUTPUT_BYTES`
abbrev pub invariant-loop : goal.invariant-loop
invariant-loop g l = vec_len l.kept ≤ 1048576

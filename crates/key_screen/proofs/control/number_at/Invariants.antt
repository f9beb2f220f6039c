-- the digits that are left, behind those that were read
use Rattle.std.proofs.Common.{◌≡◌, ◌≤◌, drop}
use Rattle.key_screen.specs.Controls.{number_from}
use Rattle.key_screen.proofs.control.number_at.Given as goal

abbrev pub invariant-loop-digits : goal.invariant-loop-digits
invariant-loop-digits l =
    (l.value ≤ 65536) × (number_from l.value l.digits (drop l.digits l.bytes) ≡ number_from 0 0 l.bytes)

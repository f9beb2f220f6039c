-- What is left decides as all that lies before the bracket does.
use Rattle.std.proofs.Common.{◌≡◌, ◌+◌, ◌-◌, ◌≤◌, take, reverse}
use Rattle.mc_edit.specs.Brackets.{partner_away}
use Rattle.mc_edit.proofs.brackets.partner_before.Given as goal

abbrev pub invariant-loop-end : goal.invariant-loop-end
invariant-loop-end l =
    (l.end ≤ l.at) × (l.open + l.end ≤ l.at) ×
    (partner_away l.ours l.partner l.open (l.at + 1 - l.end) (reverse (take l.end l.text.bytes))
    ≡ partner_away l.ours l.partner 0 1 (reverse (take l.at l.text.bytes)))

abbrev pub decreases-loop-end : goal.decreases-loop-end
decreases-loop-end l = l.end

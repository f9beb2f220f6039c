-- What is left decides as all that lies behind the bracket does.
use Rattle.std.proofs.Common.{◌≡◌, ◌+◌, ◌-◌, ◌≤◌, drop}
use Rattle.mc_edit.specs.Brackets.{partner_away}
use Rattle.mc_edit.proofs.brackets.partner_behind.Given as goal

abbrev pub invariant-loop-place : goal.invariant-loop-place
invariant-loop-place l =
    (l.open ≤ l.place) ×
    (partner_away l.ours l.partner l.open (l.place - l.at) (drop l.place l.text.bytes)
    ≡ partner_away l.ours l.partner 0 1 (drop (l.at + 1) l.text.bytes))

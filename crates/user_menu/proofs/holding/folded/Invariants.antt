-- What is left decides.
use Rattle.std.proofs.Common.{◌≡◌, drop, true}
use Rattle.user_menu.specs.Holding.{folded_values}
use Rattle.user_menu.proofs.holding.folded.Given as goal

abbrev pub invariant-loop-value : goal.invariant-loop-value
invariant-loop-value l = folded_values l.so_far (drop l.value-index l.values) ≡ folded_values true l.values

-- The last so far counts where none of the rest answers.
use Rattle.std.proofs.Common.{◌≡◌, length}
use Rattle.std.specs.Option.{option_or, option_copied}
use Rattle.user_menu.specs.ShownEntries.{last_asked}
use Rattle.user_menu.proofs.standing.last_asked.Given as goal

abbrev pub invariant-loop-asked : goal.invariant-loop-asked
invariant-loop-asked l = option_or (last_asked l.question l.rest) (option_copied l.last) ≡ last_asked l.question l.conditions

abbrev pub decreases-loop-asked : goal.decreases-loop-asked
decreases-loop-asked l = length l.rest

use Rattle.std.proofs.Common.{◌≡◌, take}
use Rattle.std.specs.FinSet.{difference}
use Rattle.tagging.specs.TagSets.{names_in}
use Rattle.tagging.proofs.tags.Tags.unselect.Given as goal

abbrev pub invariant-loop-name : goal.invariant-loop-name
invariant-loop-name l = l.self ≡ difference l.initial.self (names_in (take l.name-index l.name-items))

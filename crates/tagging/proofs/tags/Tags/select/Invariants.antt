use Rattle.std.proofs.Common.{◌≡◌, take}
use Rattle.std.specs.FinSet.{union}
use Rattle.tagging.specs.TagSets.{names_in}
use Rattle.tagging.proofs.tags.Tags.select.Given as goal

abbrev pub invariant-loop-name : goal.invariant-loop-name
invariant-loop-name l = l.after ≡ union l.initial.after (names_in (take l.name-index l.name-items))

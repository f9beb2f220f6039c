use Rattle.std.proofs.Common.{◌≡◌, take}
use Rattle.tagging.specs.TagSets.{names_in, inverted_tags}
use Rattle.tagging.proofs.tags.Tags.invert.Given as goal

abbrev pub invariant-loop-name : goal.invariant-loop-name
invariant-loop-name l = l.after ≡ inverted_tags l.initial.after (names_in (take l.name-index l.name-items))

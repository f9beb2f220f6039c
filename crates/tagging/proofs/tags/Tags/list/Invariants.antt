use Rattle.std.proofs.Common.{◌≡◌, take, filter}
use Rattle.std.specs.FinSet.{contains}
use Rattle.tagging.proofs.tags.Tags.list.Given as goal

abbrev pub invariant-loop-name : goal.invariant-loop-name
invariant-loop-name l = l.listed ≡ filter (contains l.self) (take l.name-index l.name-items)

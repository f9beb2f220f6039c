use Rattle.std.proofs.Common.{◌≡◌, take, filter, map}
use Rattle.tagging.specs.Compared.{differs, stamp_of}
use Rattle.tagging.proofs.compare.given.Given as goal

abbrev pub invariant-loop-fact : goal.invariant-loop-fact
invariant-loop-fact l = l.names ≡ map (λ fact. fact.name) (filter (λ fact. differs fact (stamp_of l.theirs fact.name)) (take l.fact-index l.mine))

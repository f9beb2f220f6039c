use Rattle.std.proofs.Common.{◌≡◌, ℕ, List, take}
use Rattle.std.specs.BTreeMap.{get_by_text}
use Rattle.tagging.specs.Compared.{stamp_of}
use Rattle.tagging.proofs.compare.stamps_of.Given as goal

abbrev pub invariant-loop-fact : goal.invariant-loop-fact
invariant-loop-fact l = (name : List ℕ) → get_by_text l.stamps name ≡ stamp_of (take l.fact-index l.facts) name

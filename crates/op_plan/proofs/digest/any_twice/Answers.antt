-- the order of the numbers doesn't matter, and once they are sorted two neighbours are one
use Rattle.std.proofs.Common.{◌==◌, ◌∙◌, ap, List, ℕ}
use Rattle.op_plan.specs.Sorting.{has_neighbours}
use Rattle.op_plan.proofs.DigestLemmas.{numbers-twice}
use Rattle.op_plan.proofs.digest.any_twice.Goals as goal

pub returns : goal.returns
returns c =
    c.neighbours_same.ensures
    ∙ (ap (λ (l : List ℕ). has_neighbours (λ a b. a == b) l) c.as_slice.ensures.value
    ∙ numbers-twice c.args.numbers.items c.sort_unstable.new.self.items c.sort_unstable.ensures.permutation c.sort_unstable.ensures.sorted)

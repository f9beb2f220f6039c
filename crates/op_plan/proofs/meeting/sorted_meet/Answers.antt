-- the order of the paths doesn't matter, and once they are sorted two neighbours meet
use Rattle.std.proofs.Common.{◌∙◌, sym, ap, map, List}
use denote.Ref.{Bor}
use Rattle.mc_text.specs.Routes.{Route}
use Rattle.op_plan.specs.Sorting.{neighbours_meet}
use Rattle.op_plan.proofs.Sorted.{neighbours-sorted}
use Rattle.op_plan.proofs.Twos.{two-permutation}
use Rattle.op_plan.proofs.meeting.sorted_meet.Goals as goal

pub returns : goal.returns
returns c =
    let path : Bor Route → Route = λ p. p.now in
    let sorted = map path c.in_ok-sorted.sorted.items in
    c.neighbours_meet.ensures
    ∙ (ap (λ (l : List (Bor Route)). neighbours_meet (map path l)) c.as_slice.ensures.value
    ∙ (sym (neighbours-sorted sorted c.in_ok-sorted.ensures.sorted) ∙ sym (two-permutation c.args.paths.now sorted c.in_ok-sorted.ensures.permutation)))

-- all names were looked at
use Rattle.std.proofs.Common.{◌≡◌, ◌==◌, ◌∙◌, sym, ap, false, map}
use Rattle.std.specs.Str.{bytes_eq}
use Rattle.std.proofs.lemmas.List.{take_all}
use Rattle.op_plan.specs.Meeting.{has_two}
use Rattle.op_plan.specs.Digests.{digest}
use Rattle.op_plan.proofs.DigestLemmas.{unless_twice, told_apart}
use Rattle.op_plan.proofs.digest.are_told_apart.Goals as goal

pub returns : goal.returns
returns c =
    let names = c.args.names.now in
    let numbers = c.loop-name.digests.items in
    let all : numbers ≡ map digest names = c.loop-name.invariant ∙ ap (map digest) (take_all c.loop-name.name-index names c.loop-name-test.false) in
    unless_twice numbers c.any_twice.result (has_two bytes_eq names ≡ false) c.any_twice.ensures
    (λ once. told_apart names (ap (has_two (λ a b. a == b)) (sym all) ∙ once))

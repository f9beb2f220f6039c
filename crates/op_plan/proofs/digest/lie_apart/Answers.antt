-- all paths were looked at
use Rattle.std.proofs.Common.{◌≡◌, ◌==◌, ◌∙◌, sym, ap, ℕ, map, arith}
use Rattle.std.proofs.lemmas.List.{take_all}
use Rattle.mc_text.specs.Routes.{Route}
use Rattle.op_plan.specs.Meeting.{has_two}
use Rattle.op_plan.specs.Digests.{digest, name_of, LieApart}
use Rattle.op_plan.proofs.DigestLemmas.{unless_twice, lie_apart}
use Rattle.op_plan.proofs.digest.lie_apart.Goals as goal

pub returns : goal.returns
returns c =
    let paths = c.args.paths.now in
    let numbers = c.loop-path.digests.items in
    let number : Route → ℕ = λ path. digest (name_of path) in
    let all : numbers ≡ map number paths = c.loop-path.invariant.numbers ∙ ap (map number) (take_all c.loop-path.path-index paths c.loop-path-test.false) in
    unless_twice numbers c.any_twice.result (LieApart c.args.folder.now paths) c.any_twice.ensures
    (λ once. lie_apart c.args.folder.now paths (λ k d below. c.loop-path.invariant.children k d (omega (arith, below, c.loop-path-test.false)))
    (ap (has_two (λ a b. a == b)) (sym all) ∙ once))

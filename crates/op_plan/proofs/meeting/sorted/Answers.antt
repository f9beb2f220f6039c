-- the closure compares as the paths' order does
use Rattle.std.proofs.Common.{◌≡◌, ◌∙◌, subst, map, rules, List}
use denote.Ref.{Bor}
use Rattle.std.specs.Ordering.{is_lt}
use Rattle.std.specs.List.Sorted.{IsPermutation}
use Rattle.std.proofs.lemmas.List.{take_all}
use Rattle.std.proofs.lemmas.List.Sorted.{ranks_by, answers_always, IsPermutation-map}
use Rattle.mc_text.specs.Routes.{Route}
use Rattle.op_plan.specs.Sorting.{route_cmp}
use Rattle.op_plan.proofs.Sorted.{route_total, sorted-map}
use Rattle.op_plan.proofs.meeting.sorted.Goals as goal

pub returns-clause-permutation : goal.returns-clause-permutation
returns-clause-permutation c =
    let path : Bor Route → Route = λ p. p.now in
    let new = c.sort_unstable_by.new.self.items in
    let all : map path c.loop-path.sorted.items ≡ c.args.paths.now = c.loop-path.invariant ∙ take_all c.loop-path.path-index c.args.paths.now c.loop-path-test.false in
    let P : List Route → Type 0 = λ l. IsPermutation l (map path new) in
    subst P all (IsPermutation-map path c.loop-path.sorted.items new c.sort_unstable_by.ensures.permutation)

pub returns-clause-sorted : goal.returns-clause-sorted
returns-clause-sorted c =
    sorted-map (λ a b. is_lt (route_cmp a b)) (λ (p : Bor Route). p.now) c.sort_unstable_by.new.self.items
    (c.sort_unstable_by.ensures.sorted (λ (a b : Bor Route). is_lt (route_cmp a.now b.now)) (ranks_by route_total (λ (p : Bor Route). p.now)) (answers_always _ _ _ (λ f a r g k. search rules)))

-- One value more, before those of what is left.
use Rattle.std.proofs.Common.{[], ◌∷◌, ◌++◌, List, map, ap, ◌∙◌, sym, subst, arith, append_assoc}
use Rattle.user_menu.specs.declared.condition.Joined.{Joined}
use Rattle.user_menu.specs.declared.holding.Value.{Value}
use Rattle.user_menu.specs.Facts.{IsAskedOf, AsksNoTree}
use Rattle.user_menu.specs.Holding.{value_of, EachTest}
use Rattle.user_menu.proofs.holding.holds.Goals as goal

pub loop-first-preserved : goal.loop-first-preserved
loop-first-preserved g c =
    let first = c.in-Some.first.now in
    let more = c.in-Some.more.now in
    let left = c.in-Some.ensures.cases.0 in
    let all = c.loop-first.invariant in
    let one = c.in_ok-is_met.ensures in
    record {
      same = one.same ∙ all.same;
      later = omega (arith, all.later, one.cause.later);
      unasked = λ asks.
          let whole = all.unasked asks in
          let each : EachTest AsksNoTree (first ∷ more) = subst (λ (terms : List Joined). EachTest AsksNoTree terms) left whole.0 in
          (each.1, one.unasked each.0 ∙ whole.1);
      told = λ s told.
          let each : EachTest (IsAskedOf (g.T.ReadTree.contents c.args.tree.now) s) (first ∷ more) =
          subst (λ (terms : List Joined). EachTest (IsAskedOf (g.T.ReadTree.contents c.args.tree.now) s) terms) left (all.told s told) in
          each.1;
      values_are = λ s told.
          let each : EachTest (IsAskedOf (g.T.ReadTree.contents c.args.tree.now) s) (first ∷ more) =
          subst (λ (terms : List Joined). EachTest (IsAskedOf (g.T.ReadTree.contents c.args.tree.now) s) terms) left (all.told s told) in
          let asked : IsAskedOf (g.T.ReadTree.contents c.loop-first.tree) s first.term.test =
          subst (λ contents. IsAskedOf contents s first.term.test) (sym all.same) each.0 in
          let valued = value_of s c.args.here.now c.args.other.now in
          let before = c.loop-first.values.items in
          ap (λ items. items ++ map valued more)
          (c.in_ok-push.ensures.pushed
          ∙ ap (λ is. before ++ (let value : Value = record { joint = first.joint; is_met = is } in value) ∷ []) (one.answer s asked))
          ∙ append_assoc before (valued first ∷ []) (map valued more)
          ∙ ap (λ terms. before ++ map valued terms) (sym left)
          ∙ all.values_are s told;
    }

-- One standing more, before those of what is left.
use Rattle.std.proofs.Common.{[], ◌∷◌, ◌++◌, List, map, ap, ◌∙◌, sym, subst, arith, append_assoc}
use Rattle.user_menu.specs.Menus.{MenuEntry}
use Rattle.user_menu.specs.Facts.{IsAskedOf, AsksNoTree}
use Rattle.user_menu.specs.ShownEntries.{standing_of, EachTestAsked, EachTestIn}
use Rattle.user_menu.proofs.showing.standings_of.Goals as goal

pub loop-entry-preserved : goal.loop-entry-preserved
loop-entry-preserved g c =
    let entry = c.in-Some.entry.now in
    let more = c.in-Some.more.now in
    let left = c.in-Some.ensures.cases.0 in
    let all = c.loop-entry.invariant in
    let one = c.in_ok-standing.ensures in
    record {
      same = one.same ∙ all.same;
      later = omega (arith, all.later, one.cause.later);
      unasked = λ asks.
          let whole = all.unasked asks in
          let each : EachTestIn AsksNoTree (entry ∷ more) = subst (λ (entries : List MenuEntry). EachTestIn AsksNoTree entries) left whole.0 in
          (each.1, one.unasked each.0 ∙ whole.1);
      told = λ s told.
          let each : EachTestIn (IsAskedOf (g.T.ReadTree.contents c.args.tree.now) s) (entry ∷ more) =
          subst (λ (entries : List MenuEntry). EachTestIn (IsAskedOf (g.T.ReadTree.contents c.args.tree.now) s) entries) left (all.told s told) in
          each.1;
      standings_are = λ s told.
          let each : EachTestIn (IsAskedOf (g.T.ReadTree.contents c.args.tree.now) s) (entry ∷ more) =
          subst (λ (entries : List MenuEntry). EachTestIn (IsAskedOf (g.T.ReadTree.contents c.args.tree.now) s) entries) left (all.told s told) in
          let asked : EachTestAsked (IsAskedOf (g.T.ReadTree.contents c.loop-entry.tree) s) entry.conditions =
          subst (λ contents. EachTestAsked (IsAskedOf contents s) entry.conditions) (sym all.same) each.0 in
          let stands = standing_of s c.args.here.now c.args.other.now in
          let before = c.loop-entry.standings.items in
          ap (λ items. items ++ map stands more)
          (c.in_ok-push.ensures.pushed ∙ ap (λ standing. before ++ standing ∷ []) (one.answer s asked))
          ∙ append_assoc before (stands entry ∷ []) (map stands more)
          ∙ ap (λ entries. before ++ map stands entries) (sym left)
          ∙ all.standings_are s told;
    }

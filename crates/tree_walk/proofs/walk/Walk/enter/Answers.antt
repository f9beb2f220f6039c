-- A folder takes fewer steps than it was counted for.
use Rattle.std.proofs.Common.{◌≡◌, ◌-◌, ◌≤◌, ◌<◌, ◌∷◌, List, length, sym, ◌∙◌, ap, subst}
use Rattle.tree_walk.specs.Places.{OpenFolder, Walking, opened_folder, without_next}
use Rattle.tree_walk.specs.Ranks.{rank}
use Rattle.tree_walk.proofs.Falling.{enter_falls}
use Rattle.tree_walk.proofs.walk.Walk.enter.Goals as goal

pub returns-clause-falls : goal.returns-clause-falls
returns-clause-falls c = λ some.
    let inner : c.replace-around.new.dest ≡ opened_folder c.args.path c.args.names = c.replace-around.ensures.after ∙ c.new.ensures.opened in
    let around : c.add.new.self.nearest ≡ without_next c.self.inside.inner ∷ c.self.inside.around.nearest =
    c.add.ensures.added ∙ ap (λ (o : OpenFolder). o ∷ c.self.inside.around.nearest) (c.replace-around.ensures.value ∙ c.pass.ensures) in
    subst (λ (w : Walking). rank (record { inner = c.replace-around.new.dest; around = c.add.new.self.nearest; left = c.self.inside.left - 1 }) < rank w.place) c.self.view_is
    (subst (λ (o : OpenFolder). rank (record { inner = o; around = c.add.new.self.nearest; left = c.self.inside.left - 1 })
    < rank (record { inner = c.self.inside.inner; around = c.self.inside.around.nearest; left = c.self.inside.left })) (sym inner)
    (subst (λ (a : List OpenFolder). rank (record { inner = opened_folder c.args.path c.args.names; around = a; left = c.self.inside.left - 1 })
    < rank (record { inner = c.self.inside.inner; around = c.self.inside.around.nearest; left = c.self.inside.left })) (sym around)
    (enter_falls c.args.path c.args.names (record { inner = c.self.inside.inner; around = c.self.inside.around.nearest; left = c.self.inside.left })
    (subst (λ (w : Walking). 1 ≤ length w.place.inner.names) (sym c.self.view_is) some)
    (subst (λ (w : Walking). 1 ≤ w.place.left) (sym c.self.view_is) c.requires.deeper)
    c.new.ensures.few)))

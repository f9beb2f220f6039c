-- A name the less is to be met.
use Rattle.std.proofs.Common.{◌≤◌, ◌<◌, length, sym, ◌∙◌, ap, subst}
use Rattle.tree_walk.specs.Places.{OpenFolder, Walking, noted_folder}
use Rattle.tree_walk.specs.Ranks.{rank}
use Rattle.tree_walk.proofs.Falling.{pass_falls}
use Rattle.tree_walk.proofs.walk.Walk.pass.Goals as goal

pub returns-clause-falls : goal.returns-clause-falls
returns-clause-falls c = λ some.
    subst (λ (w : Walking). rank (record { inner = c.note.new.self; around = c.self.inside.around.nearest; left = c.self.inside.left }) < rank w.place) c.self.view_is
    (subst (λ (o : OpenFolder). rank (record { inner = o; around = c.self.inside.around.nearest; left = c.self.inside.left })
    < rank (record { inner = c.self.inside.inner; around = c.self.inside.around.nearest; left = c.self.inside.left }))
    (sym (c.note.ensures ∙ ap (noted_folder c.args.left) c.pass.ensures))
    (pass_falls c.args.left (record { inner = c.self.inside.inner; around = c.self.inside.around.nearest; left = c.self.inside.left })
    (subst (λ (w : Walking). 1 ≤ length w.place.inner.names) (sym c.self.view_is) some)))

use Rattle.std.proofs.Common.{◌<◌, length, sym, ◌∙◌, ap, subst, reverse}
use Rattle.mem_tree.specs.Held.{Held}
use Rattle.mem_tree.proofs.Mounted.{kept_mount}
use Rattle.mem_tree.proofs.tree.MemTree.mount.Goals as goal

pub invariant_of-self : goal.invariant_of-self
invariant_of-self c =
    kept_mount c.self.inside.opening c.in_ok-opening.opening c.in-Ok.stands (reverse c.names.result.now) c.args.capacity c.self.inside.records.items c.self.invariant.sound
    (subst (λ (h : Held). length h.log.opening.mounts < 1000) (sym c.self.view_is) c.requires.few)
    (ap (λ (h : Held). h.log.changes) c.self.view_is ∙ c.requires.unused) c.in_ok-opening.ensures.mounted c.in-Ok.ensures

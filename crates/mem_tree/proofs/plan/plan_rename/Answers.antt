use Rattle.std.proofs.Common.{◌≡◌, sym, ◌∙◌, subst, Some}
use Rattle.mc_text.specs.Routes.{Route}
use Rattle.tree_trait.specs.FileSystem.{find}
use Rattle.tree_trait.specs.Change.{found_node}
use Rattle.mem_tree.proofs.Plans.{moved_found}
use Rattle.mem_tree.proofs.plan.plan_rename.Goals as goal

pub move_step-requires : goal.move_step-requires
move_step-requires c =
    let s = c.args.fs.now in
    subst (λ (p : Route). find s p ≡ Some (found_node s p)) (sym c.names.ensures.names) (moved_found s c.args.from.now c.args.to.now (sym c.refuse_rename.ensures ∙ c.in-None.is))

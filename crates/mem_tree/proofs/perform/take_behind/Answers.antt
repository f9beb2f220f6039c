use Rattle.std.proofs.Common.{◌∙◌, subst, List, Some, None}
use Rattle.tree_trait.specs.declared.file_system.NameEdit.{NameEdit}
use Rattle.mem_tree.specs.Live.{IsPlaceBehind}
use Rattle.mem_tree.proofs.Ends.{taken_behind, none_taken}
use Rattle.mem_tree.proofs.perform.take_behind.Goals as goal

pub returns-in-Some : goal.returns-in-Some
returns-in-Some c once =
    c.remove.ensures.left
    ∙ taken_behind c.args.folder c.args.name.now c.args.names.now c.in-Some.k
    (subst (λ (es : List NameEdit). IsPlaceBehind c.args.folder c.args.name.now es (Some c.in-Some.k)) c.as_slice.ensures c.in-Some.ensures) once

pub returns-in_default : goal.returns-in_default
returns-in_default c once =
    none_taken c.args.folder c.args.name.now c.args.names.now
    (subst (λ (es : List NameEdit). IsPlaceBehind c.args.folder c.args.name.now es None) c.as_slice.ensures c.in_default.ensures)

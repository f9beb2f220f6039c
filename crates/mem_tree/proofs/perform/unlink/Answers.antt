use Rattle.std.proofs.Common.{◌∙◌, ap, List}
use Rattle.tree_trait.specs.declared.file_system.NameEdit.{NameEdit}
use Rattle.tree_trait.specs.declared.file_system.FileSystem.{FileSystem}
use Rattle.mem_tree.proofs.Ends.{ended}
use Rattle.mem_tree.proofs.perform.unlink.Goals as goal

pub returns-clause-stands : goal.returns-clause-stands
returns-clause-stands c =
    ap (λ (es : List NameEdit). let t : FileSystem = record c.args.stands.now { names = es } in t) c.remove-old.ensures.left
    ∙ ended c.args.stands.now c.args.at c.args.node c.remove-old.result c.requires.once c.remove-old.ensures.item

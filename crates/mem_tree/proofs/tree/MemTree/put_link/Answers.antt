use Rattle.std.proofs.Common.{sym, subst, arith}
use Rattle.tree_trait.specs.declared.file_system.Node.{Node}
use Rattle.mem_tree.specs.Sound.{FitsNode}
use Rattle.mem_tree.proofs.tree.MemTree.put_link.Goals as goal

pub put_node-requires-clause-fits : goal.put_node-requires-clause-fits
put_node-requires-clause-fits c =
    subst (λ (n : Node). FitsNode n) (sym c.in-Ok.ensures)
    (record { mode = omega arith; size = (let short = c.requires.link_text.short in omega (arith, short)); link = λ h. record { says = c.requires.link_text; utf8 = c.utf8.text } })

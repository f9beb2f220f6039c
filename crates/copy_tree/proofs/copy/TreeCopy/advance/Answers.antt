-- Nothing is at work.
use Rattle.std.proofs.Common.{◌≡◌, true, sym, ◌∙◌}
use Rattle.copy_tree.specs.Standing.{seen_copy}
use Rattle.copy_tree.proofs.TakenUp.{next_advances}
use Rattle.copy_tree.proofs.copy.TreeCopy.advance.Goals as goal

pub returns-in-Next-clause-advances : goal.returns-in-Next-clause-advances
returns-in-Next-clause-advances g c =
    next_advances (g.P.PartTest.is_free c.args.parts.now) c.args.replies (seen_copy c.args.self.now) (seen_copy c.go_on.new.self) c.replace.new.dest c.go_on.result (g.T.ReadTree.contents c.args.tree.now) (g.T.ReadTree.contents c.go_on.new.tree)
    (g.T.ReadTree.fault_count c.args.tree.now) (g.T.ReadTree.fault_count c.go_on.new.tree) (sym c.replace.ensures.value ∙ c.in-Next.is) c.replace.ensures.after c.go_on.ensures.advances

-- The copy of the file begins with its part.
use Rattle.std.proofs.Common.{◌≡◌, true, subst, inr}
use Rattle.copy_file.specs.Copying.{Copying}
use Rattle.copy_tree.specs.Parts.{IsPartPlace}
use Rattle.copy_tree.specs.Standing.{seen_copy}
use Rattle.copy_tree.specs.TreeCopySteps.{FileBegins}
use Rattle.copy_tree.proofs.copy.TreeCopy.begin_file.Goals as goal

pub returns-in-Ok-clause-works : goal.returns-in-Ok-clause-works
returns-in-Ok-clause-works g c =
    inr (subst (λ (f : Copying). FileBegins (IsPartPlace (g.P.PartTest.is_free c.args.parts.now) (seen_copy c.args.self.now)) c.args.facts f (seen_copy c.args.self.now) (seen_copy c.make_part.new.self) c.make_part.result.did (g.T.ReadTree.contents c.args.tree.now)
    (g.T.ReadTree.contents c.make_part.new.tree)) c.in-Ok.ensures c.make_part.ensures.works)

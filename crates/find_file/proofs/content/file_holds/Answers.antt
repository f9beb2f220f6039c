-- The finder seeks the content.
use Rattle.std.proofs.Common.{◌≡◌, Bool, take, subst}
use Rattle.tree_trait.specs.Calls.{ReadAt}
use Rattle.tree_trait.specs.FileSystem.{node}
use Rattle.tree_trait.specs.Change.{current, found_node}
use Rattle.tree_trait.specs.Answers.{Reads}
use Rattle.find_file.specs.FoundList.{holds}
use Rattle.find_file.proofs.content.file_holds.Goals as goal

pub returns-clause-answer : goal.returns-clause-answer
returns-clause-answer g c = λ log known.
    subst (λ content. Reads {A = Bool} log (ReadAt c.args.path.now 0 0) c.read_through-2.result (λ is. is ≡ holds content (take c.args.size (node (current log) (found_node (current log) c.args.path.now)).bytes)))
    c.new.ensures (c.read_through-2.ensures.answer log known)

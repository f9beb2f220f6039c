-- A folder is refused as one.
use Rattle.std.proofs.Common.{subst}
use Rattle.tree_trait.specs.declared.calls.TreeError.{TreeError}
use Rattle.ui_editor.specs.EditorOpenings.{IsUnread}
use Rattle.ui_editor.proofs.opening.open_path.Goals as goal

pub returns-in-Err-IsFolder-clause-opens : goal.returns-in-Err-IsFolder-clause-opens
returns-in-Err-IsFolder-clause-opens g c = λ log known.
    subst (λ (why : TreeError). IsUnread log c.args.path why) c.in-Err-IsFolder.field-0-is (c.in-Err-IsFolder.ensures.refused log known)

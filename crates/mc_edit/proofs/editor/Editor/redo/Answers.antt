-- The change that stands first leads on.
use Rattle.mc_edit.proofs.ChangeLemmas.{redone-none, first_leads_on}
use Rattle.mc_edit.proofs.editor.Editor.redo.Goals as goal

pub returns-in_default-clause-refused : goal.returns-in_default-clause-refused
returns-in_default-clause-refused c =
    λ other. rw (← c.self.view_is) (redone-none c.self.inside.text.bytes c.self.inside.undo.future _ c.in_default.ensures)

pub make_again-requires : goal.make_again-requires
make_again-requires c =
    first_leads_on c.self.inside.text.bytes c.in-Some.change.now c.self.inside.undo.future c.in-Some.ensures c.self.invariant.leads_on

-- The change that stands first leads back.
use Rattle.mc_edit.proofs.ChangeLemmas.{undone-none, first_leads_here}
use Rattle.mc_edit.proofs.editor.Editor.undo.Goals as goal

pub returns-in_default-clause-refused : goal.returns-in_default-clause-refused
returns-in_default-clause-refused c =
    λ other. rw (← c.self.view_is) (undone-none c.self.inside.text.bytes c.self.inside.undo.past _ c.in_default.ensures)

pub take_back-requires : goal.take_back-requires
take_back-requires c =
    first_leads_here c.self.inside.text.bytes c.in-Some.change.now c.self.inside.undo.past c.in-Some.ensures c.self.invariant.leads_here

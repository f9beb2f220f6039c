-- What is left of the commands leads from here to where all of them lead.
use Rattle.std.proofs.Common.{◌≡◌, length}
use Rattle.mc_edit.specs.CommandLists.{after_commands}
use Rattle.mc_edit.proofs.editor.Editor.commands.Given as goal

abbrev pub invariant-loop-first : goal.invariant-loop-first
invariant-loop-first l = after_commands l.left l.self ≡ after_commands l.commands l.fn.self

abbrev pub decreases-loop-first : goal.decreases-loop-first
decreases-loop-first l = length l.left

-- What lies off the folders that are still to be asked lies off all; the tree is as it was.
use Rattle.std.proofs.Common.{◌≡◌, ◌≤◌, length, suc, Option, Some, None}
use Rattle.std.specs.Option.{option_map_or}
use Rattle.mc_text.specs.Routes.{Route}
use Rattle.tree_trait.specs.declared.file_system.FileSystem.{FileSystem}
use Rattle.tree_trait.specs.Change.{current}
use Rattle.tree_trait.specs.Answers.{IfKnown}
use Rattle.copy_move.specs.MountNumbers.{IsMountOf, LiesApart, LiesOff}
use Rattle.copy_move.proofs.owed.is_above.Given as goal

-- off the next folder, if there is one, and off each on the way to it
abbrev pub LiesOffNext : FileSystem → Option Route → Route → Type 0
LiesOffNext s None kept = Unit {0}
LiesOffNext s (Some folder) kept = LiesOff s folder kept

abbrev pub invariant-loop-above : goal.invariant-loop-above
invariant-loop-above g l =
    (g.T.ReadTree.contents l.tree ≡ g.T.ReadTree.contents l.fn.tree)
    × (g.T.ReadTree.fault_count l.fn.tree ≤ g.T.ReadTree.fault_count l.tree)
    × IfKnown (g.T.ReadTree.contents l.fn.tree) (λ log. (kept : Route) → IsMountOf (current log) kept l.fn.number
    → LiesApart (current log) l.fn.folder kept → LiesOffNext (current log) l.above kept → LiesOff (current log) l.fn.folder kept)

abbrev pub decreases-loop-above : goal.decreases-loop-above
decreases-loop-above g l = option_map_or (λ folder. suc (length folder)) l.above 0

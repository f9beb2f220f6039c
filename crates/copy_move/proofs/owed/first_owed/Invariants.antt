-- Each folder is still to come, or lies elsewhere; the tree is as it was, and the mount is still that of the work's folder.
use Rattle.std.proofs.Common.{◌≡◌, ◌≤◌, ◌⊎◌, length, IfSome}
use Rattle.mc_text.specs.Routes.{Route}
use Rattle.tree_trait.specs.Change.{current}
use Rattle.tree_trait.specs.Answers.{IfKnown}
use Rattle.tree_trait.specs.CrashImages.{Among}
use Rattle.copy_move.specs.Settling.{IsElsewhere, IsGoneForFolder, changed_folder}
use Rattle.copy_move.specs.MountNumbers.{IsMountOf}
use Rattle.copy_move.proofs.owed.first_owed.Given as goal

abbrev pub invariant-loop-first : goal.invariant-loop-first
invariant-loop-first g l =
    (g.T.ReadTree.contents l.tree ≡ g.T.ReadTree.contents l.fn.tree)
    × (g.T.ReadTree.fault_count l.fn.tree ≤ g.T.ReadTree.fault_count l.tree)
    × ((owed : Route) → Among l.rest owed → Among l.fn.dirty owed)
    × IfSome l.mount (λ mount. IfKnown (g.T.ReadTree.contents l.fn.tree) (λ log. IsMountOf (current log) (changed_folder l.work) mount))
    × IfKnown (g.T.ReadTree.contents l.fn.tree) (λ log. (kept : Route) → Among l.fn.dirty kept → Among l.rest kept ⊎ (IsElsewhere (current log) l.work kept × IsGoneForFolder (current log) l.work kept))

abbrev pub decreases-loop-first : goal.decreases-loop-first
decreases-loop-first g l = length l.rest

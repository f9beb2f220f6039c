-- What a removal makes of the tree that can be seen.
use Rattle.std.specs.Prelude.{◌≡◌, ℤ, None}
use Rattle.mc_text.specs.Routes.{Route}
use Rattle.tree_trait.specs.declared.file_system.FileSystem.{FileSystem}
use Rattle.tree_trait.specs.Calls.{RemoveFile}
use Rattle.tree_trait.specs.FileSystem.{view_with, visible_tree}
use Rattle.tree_trait.specs.Refusals.{refusal_of}
use Rattle.tree_trait.specs.Change.{after_change, change_of}
use Rattle.tree_trait.specs.Shape.{IsTree}

-- Where a removal isn't refused, its path has nothing any more, and every other path is as it was.
abbrev pub RemovalLaw : Type 0
RemovalLaw = (s : FileSystem) (path : Route) (time : ℤ) → IsTree s → refusal_of s (RemoveFile path) ≡ None
    → (p : Route) → visible_tree (after_change s (change_of s (RemoveFile path) time)) p
    ≡ view_with (visible_tree s) path None p

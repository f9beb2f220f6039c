-- Folders that owe nothing, and are left before a step.
use Rattle.std.specs.Prelude.{ℕ, ◌||◌, not, Bool, false, if◌then◌else◌}
use Rattle.copy_folders.specs.FolderCopying.{closing, is_dirty}
use Rattle.copy_folders.specs.declared.stage.Stage.{Stage}
use Rattle.tree_walk.specs.Places.{is_empty}
use Rattle.copy_tree.specs.declared.item.ItemAtWork.{ItemAtWork}
use Rattle.copy_tree.specs.declared.item.ItemAtWork.TheVariants.{Next, File, Link, Stays}
use Rattle.copy_folders.specs.Levels.{Levels, is_around_dirty, owed_at}
use Rattle.copy_tree.specs.Standing.{Seen}
use Rattle.copy_tree.specs.TreeCopySteps.{LeavesAll}

-- a folder owes something once its children are decided
abbrev pub owes_at_end : Stage → Bool → Bool
owes_at_end stage dirty = owed_at (closing stage) dirty

-- no name is left in the folder that is worked, and it owes nothing
abbrev pub is_done_at : Levels → Bool
is_done_at l = if is_empty l.inner.names.names
    then not (owes_at_end l.inner.copy.stage (is_dirty l.inner.copy.names)) else false

abbrev pub is_done_in : ItemAtWork → Levels → Bool
is_done_in Next l = is_done_at l
is_done_in (File f) l = false
is_done_in (Link k) l = false
is_done_in (Stays part) l = false

abbrev pub is_done : Seen → Bool
is_done c = is_done_in c.item c.levels

-- so it is, and it is on the disk, and isn't the outermost
abbrev pub may_leave_at : Levels → Bool
may_leave_at l = if is_around_dirty l.around || is_empty l.around then false else is_done_at l

abbrev pub may_leave_in : ItemAtWork → Levels → Bool
may_leave_in Next l = may_leave_at l
may_leave_in (File f) l = false
may_leave_in (Link k) l = false
may_leave_in (Stays part) l = false

abbrev pub may_leave : Seen → Bool
may_leave c = may_leave_in c.item c.levels

-- some folders are left
abbrev pub LeavesSettled : Seen → Seen → Type 0
LeavesSettled old new = (n : ℕ) × LeavesAll n old new

-- The marks of the open folders, which the list of dirty folders mirrors.
use Rattle.std.specs.Prelude.{Bool, true, false, if◌then◌else◌}
use Rattle.mc_text.specs.Routes.{Route}
use Rattle.job_reports.specs.declared.report.Did.{Did}
use Rattle.job_reports.specs.declared.report.Did.TheVariants.{Made}
use Rattle.copy_folders.specs.FolderCopying.{is_dirty}
use Rattle.copy_tree.specs.declared.item.ItemAtWork.{ItemAtWork}
use Rattle.copy_tree.specs.declared.item.ItemAtWork.TheVariants.{Next, File, Link, Stays}
use Rattle.copy_folders.specs.Levels.{Levels, is_around_dirty, target_around}
use Rattle.copy_tree.specs.Standing.{Seen}

-- the next call is the sync of the folder around, so that the one that is worked, which
-- was made, is on the disk
abbrev pub brings_in : ItemAtWork → Levels → Bool
brings_in Next l = is_around_dirty l.around
brings_in (File f) l = false
brings_in (Link k) l = false
brings_in (Stays part) l = false

abbrev pub brings_made : Seen → Bool
brings_made c = brings_in c.item c.levels

-- the folder that the next step changes or syncs
abbrev pub folder_worked : Seen → Route
folder_worked c = if brings_made c then target_around c.levels.around else c.levels.inner.copy.target

-- it is dirty before that step
abbrev pub was_dirty : Seen → Bool
was_dirty c = if brings_made c then true else is_dirty c.levels.inner.copy.names

-- The innermost folder is dirty after a step that worked there; where one was made in it,
-- that one is the innermost.
abbrev pub is_left_dirty : Did → Seen → Bool
is_left_dirty (Made path) c = true
is_left_dirty did c = is_dirty c.levels.inner.copy.names

-- the folder that a step worked is dirty after it
abbrev pub is_dirty_after : Seen → Did → Seen → Bool
is_dirty_after old did new =
    if brings_made old then is_around_dirty new.levels.around else is_left_dirty did new

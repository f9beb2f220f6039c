-- Which jobs can be worked, and what they work on.
use Rattle.std.specs.Prelude.{ℕ, Bool, false, not, ◌&&◌, ◌==◌, nat_le, is_some}
use Rattle.std.specs.Prelude.{if◌then◌else◌, List, [], ◌∷◌, length, Option, Some, None}
use Rattle.std.specs.List.{list_any}
use Rattle.mc_text.specs.Routes.{Route, parent_of, same_path}
use Rattle.job_reports.specs.declared.job.Job.{Job}
use Rattle.job_reports.specs.declared.job.Job.TheVariants.{Copy, Move, Delete, MakeFolder}
use Rattle.job_reports.specs.declared.job.Job.TheVariants.{MakeLink, SetMode, RemoveEmptied}
use Rattle.job_reports.specs.Paths.{folder_of}

-- a link may say this: 1 to 4,095 bytes and no NUL (`IsLinkText` as a test)
abbrev pub is_link_text : List ℕ → Bool
is_link_text text =
    (nat_le 1 (length text) && nat_le (length text) 4095) && not (list_any (λ byte. byte == 0) text)

-- A job of one path or pair. Other plans aren't worked yet; and the root, which no folder holds, is neither
-- copied, moved, deleted, made nor given a mode. Nothing is moved to where it is. A mode has twelve bits.
abbrev pub is_workable : Job → Bool
is_workable (Delete []) = false
is_workable (Delete (path ∷ [])) = is_some (parent_of path)
is_workable (Delete (path ∷ more ∷ paths)) = false
is_workable (Copy []) = false
is_workable (Copy (pair ∷ [])) = is_some (parent_of pair.source) && is_some (parent_of pair.target)
is_workable (Copy (pair ∷ more ∷ pairs)) = false
is_workable (Move []) = false
is_workable (Move (pair ∷ [])) = (is_some (parent_of pair.source) && is_some (parent_of pair.target))
    && not (same_path pair.source pair.target)
is_workable (Move (pair ∷ more ∷ pairs)) = false
is_workable (MakeFolder path) = is_some (parent_of path)
is_workable (MakeLink path text) = is_some (parent_of path) && is_link_text text
is_workable (SetMode [] mode) = false
is_workable (SetMode (path ∷ []) mode) = is_some (parent_of path) && nat_le mode 0o7777
is_workable (SetMode (path ∷ more ∷ paths) mode) = false
is_workable (RemoveEmptied path) = is_some (parent_of path)

-- what a job works on: a thing with all that lies in it that is copied or moved to a target, or
-- removed, a folder or a link that is made, a thing that is given a mode, or a folder that is
-- removed once it was emptied
pub data ItemOfJob : Type 0 where
  Copies : (source : Route) → (target : Route) → ItemOfJob
  Moves : (source : Route) → (target : Route) → ItemOfJob
  Removes : (path : Route) → ItemOfJob
  Makes : (path : Route) → ItemOfJob
  MakesLink : (path : Route) → (text : List ℕ) → ItemOfJob
  Sets : (path : Route) → (mode : ℕ) → ItemOfJob
  RemovesEmptied : (path : Route) → ItemOfJob

-- the item of a job of one path or pair
abbrev pub only_item : Job → Option ItemOfJob
only_item (Delete []) = None
only_item (Delete (path ∷ [])) = Some (Removes path)
only_item (Delete (path ∷ more ∷ paths)) = None
only_item (Copy []) = None
only_item (Copy (pair ∷ [])) = Some (Copies pair.source pair.target)
only_item (Copy (pair ∷ more ∷ pairs)) = None
only_item (Move []) = None
only_item (Move (pair ∷ [])) = Some (Moves pair.source pair.target)
only_item (Move (pair ∷ more ∷ pairs)) = None
only_item (MakeFolder path) = Some (Makes path)
only_item (MakeLink path text) = Some (MakesLink path text)
only_item (SetMode [] mode) = None
only_item (SetMode (path ∷ []) mode) = Some (Sets path mode)
only_item (SetMode (path ∷ more ∷ paths) mode) = None
only_item (RemoveEmptied path) = Some (RemovesEmptied path)

-- the item of a job that can be worked
abbrev pub item_of : Job → Option ItemOfJob
item_of job = if is_workable job then only_item job else None

-- a new folder has this mode
abbrev pub new_folder_mode : ℕ
new_folder_mode = 0o755

-- the folder in which a job changes names; of a move that of the target, and of a mode that is set, the
-- one that holds the thing
abbrev pub folder_changed : ItemOfJob → Route
folder_changed (Copies source target) = folder_of target
folder_changed (Moves source target) = folder_of target
folder_changed (Removes path) = folder_of path
folder_changed (Makes path) = folder_of path
folder_changed (MakesLink path text) = folder_of path
folder_changed (Sets path mode) = folder_of path
folder_changed (RemovesEmptied path) = folder_of path

-- One change with the list of what is dirty: how the list is readied for a step, and how it follows the step.
use Rattle.std.specs.Prelude.{◌≡◌, ◌-◌, ◌&&◌, not, Bool, true, false, List, length, take, if◌then◌else◌}
use Rattle.mc_text.specs.Routes.{Route}
use Rattle.job_reports.specs.Paths.{without}
use Rattle.job_unsynced.specs.declared.changing.Readied.{Readied}
use Rattle.job_unsynced.specs.Folders.{joined_folders}

-- the list without the one that joined last, if one did
abbrev pub back : Bool → List Route → List Route
back joined folders = if joined then take (length folders - 1) folders else folders

-- Where nothing was changed yet, what the step may make dirty has joined the list, and can be taken back;
-- else the list is as it was.
pub record IsReadied (fresh dirty : Bool) (changed : Route) (before after : List Route)
    (readied : Readied) : Type 0 where
  pub first : fresh ≡ true → (after ≡ joined_folders changed before) × (back readied.joined after ≡ before)
      × (readied.was_dirty ≡ false)
  pub later : fresh ≡ false → (after ≡ before) × (readied.joined ≡ false) × (readied.was_dirty ≡ dirty)

-- it leaves the list where the step didn't change it after all, or has synced it
abbrev pub dirty_after_step : Readied → Bool → Route → List Route → List Route
dirty_after_step readied dirty changed folders =
    if readied.was_dirty && not dirty then without changed (back (readied.joined && not dirty) folders)
    else back (readied.joined && not dirty) folders

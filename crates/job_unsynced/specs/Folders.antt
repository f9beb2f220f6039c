-- Folders with a change of names that no sync has brought onto the disk.
use Rattle.std.specs.Prelude.{◌≡◌, ◌<◌, ◌≤◌, ℕ, Bool, true, false, ◌||◌, List, [], ◌∷◌}
use Rattle.std.specs.Prelude.{◌++◌, length, slice_get, Option, Some, None, if◌then◌else◌}
use Rattle.std.specs.List.{list_any}
use Rattle.mc_text.specs.Routes.{Route, same_path, is_prefix}
use Rattle.tree_trait.specs.CrashImages.{Among}
use Rattle.tree_trait.specs.declared.calls.TreeError.{TreeError}
use Rattle.job_reports.specs.declared.report.Did.{Did}
use Rattle.job_reports.specs.declared.report.Did.TheVariants.{Barrier}
use Rattle.job_reports.specs.Paths.{without}

-- it is one of these
abbrev pub is_one_of : Route → List Route → Bool
is_one_of folder folders = list_any (λ kept. same_path kept folder) folders

-- one more, unless it is one of them
abbrev pub joined_folders : Route → List Route → List Route
joined_folders folder folders = if is_one_of folder folders then folders else folders ++ folder ∷ []

-- a folder joins them with its first change, and leaves them with its sync
abbrev pub with_change : Bool → Bool → Route → List Route → List Route
with_change false true folder dirty = joined_folders folder dirty
with_change true false folder dirty = without folder dirty
with_change false false folder dirty = dirty
with_change true true folder dirty = dirty

-- they are so once this one was tried in a last step, if this is the report of that
abbrev pub after_try : Did → Option TreeError → Route → List Route → List Route
after_try Barrier None folder dirty = without folder dirty
after_try Barrier (Some e) folder dirty = dirty
after_try did left folder dirty = dirty

-- it is this folder, or the top or below that: so a deletion of the top, which lies in the
-- folder, may have changed it
abbrev pub is_of : Route → Route → Route → Bool
is_of folder top kept = same_path kept folder || is_prefix top kept

-- none of these is
abbrev pub NoneOf : Route → Route → List Route → Type 0
NoneOf folder top folders = (kept : Route) → Among folders kept → is_of folder top kept ≡ false

-- one of these that is
pub record IsOwn (folder top : Route) (folders : List Route) (kept : Route) : Type 0 where
  pub dirty : Among folders kept
  pub is : is_of folder top kept ≡ true

-- none is from one place on, up to another
abbrev pub NoneBetween : Route → Route → List Route → ℕ → ℕ → Type 0
NoneBetween folder top folders from to = (at : ℕ) (kept : Route) → from ≤ at → at < to
    → slice_get folders at ≡ Some kept → is_of folder top kept ≡ false

-- from this place on the first that is stands there
pub record IsOwnAt (folder top : Route) (folders : List Route) (from at : ℕ) : Type 0 where
  pub least : from ≤ at
  pub few : at < length folders
  pub kept : Route
  pub stands : slice_get folders at ≡ Some kept
  pub is : is_of folder top kept ≡ true
  pub first : NoneBetween folder top folders from at

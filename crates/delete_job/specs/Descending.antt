-- How a deletion goes down into folders, and what stops it there.
use Rattle.std.specs.Prelude.{◌≡◌, ◌⊎◌, ◌<◌, ◌≤◌, ℕ, ⊤, true, false, List, []}
use Rattle.std.specs.Prelude.{◌∷◌, length, Option, Some, None, Result, Ok, Err}
use Rattle.mc_text.specs.Routes.{Route, spelled_route}
use Rattle.tree_trait.specs.declared.file_system.FileSystem.{FileSystem}
use Rattle.tree_trait.specs.declared.calls.Children.{Children}
use Rattle.tree_trait.specs.Calls.{Call, Stat, ListFolder}
use Rattle.tree_trait.specs.FileSystem.{node}
use Rattle.tree_trait.specs.Change.{CallLog, current, found_node}
use Rattle.tree_trait.specs.declared.calls.TreeError.{TreeError}
use Rattle.tree_trait.specs.Refusals.{is_folder, refusal_of}
use Rattle.tree_trait.specs.Answers.{IfKnown, IsAscending, IsListing}
use Rattle.job_reports.specs.declared.report.Cause.{Cause}
use Rattle.job_reports.specs.declared.report.Cause.TheVariants.{Tree, TargetKind, SpecialSource, TooDeep}
use Rattle.job_reports.specs.declared.report.Cause.TheVariants.{PartTaken, TooLong, Unnamed, Changed, Memory}
use Rattle.job_reports.specs.declared.report.Trouble.{Trouble}
use Rattle.job_reports.specs.Paths.{folder_of}
use Rattle.job_reports.specs.Reading.{IsRefusedWith}
use Rattle.job_reports.specs.Stops.{IsTroubleWithPath, out_of_memory_at}
use Rattle.tree_walk.specs.Places.{Place, entered_place, opened_folder}
use Rattle.delete_job.specs.declared.deletion.Depth.{Depth}
use Rattle.delete_job.specs.declared.deletion.Depth.TheVariants.{Top, Inside}
use Rattle.delete_job.specs.declared.deletion.Deletion.{Deletion}
use Rattle.delete_job.specs.declared.looking.Found.{Found}
use Rattle.delete_job.specs.declared.looking.Found.TheVariants as found
use Rattle.delete_job.specs.declared.meeting.Met.{Met}
use Rattle.delete_job.specs.declared.meeting.Met.TheVariants as met
use Rattle.delete_job.specs.Standing.{DeletionItem, Thing, End, item, rank_at, worked_folder}

-- the place of the walk once a folder was opened
abbrev pub opened_at : Depth → Route → List (List ℕ) → Place → Place
opened_at Top folder names place = record place { inner = opened_folder folder names }
opened_at Inside folder names place = entered_place folder names place

-- what a tree that tells lists of a folder in which each name can be shown
abbrev pub Lists : Option CallLog → Route → Children → Type 0
Lists contents folder children =
    IfKnown contents (λ log. (refusal_of (current log) (ListFolder folder) ≡ None)
    × IsListing (current log) (found_node (current log) folder) children)

-- a folder is open, with these names
pub record IsOpened (old : Deletion) (folder : Route) (names : List (List ℕ)) (new : Deletion) : Type 0 where
  pub place : new.walk.place ≡ opened_at old.depth folder names old.walk.place
  pub depth_is : new.depth ≡ Inside
  pub stage_is : new.stage ≡ old.stage
  pub path_is : new.path ≡ old.path
  pub folder_is : new.folder ≡ old.folder

-- What lies in the thing may be looked at where the walk may go down a level more, and its path
-- isn't too long to be told.
abbrev pub MayLook : Depth → Place → Route → Type 0
MayLook Top place path = ⊤
MayLook Inside place path = (1 ≤ place.left) × (length (spelled_route path) ≤ 4096)

-- it lies too deep
abbrev pub IsTooDeep : Depth → Place → Route → Type 0
IsTooDeep Top place path = ⊥
IsTooDeep Inside place path = (place.left ≡ 0) × (length (spelled_route path) ≤ 4096)

-- its path is too long
abbrev pub IsTooLongAt : Depth → Route → Type 0
IsTooLongAt Top path = ⊥
IsTooLongAt Inside path = 4096 < length (spelled_route path)

-- The folder that is taken up is gone into, with all the names in it, in byte order,
-- none of which is unnamed.
pub record Enters (contents : Option CallLog) (old : Deletion) (folder : Route)
    (new : Deletion) : Type 0 where
  pub children : Children
  pub takes : item old ≡ Thing folder
  pub may : MayLook old.depth old.walk.place folder
  pub lists : Lists contents folder children
  pub all : children.unnamed ≡ 0
  pub in_order : IsAscending children.names
  pub opened_is : IsOpened old folder children.names new

-- all but the room of the walk
pub record IsAt (old new : Deletion) : Type 0 where
  pub place : new.walk.place ≡ old.walk.place
  pub depth_is : new.depth ≡ old.depth
  pub stage_is : new.stage ≡ old.stage
  pub path_is : new.path ≡ old.path
  pub folder_is : new.folder ≡ old.folder

-- these folders are gone into, the last one first
abbrev pub Descends : Option CallLog → Deletion → List Route → Deletion → Type 0
Descends contents old [] new = IsAt old new
Descends contents old (folder ∷ before) new =
    (mid : Deletion) × Descends contents old before mid × Enters contents mid folder new

-- a call that only looks is refused: the path, and the error, as the tree gives it
abbrev pub CallStops : FileSystem → Call → Route → Cause → Option Route → Type 0
CallStops s call look (Tree e) named = (named ≡ Some look) × IsRefusedWith s call e
CallStops s call look Memory named = named ≡ None
CallStops s call look (TargetKind kind) named = ⊥
CallStops s call look SpecialSource named = ⊥
CallStops s call look TooDeep named = ⊥
CallStops s call look PartTaken named = ⊥
CallStops s call look TooLong named = ⊥
CallStops s call look (Unnamed count) named = ⊥
CallStops s call look (Changed said got) named = ⊥

-- the listing of a folder is refused with this error
abbrev pub IsUnlisted : FileSystem → Route → TreeError → Type 0
IsUnlisted s path e = (is_folder (node s (found_node s path)) ≡ true) × IsRefusedWith s (ListFolder path) e

-- what looking at a thing is stopped by: the look, or the listing of a folder, is refused, or not
-- all its names can be shown
abbrev pub LookStops : FileSystem → Route → Cause → Option Route → Type 0
LookStops s path (Tree e) named = (named ≡ Some path) × (IsRefusedWith s (Stat path) e ⊎ IsUnlisted s path e)
LookStops s path Memory named = named ≡ None
LookStops s path (Unnamed count) named =
    (named ≡ Some path) × (0 < count) × ((node s (found_node s path)).unnamed ≡ count)
LookStops s path TooDeep named = ⊥
LookStops s path TooLong named = ⊥
LookStops s path (TargetKind kind) named = ⊥
LookStops s path SpecialSource named = ⊥
LookStops s path PartTaken named = ⊥
LookStops s path (Changed said got) named = ⊥

-- Why a thing can't be gone on with, and the path that is named: it lies too deep, its path is too
-- long, or a look is stopped.
abbrev pub ThingStops : FileSystem → Depth → Place → Route → Cause → Option Route → Type 0
ThingStops s depth place path TooDeep named = (named ≡ Some path) × IsTooDeep depth place path
ThingStops s depth place path TooLong named = (named ≡ Some (folder_of path)) × IsTooLongAt depth path
ThingStops s depth place path Memory named = named ≡ None
ThingStops s depth place path cause named = MayLook depth place path × LookStops s path cause named

-- the end of a folder is stopped by want of memory alone, before its removal
abbrev pub ItemStops : FileSystem → Depth → Place → DeletionItem → Cause → Option Route → Type 0
ItemStops s depth place (Thing path) cause named = ThingStops s depth place path cause named
ItemStops s depth place (End folder) cause named = (cause ≡ Memory) × (named ≡ None)

abbrev pub StopsAt : FileSystem → Deletion → Cause → Option Route → Type 0
StopsAt s d cause named = ItemStops s d.depth d.walk.place (item d) cause named

-- what a tree that tells has there is no folder
abbrev pub IsPlain : Option CallLog → Route → Type 0
IsPlain contents path =
    IfKnown contents (λ log. is_folder (node (current log) (found_node (current log) path)) ≡ false)

-- what stands at a path: a folder with these names, or a thing that is none
abbrev pub StandsSo : Option CallLog → Route → Result Found Trouble → Type 0
StandsSo contents path (Ok found.Thing) = IsPlain contents path
StandsSo contents path (Ok (found.Folder children)) =
    (children.unnamed ≡ 0) × IsAscending children.names × Lists contents path children
StandsSo contents path (Err trouble) =
    IfKnown contents (λ log. LookStops (current log) path trouble.cause trouble.path)

-- a listing, unless it has names that can't be shown
abbrev pub IsFound : Route → Children → Result Found Trouble → Type 0
IsFound path children (Ok (found.Folder listed)) = (listed ≡ children) × (children.unnamed ≡ 0)
IsFound path children (Ok found.Thing) = ⊥
IsFound path children (Err trouble) =
    (0 < children.unnamed) × IsTroubleWithPath (Unnamed children.unnamed) path trouble

-- the path of what the next name leads to
pub record IsNext (path : Route) (place : Place) : Type 0 where
  pub name : List ℕ
  pub rest : List (List ℕ)
  pub names : place.inner.names ≡ name ∷ rest
  pub is : path ≡ name ∷ place.inner.path

-- a folder with these names is gone into, or there is no memory for it
abbrev pub GoesInto : Deletion → Route → List (List ℕ) → Result Met Trouble → Deletion → Type 0
GoesInto old folder names (Ok met.Entered) new =
    IsOpened old folder names new × (rank_at new.depth new.walk.place < rank_at old.depth old.walk.place)
GoesInto old folder names (Ok (met.Thing path)) new = ⊥
GoesInto old folder names (Ok met.End) new = ⊥
GoesInto old folder names (Err trouble) new = IsAt old new × (trouble ≡ out_of_memory_at false)

-- What is met next: a folder is gone into, and fewer things are left then; or it is a thing, the end
-- of a folder, or trouble.
abbrev pub Meets : Option CallLog → Deletion → Result Met Trouble → Deletion → Type 0
Meets contents old (Ok met.Entered) new =
    ((folder : Route) × Enters contents old folder new)
    × (rank_at new.depth new.walk.place < rank_at old.depth old.walk.place)
Meets contents old (Ok (met.Thing path)) new =
    IsAt old new × (item old ≡ Thing path) × MayLook old.depth old.walk.place path × IsPlain contents path
Meets contents old (Ok met.End) new =
    IsAt old new × (old.depth ≡ Inside) × (item old ≡ End (worked_folder old.path old.walk.place))
Meets contents old (Err trouble) new =
    IsAt old new × IfKnown contents (λ log. StopsAt (current log) old trouble.cause trouble.path)

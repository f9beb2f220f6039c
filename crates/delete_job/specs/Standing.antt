-- Where a deletion stands: what it takes up next, and where it stands once that is done with.
use Rattle.std.specs.Prelude.{◌≡◌, ◌⊎◌, ℕ, suc, ◌+◌, Bool, true, false, List, [], ◌∷◌, if◌then◌else◌}
use Rattle.mc_text.specs.Routes.{Route, same_path}
use Rattle.tree_walk.specs.Places.{IsLeft, Place, is_outermost, passed_place, unopened_walk}
use Rattle.tree_walk.specs.Ranks.{rank, rank_around, weight}
use Rattle.delete_job.specs.declared.deletion.Stage.{Stage}
use Rattle.delete_job.specs.declared.deletion.Stage.TheVariants.{Begin, Going, Sync}
use Rattle.delete_job.specs.declared.deletion.Depth.{Depth}
use Rattle.delete_job.specs.declared.deletion.Depth.TheVariants.{Top, Inside}
use Rattle.delete_job.specs.declared.deletion.Deletion.{Deletion}

-- a walk that is to begin
abbrev pub begun_walk : Place
begun_walk = unopened_walk

abbrev pub is_fresh : Stage → Bool
is_fresh Begin = true
is_fresh Going = false
is_fresh Sync = false

abbrev pub at_barrier : Stage → Bool
at_barrier Begin = false
at_barrier Going = false
at_barrier Sync = true

-- how far it is once a thing was decided: the thing that is deleted is the last
abbrev pub after_item : Route → Route → Stage → Stage
after_item top path stage = if same_path path top then Sync else stage

-- what is taken up: a thing, or a folder in which nothing is left to be met
pub data DeletionItem : Type 0 where
  Thing : (path : Route) → DeletionItem
  End : (folder : Route) → DeletionItem

-- the folder that is worked; the outermost is the thing that is deleted
abbrev pub worked_folder : Route → Place → Route
worked_folder top place = if is_outermost place then top else place.inner.path

-- the next name in a folder at this path, or the end of the folder that is worked
abbrev pub item_of : List (List ℕ) → Route → Route → DeletionItem
item_of [] path folder = End folder
item_of (name ∷ names) path folder = Thing (name ∷ path)

abbrev pub item_at : Depth → Route → Place → DeletionItem
item_at Top top place = Thing top
item_at Inside top place = item_of place.inner.names place.inner.path (worked_folder top place)

abbrev pub item : Deletion → DeletionItem
item d = item_at d.depth d.path d.walk.place

-- the folder that is worked is done with; the outermost is the last
abbrev pub Leaves : Bool → Place → Place → Type 0
Leaves left old new = IsLeft left old new ⊎ ((old.around ≡ []) × (new ≡ old))

-- the place of the walk once this is gone, or was left; of the thing itself nothing is left to be walked
abbrev pub IsDone : Depth → DeletionItem → Bool → Place → Place → Type 0
IsDone Top item left old new = new ≡ old
IsDone Inside (Thing path) left old new = new ≡ passed_place left old
IsDone Inside (End folder) left old new = Leaves left old new

-- the deletion once a thing or a folder at this path is gone, or was left
pub record Decides (old : Deletion) (left : Bool) (path : Route) (stage : Stage)
    (new : Deletion) : Type 0 where
  pub place : IsDone old.depth (item old) left old.walk.place new.walk.place
  pub stage_is : new.stage ≡ after_item old.path path stage
  pub path_is : new.path ≡ old.path
  pub folder_is : new.folder ≡ old.folder
  pub depth_is : new.depth ≡ old.depth

-- how many removals are left at most, with what is left where it stands
abbrev pub rank_at : Depth → Place → ℕ
rank_at Top place = weight (suc place.left) + rank_around (suc place.left) place.around
rank_at Inside place = rank place

abbrev pub rank_of : Stage → Depth → Place → ℕ
rank_of Begin depth place = rank_at depth place
rank_of Going depth place = rank_at depth place
rank_of Sync depth place = 0

abbrev pub things_left : Deletion → ℕ
things_left d = rank_of d.stage d.depth d.walk.place

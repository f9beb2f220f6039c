-- The order in which a folder is copied: what a step may report where the copy stands,
-- and where it stands then.
use Rattle.std.specs.Prelude.{◌≡◌, ◌==◌, ℕ, ◌≤◌, ⊤, Bool, true, false}
use Rattle.std.specs.Prelude.{if◌then◌else◌, bit_or, Option, Some, None}
use Rattle.mc_text.specs.Routes.{Route}
use Rattle.copy_folders.specs.declared.stage.Stage.{Stage}
use Rattle.copy_folders.specs.declared.stage.Stage.TheVariants.{Make, Fill, Close, Done}
use Rattle.copy_folders.specs.declared.stage.NamesState.{NamesState}
use Rattle.copy_folders.specs.declared.stage.NamesState.TheVariants.{Synced, Dirty}
use Rattle.copy_folders.specs.declared.stage.FolderDid.{FolderDid}
use Rattle.copy_folders.specs.declared.stage.FolderDid.TheVariants.{Made, Set, Barrier, Closed, Troubled}

-- the copy of a folder, as it stands: its places, what is to be done next, and whether
-- the target is to be synced
pub record FolderCopying : Type 0 where
  pub source : Route
  pub target : Route
  pub stage : Stage
  pub names : NamesState

abbrev pub copying : Route → Route → Stage → NamesState → FolderCopying
copying source target stage names = record { source = source; target = target; stage = stage; names = names }

-- a folder is made with the source's mode, and its owner may list, change and search it
abbrev pub folder_mode : ℕ → ℕ
folder_mode mode = bit_or mode 0o700

-- the mode that it is still to be given at its end: the source's, where it was made with another
abbrev pub owed_mode : ℕ → Option ℕ
owed_mode mode = if folder_mode mode == mode then None else Some mode

-- a mode has twelve bits
abbrev pub IsSound : Stage → Type 0
IsSound (Make mode) = mode ≤ 0o7777
IsSound (Fill (Some mode)) = mode ≤ 0o7777
IsSound (Close (Some mode)) = mode ≤ 0o7777
IsSound (Fill None) = ⊤
IsSound (Close None) = ⊤
IsSound Done = ⊤

-- it has a next step of its own, and doesn't wait for its children
abbrev pub is_ready : Stage → Bool
is_ready (Make mode) = true
is_ready (Close owed) = true
is_ready (Fill owed) = false
is_ready Done = false

-- the next call is at a barrier: the sync
abbrev pub at_barrier : Stage → Bool
at_barrier (Close None) = true
at_barrier (Close (Some mode)) = false
at_barrier (Make mode) = false
at_barrier (Fill owed) = false
at_barrier Done = false

-- the folder has a change of its names or its mode that no sync has brought onto the disk
abbrev pub is_dirty : NamesState → Bool
is_dirty Dirty = true
is_dirty Synced = false

-- a folder whose children are decided comes to its end
abbrev pub closing : Stage → Stage
closing (Fill owed) = Close owed
closing (Make mode) = Make mode
closing (Close owed) = Close owed
closing Done = Done

-- a folder that can't be made is skipped with all below it; one that can't be given its mode
-- keeps that of its making
abbrev pub skipped_stage : Stage → Stage
skipped_stage (Make mode) = Done
skipped_stage (Close owed) = Close None
skipped_stage (Fill owed) = Fill owed
skipped_stage Done = Done

-- What a step may report, and where the copy stands then. A missing folder is made, its children are
-- copied, it is given the mode that is owed, what is dirty is synced, and only then is it closed.
abbrev pub Tells : FolderCopying → FolderDid → FolderCopying → Type 0
Tells c (Made path) new = (mode : ℕ) × (c.stage ≡ Make mode) × (path ≡ c.target)
    × (new ≡ record c { stage = Fill (owed_mode mode) })
Tells c (Set path) new =
    (mode : ℕ) × (c.stage ≡ Close (Some mode)) × (path ≡ c.target)
    × (new ≡ record c { stage = Close None; names = Dirty })
Tells c Barrier new = (c.stage ≡ Close None) × (c.names ≡ Dirty) × (new ≡ record c { names = Synced })
Tells c Closed new = (c.stage ≡ Close None) × (c.names ≡ Synced) × (new ≡ record c { stage = Done })
Tells c (Troubled trouble) new = (trouble.barrier ≡ at_barrier c.stage) × (new ≡ c)

-- the most steps of its own that the copy makes yet, if none is refused
abbrev pub steps_left : Stage → NamesState → ℕ
steps_left (Make mode) names = 5
steps_left (Fill owed) names = 4
steps_left (Close (Some mode)) names = 3
steps_left (Close None) Dirty = 2
steps_left (Close None) Synced = 1
steps_left Done names = 0

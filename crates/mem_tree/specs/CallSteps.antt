-- What is to be done for a call, and what becomes of it.
use Rattle.std.specs.Prelude.{pos, ◌≡◌, ◌<◌, ℕ, ℤ, Bool, true, false, ⊤, List, [], ◌∷◌, ◌++◌}
use Rattle.std.specs.Prelude.{length, Option, Some, None, unwrap_or, slice_get, Result, Ok, Err}
use Rattle.tree_trait.specs.declared.file_system.NameEdit.{NameEdit}
use Rattle.tree_trait.specs.declared.file_system.FileSystem.{FileSystem}
use Rattle.tree_trait.specs.declared.calls.TreeError.{TreeError}
use Rattle.tree_trait.specs.declared.calls.TreeError.TheVariants.{Fault, Memory}
use Rattle.tree_trait.specs.Calls.{Call}
use Rattle.tree_trait.specs.Refusals.{refusal_of}
use Rattle.tree_trait.specs.Change.{Change, Nothing, Makes, Moves, Removes, Sets, Writes}
use Rattle.tree_trait.specs.Change.{Syncs, after_change, edit, change_of, torn_write}
use Rattle.mem_tree.specs.declared.record.Record.{Record}
use Rattle.mem_tree.specs.declared.record.Record.TheVariants.{Idle}
use Rattle.mem_tree.specs.declared.step.Step.{Step}
use Rattle.mem_tree.specs.declared.step.Step.TheVariants.{Stay, Make, Move, Unlink, SetMode, Write, Flush}
use Rattle.mem_tree.specs.Records.{change_by}
use Rattle.mem_tree.specs.Live.{without_name}

-- what becomes of the name at a place
abbrev pub at_edit : Option NameEdit → (NameEdit → Change) → Change
at_edit None change = Nothing
at_edit (Some e) change = change e

-- the change that a step makes; a name that ends is told by its place among the names
abbrev pub step_change : FileSystem → Step → Change
step_change s Stay = Nothing
step_change s (Make folder name made) = Makes folder name made
step_change s (Move at to name moved replaced) =
    at_edit (slice_get s.names at) (λ e. Moves e.folder e.name to name moved replaced)
step_change s (Unlink at node) = at_edit (slice_get s.names at) (λ e. Removes e.folder e.name node)
step_change s (SetMode node mode) = Sets node mode
step_change s (Write node bytes mtime) = Writes node bytes mtime
step_change s (Flush node) = Syncs node

-- what a step leaves that fails: of a write a file without bytes
abbrev pub torn_step : Step → Change
torn_step Stay = Nothing
torn_step (Make folder name made) = Nothing
torn_step (Move at to name moved replaced) = Nothing
torn_step (Unlink at node) = Nothing
torn_step (SetMode node mode) = Nothing
torn_step (Write node bytes mtime) = Writes node [] (pos 0)
torn_step (Flush node) = Nothing

-- the names that lead to a node after a change, where such names alone stand
abbrev pub standing_after : FileSystem → Change → FileSystem
standing_after s Nothing = s
standing_after s (Makes f name made) = after_change s (Makes f name made)
standing_after s (Moves f old g new i replaced) =
    record s { names = edit g new (Some i) ∷ without_name g new (without_name f old s.names) }
standing_after s (Removes f name i) = record s { names = without_name f name s.names }
standing_after s (Sets i mode) = after_change s (Sets i mode)
standing_after s (Writes i bytes mtime) = after_change s (Writes i bytes mtime)
standing_after s (Syncs i) = s

-- the place of a name that ends is one of the names'
abbrev pub IsPlaced : FileSystem → Step → Type 0
IsPlaced s Stay = ⊤
IsPlaced s (Make folder name made) = ⊤
IsPlaced s (Move at to name moved replaced) = at < length s.names
IsPlaced s (Unlink at node) = at < length s.names
IsPlaced s (SetMode node mode) = ⊤
IsPlaced s (Write node bytes mtime) = ⊤
IsPlaced s (Flush node) = ⊤

-- a step makes this change, or fails with this one
pub record IsReady (s : FileSystem) (change torn : Change) (step : Step) : Type 0 where
  pub placed : IsPlaced s step
  pub does : step_change s step ≡ change
  pub fails : torn_step step ≡ torn

-- a plan is what refuses it, or want of memory, or a step
abbrev pub PlansTo : FileSystem → Option TreeError → Change → Change → Result Step TreeError → Type 0
PlansTo s refusal change torn (Ok step) = (refusal ≡ None) × IsReady s change torn step
PlansTo s refusal change torn (Err Memory) = ⊤
PlansTo s refusal change torn (Err e) = refusal ≡ Some e

-- a plan for a call, which gives this time to a file
abbrev pub Plans : FileSystem → Call → ℤ → Result Step TreeError → Type 0
Plans s call time = PlansTo s (refusal_of s call) (change_of s call time) (torn_write s call [])

-- a step takes no memory
abbrev pub takes_none : Result Step TreeError → Bool
takes_none (Ok Stay) = true
takes_none (Ok (Make folder name made)) = false
takes_none (Ok (Move at to name moved replaced)) = false
takes_none (Ok (Unlink at node)) = true
takes_none (Ok (SetMode node mode)) = true
takes_none (Ok (Write node bytes mtime)) = false
takes_none (Ok (Flush node)) = true
takes_none (Err Memory) = false
takes_none (Err e) = true

-- a change is made among the names that stand, and is recorded
pub record IsDone (s : FileSystem) (old : List Record) (c : Change) (new_s : FileSystem)
    (new : List Record) : Type 0 where
  pub done : Record
  pub recorded : new ≡ old ++ done ∷ []
  pub change : change_by done ≡ c
  pub stands : new_s ≡ standing_after s c

-- The plan is carried out, unless the call is due to fail or there is no memory.
abbrev pub Concludes : {A : Type 0} → FileSystem → List Record → Bool → Result Step TreeError
    → Result A TreeError → FileSystem → List Record → Type 0
Concludes s old due plan (Ok x) new_s new =
    (due ≡ false) × ((step : Step) × (plan ≡ Ok step) × IsDone s old (step_change s step) new_s new)
Concludes s old due plan (Err Fault) new_s new =
    (due ≡ true) × ((step : Step) × (plan ≡ Ok step) × IsDone s old (torn_step step) new_s new)
Concludes s old due plan (Err Memory) new_s new = (new_s ≡ s) × (new ≡ old)
Concludes s old due plan (Err e) new_s new = (plan ≡ Err e) × IsDone s old Nothing new_s new

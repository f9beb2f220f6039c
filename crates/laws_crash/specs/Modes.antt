-- What a crash leaves of a mode that is set: it is there or, until the thing itself was synced, the
-- one that was there before.
use Rattle.std.specs.Prelude.{◌≡◌, ◌⊎◌, ℕ, ◌<◌, ◌==◌, true, false, length, if◌then◌else◌, Option, Some, None}
use Rattle.mc_text.specs.Routes.{Route}
use Rattle.tree_trait.specs.declared.file_system.FileSystem.{FileSystem}
use Rattle.tree_trait.specs.FileSystem.{Value, find, node, value, value_at}
use Rattle.tree_trait.specs.Change.{Change, Sets, Syncs, CallLog, current, with_change}
use Rattle.tree_trait.specs.CrashImages.{alters, is_clean}
use Rattle.laws_crash.specs.Possible.{IsImage}
use Rattle.laws_crash.specs.Guarded.{Marks, IsGuarded, IsSettledAt, MayHaveMode, with_mode}

pub record ModesLaw : Type 0 where
  -- a mode is set where nothing of the node waits
  pub set : (log : CallLog) (i mode : ℕ) → i < length (current log).nodes → is_clean i log.changes ≡ true
      → MayHaveMode (with_change log (Sets i mode)) i (node (current log) i).mode
  -- whatever doesn't alter the node keeps that
  pub others : (log : CallLog) (c : Change) (i before : ℕ) → i < length (current log).nodes
      → alters i c ≡ false → MayHaveMode log i before → MayHaveMode (with_change log c) i before
  -- after its sync each image has the node as it stands
  pub synced : (log : CallLog) (i : ℕ) (image : FileSystem) → IsImage (with_change log (Syncs i)) image
      → node image i ≡ node (current log) i
  -- So a path of whose names nothing waits holds in each image what it holds now, or the
  -- same with the mode before.
  pub shown : (log : CallLog) (image : FileSystem) (p : Route) (i before : ℕ) → IsImage log image
      → IsSettledAt log p → find (current log) p ≡ Some i → MayHaveMode log i before
      → (value_at image p ≡ value_at (current log) p) ⊎ (value_at image p
      ≡ (let v : Option Value = Some (value (with_mode before (node (current log) i))) in v))

-- the mode that a node has waits from now on; it had this one before
abbrev pub marks_with_mode : ℕ → ℕ → Marks → Marks
marks_with_mode i before marks = record marks { modes = λ k. if k == i then Some before else marks.modes k }

-- it waits no more
abbrev pub marks_without_mode : ℕ → Marks → Marks
marks_without_mode i marks = record marks { modes = λ k. if k == i then None else marks.modes k }

-- A job may set the mode of a thing of which nothing waits, and sync the thing itself: what is known of the
-- tree is kept, with the mode before.
pub record SettingLaw : Type 0 where
  pub sets : (marks : Marks) (log : CallLog) (i mode : ℕ) → IsGuarded marks log
      → i < length (current log).nodes → marks.loose i ≡ false → marks.modes i ≡ None
      → IsGuarded (marks_with_mode i (node (current log) i).mode marks) (with_change log (Sets i mode))
  pub synced : (marks : Marks) (log : CallLog) (i : ℕ) → IsGuarded marks log
      → IsGuarded (marks_without_mode i marks) (with_change log (Syncs i))

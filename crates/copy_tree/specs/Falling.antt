-- Each thing that is decided leaves fewer.
use Rattle.std.specs.Prelude.{◌≡◌, ◌<◌, ◌≤◌, ℕ, ⊤, Bool, true, false, List, [], ◌∷◌, length, Option}
use Rattle.mc_text.specs.Routes.{Route}
use Rattle.tree_trait.specs.Change.{CallLog}
use Rattle.job_answers.specs.declared.replies.Replies.{Replies}
use Rattle.job_reports.specs.declared.report.Did.TheVariants as common
use Rattle.copy_folders.specs.declared.stage.Stage.{Stage}
use Rattle.copy_folders.specs.declared.stage.Stage.TheVariants.{Make, Fill, Close, Done}
use Rattle.tree_walk.specs.Ranks.{rank}
use Rattle.copy_tree.specs.declared.item.ItemAtWork.{ItemAtWork}
use Rattle.copy_tree.specs.declared.item.ItemAtWork.TheVariants.{Next, File, Link, Stays}
use Rattle.copy_folders.specs.declared.level.Level.{Level}
use Rattle.job_reports.specs.declared.report.Did.{Did}
use Rattle.copy_folders.specs.Levels.{Levels, walked_place}
use Rattle.copy_tree.specs.Standing.{Seen}
use Rattle.copy_tree.specs.TreeCopySteps.{CopySteps}

-- a file or a link at work has the next name
abbrev pub HasName : ItemAtWork → Levels → Type 0
HasName Next l = ⊤
HasName (File f) l = 1 ≤ length l.inner.names.names
HasName (Link k) l = 1 ≤ length l.inner.names.names
HasName (Stays part) l = ⊤

-- a folder that is open stands at its target
abbrev pub is_made : Stage → Bool
is_made (Make mode) = false
is_made (Fill owed) = true
is_made (Close owed) = true
is_made Done = true

abbrev pub AllMade : Level → List Level → Type 0
AllMade inner [] = is_made inner.copy.stage ≡ true
AllMade inner (outer ∷ around) = (is_made inner.copy.stage ≡ true) × AllMade outer around

-- what holds of a copy that was begun by `new`, and after each step of it
pub record IsSteady (c : Seen) : Type 0 where
  pub named : HasName c.item c.levels
  pub made : AllMade c.levels.inner c.levels.around

-- how many steps the walk has left at most, whatever the tree lists
abbrev pub things_left : Seen → ℕ
things_left c = rank (walked_place c.levels)

-- a thing was placed, or a folder made
abbrev pub decides : Did → Bool
decides (common.Placed path) = true
decides (common.Made path) = true
decides did = false

-- No step leaves more things, and each that places a thing or makes a folder leaves fewer.
abbrev pub FallingLaw : Type 0
FallingLaw =
    (free : Route → Bool) (replies : Replies) (old new : Seen) (did : Did) (calls : ℕ)
    (before after : Option CallLog) (faults faults_after : ℕ)
    → CopySteps free replies old new did calls before after faults faults_after → IsSteady old
    → IsSteady new × (things_left new ≤ things_left old)
    × (decides did ≡ true → things_left new < things_left old)

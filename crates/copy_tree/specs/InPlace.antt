-- The copy keeps to its place: what it works on lies as far below the source as below the target.
use Rattle.std.specs.Prelude.{◌≡◌, ◌≤◌, ℕ, ⊤, Bool, true, List, [], ◌∷◌, ◌++◌, length, Option, Some, None}
use Rattle.mc_text.specs.Routes.{Route}
use Rattle.tree_trait.specs.CrashImages.{Among}
use Rattle.tree_trait.specs.Change.{CallLog}
use Rattle.job_answers.specs.declared.replies.Replies.{Replies}
use Rattle.job_reports.specs.declared.report.Did.TheVariants as common
use Rattle.job_reports.specs.declared.job.Pair.{Pair}
use Rattle.job_reports.specs.Paths.{folder_of}
use Rattle.copy_folders.specs.declared.stage.Stage.{Stage}
use Rattle.copy_folders.specs.declared.stage.Stage.TheVariants.{Make, Fill, Close, Done}
use Rattle.copy_tree.specs.declared.item.ItemAtWork.{ItemAtWork}
use Rattle.copy_tree.specs.declared.item.ItemAtWork.TheVariants.{Next, File, Link, Stays}
use Rattle.copy_folders.specs.declared.level.Level.{Level}
use Rattle.job_reports.specs.declared.report.Did.{Did}
use Rattle.copy_tree.specs.Standing.{Seen}
use Rattle.copy_tree.specs.TreeCopySteps.{CopySteps}

-- as many folders below the source that is copied as below its target
pub record IsMoved (top : Pair) (source target : Route) : Type 0 where
  pub rest : Route
  pub from : source ≡ rest ++ top.source
  pub to : target ≡ rest ++ top.target

-- the mode that a folder is still to be given
abbrev pub owed_of : Stage → Option ℕ
owed_of (Make mode) = Some mode
owed_of (Fill owed) = owed
owed_of (Close owed) = owed
owed_of Done = None

-- the outermost folders hold what is copied, and its copy, and have that one name to be met at most. That
-- of the target keeps its mode.
pub record HoldsTop (top : Pair) (outermost : Level) : Type 0 where
  pub from : outermost.copy.source ≡ folder_of top.source
  pub to : outermost.copy.target ≡ folder_of top.target
  pub keeps : owed_of outermost.copy.stage ≡ None
  pub only : (name : List ℕ) → Among outermost.names.names name → name ∷ folder_of top.source ≡ top.source
  pub one : length outermost.names.names ≤ 1

-- each other open folder lies in its place
abbrev pub AreMoved : Pair → Level → List Level → Type 0
AreMoved top inner [] = HoldsTop top inner
AreMoved top inner (outer ∷ around) =
    IsMoved top inner.copy.source inner.copy.target × AreMoved top outer around

-- so does the thing that is at work
abbrev pub ItemMoved : Pair → ItemAtWork → Type 0
ItemMoved top Next = ⊤
ItemMoved top (File f) = IsMoved top f.source f.target
ItemMoved top (Link l) = IsMoved top l.source l.target
ItemMoved top (Stays part) = ⊤

-- what is copied itself is met once: where it was gone into, the folder that holds it
-- has no other name to be met
abbrev pub NoneBeside : List Level → Type 0
NoneBeside [] = ⊤
NoneBeside (outermost ∷ []) = outermost.names.names ≡ []
NoneBeside (outer ∷ next ∷ around) = NoneBeside (next ∷ around)

pub record IsInPlace (top : Pair) (c : Seen) : Type 0 where
  pub name : c.name ∷ folder_of top.target ≡ top.target
  pub levels : AreMoved top c.levels.inner c.levels.around
  pub alone : NoneBeside c.levels.around
  pub item : ItemMoved top c.item

-- What a report names lies in its place: what is placed or made is the target of a thing at or below the
-- source; no other folder is given a mode.
abbrev pub IsTargetOf : Pair → Route → Type 0
IsTargetOf top path = (source : Route) × IsMoved top source path

abbrev pub NamesTarget : Pair → Did → Type 0
NamesTarget top (common.Placed path) = IsTargetOf top path
NamesTarget top (common.Made path) = IsTargetOf top path
NamesTarget top (common.Set path) = IsTargetOf top path
NamesTarget top did = ⊤

-- A copy that is in its place stays there with each step, and what it places, makes and gives a mode is the
-- target of a thing of the source.
abbrev pub PlaceLaw : Type 0
PlaceLaw =
    (free : Route → Bool) (replies : Replies) (top : Pair) (old new : Seen) (did : Did) (calls : ℕ)
    (before after : Option CallLog) (faults faults_after : ℕ)
    → CopySteps free replies old new did calls before after faults faults_after → IsInPlace top old
    → IsInPlace top new × NamesTarget top did

-- What is calm while a tree is copied: of what stands at a path no change of its bytes or its mode waits for a sync. What the copy made is calm, but
-- for the part of a file that is at work, and a folder that was given its mode and isn't synced yet.
use Rattle.std.specs.Prelude.{◌≡◌, ◌⊎◌, ℕ, ⊤, Bool, true, false, List, [], ◌∷◌, Option, Some, None}
use Rattle.mc_text.specs.Routes.{Route}
use Rattle.tree_trait.specs.Change.{CallLog, current}
use Rattle.tree_trait.specs.CrashImages.{is_clean}
use Rattle.tree_trait.specs.FileSystem.{find}
use Rattle.tree_trait.specs.Shape.{IsTree}
use Rattle.job_answers.specs.declared.replies.Replies.{Replies}
use Rattle.job_reports.specs.declared.report.Cause.{Cause}
use Rattle.job_reports.specs.declared.report.Did.{Did}
use Rattle.copy_file.specs.Copying.{part_at}
use Rattle.copy_folders.specs.FolderCopying.{is_dirty}
use Rattle.copy_folders.specs.declared.stage.NamesState.{NamesState}
use Rattle.copy_folders.specs.declared.stage.Stage.{Stage}
use Rattle.copy_folders.specs.declared.stage.Stage.TheVariants.{Make, Fill, Close, Done}
use Rattle.copy_link.specs.LinkCopying.{has_part}
use Rattle.copy_folders.specs.declared.level.Level.{Level}
use Rattle.copy_tree.specs.declared.item.ItemAtWork.{ItemAtWork}
use Rattle.copy_tree.specs.declared.item.ItemAtWork.TheVariants.{Next, File, Link, Stays}
use Rattle.copy_tree.specs.Skipping.{Skips, retried_copy}
use Rattle.copy_tree.specs.Standing.{Seen}
use Rattle.copy_tree.specs.TreeCopySteps.{CopySteps}
use Rattle.laws_crash.specs.Guarded.{Marks}
use Rattle.laws_sessions.proofs.Knowing.{IsCalmIn, IsKept, HistoryFacts}
use Rattle.laws_sessions.proofs.Resting.{IsOfFiles}
use Rattle.laws_sessions.proofs.FoldersEnd.{EndsLast}
use Rattle.laws_sessions.proofs.CopyLaws.{CopyKnown, FoldersKnown}

-- what stands at the path is calm, or something else holds
abbrev pub IsCalmOr : Route → CallLog → Type 0 → Type 0
IsCalmOr path log Other = (i : ℕ) → find (current log) path ≡ Some i → (is_clean i log.changes ≡ true) ⊎ Other

-- a folder at its end has all of its mode, and is to be synced
abbrev pub was_set : Stage → NamesState → Bool
was_set (Close None) names = is_dirty names
was_set (Close (Some mode)) names = false
was_set (Make mode) names = false
was_set (Fill owed) names = false
was_set Done names = false

abbrev pub IsSetAt : Route → Level → Type 0
IsSetAt path l = (l.copy.target ≡ path) × (was_set l.copy.stage l.copy.names ≡ true)

-- an open folder that stands at the path is so
abbrev pub IsSetIn : Route → Level → List Level → Type 0
IsSetIn path inner [] = IsSetAt path inner
IsSetIn path inner (outer ∷ around) = IsSetAt path inner ⊎ IsSetIn path outer around

-- the part of a file, which is written
abbrev pub filled_part : ItemAtWork → Option Route
filled_part Next = None
filled_part (File f) = part_at f.stage
filled_part (Link l) = None
filled_part (Stays part) = Some part

-- of what stands at the path a change may wait
abbrev pub MayWait : Seen → Route → Type 0
MayWait c path = (filled_part c.item ≡ Some path) ⊎ IsSetIn path c.levels.inner c.levels.around

abbrev pub IsCalm : CallLog → Seen → Route → Type 0
IsCalm log c path = IsCalmOr path log (MayWait c path)

-- the part of a link is calm: it is made whole
abbrev pub PartCalm : CallLog → ItemAtWork → Type 0
PartCalm log Next = ⊤
PartCalm log (File f) = ⊤
PartCalm log (Link l) = has_part l.stage ≡ true → IsCalmOr l.part log ⊥
PartCalm log (Stays part) = ⊤

-- Where nothing stands all is calm, so it is at and below the target of a copy that begins. Each step, skip and retry keeps it of any path.
pub record CalmLaw : Type 0 where
  pub free : (log : CallLog) (c : Seen) (path : Route) → find (current log) path ≡ None → IsCalm log c path
  pub step : (free : Route → Bool) (replies : Replies) (old new : Seen) (did : Did) (calls : ℕ) (log now : CallLog) (faults faults_after : ℕ)
      → CopySteps free replies old new did calls (Some log) (Some now) faults faults_after → IsTree (current log) → IsOfFiles log → CopyKnown log old → PartCalm log old.item
      → PartCalm now new.item × ((path : Route) → IsCalm log old path → IsCalm now new path)
  pub skip : (log : CallLog) (cause : Cause) (old new : Seen) (did : Did) → Skips cause old did new → PartCalm log old.item
      → PartCalm log new.item × ((path : Route) → IsCalm log old path → IsCalm log new path)
  pub retry : (log : CallLog) (c : Seen) → PartCalm log c.item → (let again : Seen = retried_copy c in PartCalm log again.item × ((path : Route) → IsCalm log c path → IsCalm log again path))

-- So no mode waits of what lies in the folder that is worked; nor of anything that is calm, once the folder at its end that has all of its mode is synced.
pub record QuietModesLaw : Type 0 where
  pub within : (told : HistoryFacts) (dirty : List Route) (marks : Marks) (log : CallLog) (c : Seen) → IsKept told dirty marks log → FoldersKnown log c → filled_part c.item ≡ None
      → ((name : List ℕ) → IsCalm log c (name ∷ c.levels.inner.copy.target)) → IsCalmIn marks (current log) c.levels.inner.copy.target
  pub elsewhere : (told : HistoryFacts) (dirty : List Route) (marks : Marks) (log : CallLog) (c : Seen) (path : Route) (i : ℕ) → IsKept told dirty marks log → EndsLast c → (filled_part c.item ≡ Some path → ⊥)
      → was_set c.levels.inner.copy.stage c.levels.inner.copy.names ≡ false → IsCalm log c path → find (current log) path ≡ Some i → marks.modes i ≡ None

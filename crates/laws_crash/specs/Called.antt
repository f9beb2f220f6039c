-- From calls that were done to what is kept: what a job knows of its paths, and the answer, are enough.
use Rattle.std.specs.Prelude.{◌≡◌, ◌≢◌, ℕ, true, false, List, ◌∷◌, Option, Some, None, Ok}
use Rattle.mc_text.specs.Routes.{Route}
use Rattle.tree_trait.specs.FileSystem.{find}
use Rattle.tree_trait.specs.Refusals.{holder}
use Rattle.tree_trait.specs.Calls.{MakeFile, RemoveFile, Rename, SyncFolder}
use Rattle.tree_trait.specs.Change.{CallLog, current, found_node}
use Rattle.tree_trait.specs.Answers.{Performs}
use Rattle.laws_crash.specs.Possible.{MayLead}
use Rattle.laws_crash.specs.Guarded.{Marks, IsGuarded, IsSettledAt}
use Rattle.laws_crash.specs.NameKnowledge.{IsAnchored, IsUnworked, is_near}

-- a removal: the way to the path is anchored, and nothing was done there yet
abbrev pub RemovedLaw : Type 0
RemovedLaw = (marks : Marks) (log now : CallLog) (path : Route) → IsGuarded marks log
    → Performs {A = Unit {0}} log (RemoveFile path) (Ok tt) (Some now)
    → IsAnchored marks log (holder path) → IsUnworked marks log path → IsGuarded marks now

-- the making of a file, as of a part, which stands aside
abbrev pub MadeLaw : Type 0
MadeLaw = (marks : Marks) (log now : CallLog) (name : List ℕ) (up : Route) (mode : ℕ) → IsGuarded marks log
    → Performs {A = Unit {0}} log (MakeFile (name ∷ up) mode) (Ok tt) (Some now)
    → IsAnchored marks log up → marks.aside (name ∷ up) ≡ true → IsGuarded marks now

-- a part that is to be placed
pub record IsPlaceable (marks : Marks) (log : CallLog) (part target : List ℕ) (up : Route)
    (i : ℕ) : Type 0 where
  pub anchored : IsAnchored marks log up
  pub other : part ≢ target
  pub leads : find (current log) (part ∷ up) ≡ Some i
  pub is_aside : marks.aside (part ∷ up) ≡ true
  pub moves : marks.roams i ≡ true
  pub firm : marks.loose i ≡ false
  pub file : (m : List ℕ) (y : Option ℕ) → MayLead log i m y → y ≡ None
  pub unworked : marks.aside (target ∷ up) ≡ false
      → find (current log) (target ∷ up) ≡ marks.was (target ∷ up)
  pub under : IsUnworked marks log (target ∷ up)

abbrev pub PlacedLaw : Type 0
PlacedLaw = (marks : Marks) (log now : CallLog) (part target : List ℕ) (up : Route) (i : ℕ)
    → IsGuarded marks log
    → Performs {A = Unit {0}} log (Rename (part ∷ up) (target ∷ up)) (Ok tt) (Some now)
    → IsPlaceable marks log part target up i → IsGuarded marks now

-- the sync of a folder settles its names
abbrev pub FolderSyncedLaw : Type 0
FolderSyncedLaw = (marks : Marks) (log now : CallLog) (name : List ℕ) (up : Route) → IsGuarded marks log
    → Performs {A = Unit {0}} log (SyncFolder up) (Ok tt) (Some now) → IsSettledAt log up
    → is_near (found_node (current log) up) name log.changes ≡ true
    → IsGuarded marks now × IsSettledAt now (name ∷ up)

-- The order of a carrying: what was done before its source is removed.
use Rattle.std.specs.Prelude.{◌≡◌, ◌⊎◌, ℕ, Bool, true, List, [], ◌∷◌, Option}
use Rattle.mc_text.specs.Routes.{Route}
use Rattle.tree_trait.specs.Calls.{RemoveFile, SyncFolder}
use Rattle.tree_trait.specs.Change.{CallLog}
use Rattle.tree_trait.specs.Answers.{IfKnown}
use Rattle.job_reports.specs.declared.report.Cause.{Cause}
use Rattle.job_reports.specs.declared.report.Did.{Did}
use Rattle.job_reports.specs.declared.report.Did.TheVariants.{Barrier, Placed, Removed}
use Rattle.job_reports.specs.CallRuns.{AllDone}
use Rattle.job_reports.specs.Paths.{folder_of}
use Rattle.job_answers.specs.declared.replies.Replies.{Replies}
use Rattle.copy_file.specs.Copying.{Places}
use Rattle.carry_job.specs.Carryings.{Carrying, begun_carrying, carrying, taken_anew}
use Rattle.carry_job.specs.CarrySteps.{CarrySkips, CarryStep}

-- A turn of a carrying: a step, with its report, the tree before and after it and the counts of faults; a
-- skip; or a retry.
pub data Turn : Type 0 where
  Steps : (replies : Replies) (did : Did) (calls : ℕ) (before after : Option CallLog)
      (faults faults_after : ℕ) → Turn
  Skips : (cause : Cause) (did : Did) → Turn
  Retries : Turn

-- the turn leads from the one to the other
abbrev pub Turns : (Route → Bool) → Carrying → Turn → Carrying → Type 0
Turns free old (Steps replies did calls before after faults faults_after) new =
    CarryStep (λ path. free path ≡ true) replies old new did calls before after faults faults_after
Turns free old (Skips cause did) new = CarrySkips cause old did new
Turns free old Retries new = new ≡ carrying old.places (taken_anew old.stage)

-- turns, the newest first, lead from the beginning to where it stands
abbrev pub LeadTo : (Route → Bool) → Places → List Turn → Carrying → Type 0
LeadTo free p [] c = c ≡ begun_carrying p
LeadTo free p (turn ∷ older) c = (old : Carrying) × LeadTo free p older old × Turns free old turn c

-- the copy was placed at the target
abbrev pub PlacesCopy : Places → Turn → Type 0
PlacesCopy p (Steps replies did calls before after faults faults_after) = did ≡ Placed p.target
PlacesCopy p (Skips cause did) = ⊥
PlacesCopy p Retries = ⊥

abbrev pub IsPlacedIn : Places → List Turn → Type 0
IsPlacedIn p [] = ⊥
IsPlacedIn p (turn ∷ older) = PlacesCopy p turn ⊎ IsPlacedIn p older

-- the target's folder was synced
abbrev pub SyncsTarget : Places → Turn → Type 0
SyncsTarget p (Steps replies did calls before after faults faults_after) =
    (did ≡ Barrier) × IfKnown before (λ log. AllDone log (SyncFolder (folder_of p.target) ∷ []) after)
SyncsTarget p (Skips cause did) = ⊥
SyncsTarget p Retries = ⊥

-- and that was once the copy was placed there
abbrev pub IsOnDiskIn : Places → List Turn → Type 0
IsOnDiskIn p [] = ⊥
IsOnDiskIn p (turn ∷ older) = (SyncsTarget p turn × IsPlacedIn p older) ⊎ IsOnDiskIn p older

-- A step that reports a removal removes the source, and its copy was placed and the target's folder synced
-- before, whatever was refused, skipped or tried again meanwhile.
pub record RemovesLast (p : Places) (older : List Turn) (path : Route) (before after : Option CallLog)
    : Type 0 where
  pub path_is : path ≡ p.source
  pub on_disk : IsOnDiskIn p older
  pub called : IfKnown before (λ log. AllDone log (RemoveFile p.source ∷ []) after)

abbrev pub OrderLaw : Type 0
OrderLaw = (free : Route → Bool) (p : Places) (older : List Turn) (old new : Carrying) (replies : Replies)
    (path : Route) (calls : ℕ) (before after : Option CallLog) (faults faults_after : ℕ)
    → LeadTo free p older old
    → CarryStep (λ route. free route ≡ true) replies old new (Removed path) calls before after faults
    faults_after
    → RemovesLast p older path before after

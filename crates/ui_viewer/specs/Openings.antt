-- What opening a thing comes to: links lead to what lies there, which is viewed where it can be read.
use Rattle.std.specs.Prelude.{◌≡◌, ◌≢◌, ◌≤◌, ℕ, List, Option, Result, Ok, Err, IfOk}
use Rattle.mc_text.specs.Routes.{Route}
use Rattle.tree_trait.specs.declared.calls.TreeError.TheVariants as tree
use Rattle.tree_trait.specs.Change.{CallLog, current}
use Rattle.tree_trait.specs.Answers.{HasRisen, IfKnown}
use Rattle.resolving.specs.declared.error.ResolveError.TheVariants as resolve
use Rattle.resolving.specs.declared.walking.Wanted.TheVariants.{AnyThing}
use Rattle.resolving.specs.Errors.{Answers}
use Rattle.resolving.specs.Resolution.{resolved_path}
use Rattle.mc_viewer.specs.declared.subject.Subject.TheVariants.{File}
use Rattle.mc_viewer.specs.Viewing.{IsRefused}
use Rattle.ui_viewer.specs.declared.opening.Opening.{Opening}
use Rattle.ui_viewer.specs.declared.opening.Opening.TheVariants.{Viewed, NoWay, Unread}
use Rattle.ui_viewer.specs.ViewerScreens.{IsOpened}

-- the thing of a name in a folder leads to this path, along links
abbrev pub LeadsTo : Option CallLog → Route → List ℕ → Route → Type 0
LeadsTo contents folder name path =
    IfKnown contents (λ log. resolved_path (current log) AnyThing folder name ≡ Ok path)

-- what lies at a path without links is viewed, or refused as the tree refuses a reading of it
abbrev pub OpensPath : Option CallLog → Route → ℕ → ℕ → Opening → Type 0
OpensPath contents path lines columns (Viewed mode) = IsOpened contents path lines columns mode
OpensPath contents path lines columns (NoWay why) = ⊥
OpensPath contents path lines columns (Unread at why) =
    (at ≡ path) × (why ≢ tree.Memory) × IfKnown contents (λ log. IsRefused log (File path) why)

-- the same with the thing of a name in a folder; or no way leads to it, as the tree says
abbrev pub OpensThing : Option CallLog → Route → List ℕ → ℕ → ℕ → Opening → Type 0
OpensThing contents folder name lines columns (NoWay why) =
    (why ≢ resolve.Memory) × IfKnown contents (λ log.
    Answers {A = Route} (resolved_path (current log) AnyThing folder name) (Err why))
OpensThing contents folder name lines columns (Viewed mode) =
    (path : Route) × LeadsTo contents folder name path × OpensPath contents path lines columns (Viewed mode)
OpensThing contents folder name lines columns (Unread at why) =
    (path : Route) × LeadsTo contents folder name path × OpensPath contents path lines columns (Unread at why)

-- opening leaves the tree as it was, and tells a fault only where the tree's count of faults has risen
pub record ReadsToOpen {E : Type 0} (result : Result Opening E) (before after : Option CallLog)
    (faults faults_after : ℕ) : Type 0 where
  pub same : after ≡ before
  pub later : faults ≤ faults_after
  pub way_fault : IfOk result (λ opening. opening ≡ NoWay resolve.Fault → HasRisen faults faults_after)
  pub read_fault : (at : Route)
      → IfOk result (λ opening. opening ≡ Unread at tree.Fault → HasRisen faults faults_after)

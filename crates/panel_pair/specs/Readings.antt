-- What the panels read of the tree, and what that refuses.
use Rattle.std.specs.Prelude.{◌≡◌, ℕ, ◌≤◌, ◌⊎◌, ⊤, List, [], ◌∷◌, ◌++◌, Option, Some, None, Result, Ok, Err}
use Rattle.mc_text.specs.declared.error.NoMemory.{NoMemory}
use Rattle.mc_text.specs.Routes.{Route}
use Rattle.tree_trait.specs.Change.{CallLog, current}
use Rattle.tree_trait.specs.Answers.{IfKnown, HasRisen}
use Rattle.resolving.specs.declared.error.ResolveError.{ResolveError}
use Rattle.resolving.specs.declared.error.ResolveError.TheVariants.{Fault}
use Rattle.resolving.specs.declared.walking.Wanted.TheVariants.{FolderAlone}
use Rattle.resolving.specs.Errors.{Answers}
use Rattle.resolving.specs.Resolution.{resolved_path}
use Rattle.panel_state.specs.Readings.{ListsFolder}
use Rattle.panel_state.specs.Rereadings.{refusal_in}
use Rattle.panel_pair.specs.declared.looking.Reread.{Reread}

-- a refusal has its cause in the tree: that of listing a folder, or of the folder that a text leads to
abbrev pub HasReadCause : CallLog → ResolveError → Type 0
HasReadCause log e =
    ((folder : Route) × ListsFolder log folder (Err e))
    ⊎ ((from : Route)
    × ((typed : List ℕ) × Answers (resolved_path (current log) FolderAlone from typed) (Err e)))

-- something holds of each
abbrev pub Each : {A : Type 0} → (A → Type 0) → List A → Type 0
Each P [] = ⊤
Each P (x ∷ xs) = P x × Each P xs

-- What was read left the tree as it was. Each refusal has its cause there, and tells of a fault only where
-- the tree's count has risen.
pub record ReadsTree (refused : List ResolveError) (before after : Option CallLog)
    (faults faults_after : ℕ) : Type 0 where
  pub same : after ≡ before
  pub later : faults ≤ faults_after
  pub causes : IfKnown before (λ log. Each (HasReadCause log) refused)
  pub fault : Each (λ e. e ≡ Fault → HasRisen faults faults_after) refused

-- what was refused, if anything was
abbrev pub refused_in : {A : Type 0} → Result A ResolveError → List ResolveError
refused_in (Ok x) = []
refused_in (Err e) = e ∷ []

abbrev pub list_of_error : Option ResolveError → List ResolveError
list_of_error None = []
list_of_error (Some e) = e ∷ []

-- what was refused to a look at both panels, the left one first
abbrev pub refused_looks : Result Reread NoMemory → List ResolveError
refused_looks (Ok reread) = list_of_error (refusal_in reread.left) ++ list_of_error (refusal_in reread.right)
refused_looks (Err e) = []

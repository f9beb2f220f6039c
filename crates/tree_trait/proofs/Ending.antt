-- What the trace has after a call.
use Rattle.std.proofs.Common.{◌≡◌, ℕ, List, refl, ap, inl, inr, ◌⊎◌, Option, Some, Err}
use Rattle.tree_trait.specs.declared.file_system.FileSystem.{FileSystem}
use Rattle.tree_trait.specs.declared.calls.TreeError.{TreeError}
use Rattle.tree_trait.specs.declared.calls.TreeError.TheVariants.{Fault, Memory}
use Rattle.tree_trait.specs.Calls.{Call}
use Rattle.tree_trait.specs.Change.{CallLog, Nothing, current, torn_write, with_change}
use Rattle.tree_trait.specs.Answers.{Performs}

-- the trace is as it was, or has one call more that changed nothing
pub record IsQuiet (t : CallLog) (new : Option CallLog) : Type 0 where
  pub after : CallLog
  pub tells : new ≡ Some after
  pub how : (after ≡ t) ⊎ (after ≡ with_change t Nothing)

-- a call that was refused changed nothing, unless it is a write
pub Performs-err : (A : Type 0) (t : CallLog) (call : Call) (new : Option CallLog) → ((s : FileSystem) (left : List ℕ) → torn_write s call left ≡ Nothing)
    → (e : TreeError) → Performs {A = A} t call (Err e) new → IsQuiet t new
Performs-err A t call new calm Fault h = record { after = _; tells = h.1.1; how = inr (ap (with_change t) (calm (current t) h.1.0)) }
Performs-err A t call new calm Memory h = record { after = _; tells = h; how = inl refl }
Performs-err A t call new calm e h = record { after = _; tells = h.1; how = inr refl }

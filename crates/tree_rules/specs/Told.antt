-- What a reading call tells of a file system.
use Rattle.std.specs.Prelude.{◌≡◌, Some, None, Result, Ok, Err, ⊤}
use Rattle.tree_trait.specs.declared.file_system.FileSystem.{FileSystem}
use Rattle.tree_trait.specs.declared.calls.TreeError.{TreeError}
use Rattle.tree_trait.specs.declared.calls.TreeError.TheVariants.{Memory}
use Rattle.tree_trait.specs.Calls.{Call}
use Rattle.tree_trait.specs.Refusals.{refusal_of}

-- a reading call answers the check that fails, or what P says, or finds no memory
abbrev pub IsTold : {A : Type 0} → FileSystem → Call → Result A TreeError → (A → Type 0) → Type 0
IsTold s call (Ok x) P = (refusal_of s call ≡ None) × P x
IsTold s call (Err Memory) P = ⊤
IsTold s call (Err e) P = refusal_of s call ≡ Some e

-- A call that was refused leaves the log as it was, or with a change that names nothing.
use Rattle.std.proofs.Common.{◌≡◌, ◌⊎◌, ℕ, List, refl, ap, ◌∙◌, inl, inr, Some, None, Err}
use Rattle.tree_trait.specs.declared.calls.TreeError.{TreeError}
use Rattle.tree_trait.specs.declared.calls.TreeError.TheVariants.{Fault, Memory}
use Rattle.tree_trait.specs.declared.file_system.FileSystem.{FileSystem}
use Rattle.tree_trait.specs.Answers.{Performs}
use Rattle.tree_trait.specs.Calls.{Call, Stat, ListFolder, ReadAt, ReadLink, MakeFile, WriteAt, SetMode, MakeFolder, MakeLink, Rename, RemoveFile, RemoveFolder, SyncFile, SyncFolder}
use Rattle.tree_trait.specs.Change.{Change, Nothing, CallLog, current, torn_write, with_change}
use Rattle.tree_trait.specs.CrashImages.{says}
use Rattle.laws_crash.proofs.Leading.{current_more}
use Rattle.job_reports.proofs.CallAnswers.{some_log}

-- what a fault leaves names nothing
torn_names : (s : FileSystem) (call : Call) (left : List ℕ) (n g : ℕ) (m : List ℕ) → says (torn_write s call left) n g m ≡ None
torn_names s (Stat path) left n g m = refl
torn_names s (ListFolder path) left n g m = refl
torn_names s (ReadAt path offset count) left n g m = refl
torn_names s (ReadLink path) left n g m = refl
torn_names s (MakeFile path mode) left n g m = refl
torn_names s (WriteAt path offset bytes) left n g m = refl
torn_names s (SetMode path mode) left n g m = refl
torn_names s (MakeFolder path mode) left n g m = refl
torn_names s (MakeLink path text) left n g m = refl
torn_names s (Rename from to) left n g m = refl
torn_names s (RemoveFile path) left n g m = refl
torn_names s (RemoveFolder path) left n g m = refl
torn_names s (SyncFile path) left n g m = refl
torn_names s (SyncFolder path) left n g m = refl

pub refused_change : (log now : CallLog) (call : Call) (e : TreeError) → Performs {A = Unit {0}} log call (Err e) (Some now)
    → (now ≡ log) ⊎ ((c : Change) × ((n g : ℕ) (m : List ℕ) → says c n g m ≡ None) × (now ≡ with_change log c))
refused_change log now call Fault h = inr (torn_write (current log) call h.1.0, torn_names (current log) call h.1.0, some_log now _ h.1.1)
refused_change log now call Memory h = inl (some_log now log h)
refused_change log now call e h = inr (Nothing, (λ n g m. refl), some_log now _ h.1)

-- but for a write that was torn, the tree stays as it was
pub refused_still : (log now : CallLog) (call : Call) (e : TreeError) → ((left : List ℕ) → torn_write (current log) call left ≡ Nothing) → Performs {A = Unit {0}} log call (Err e) (Some now) → current now ≡ current log
refused_still log now call Fault none h = ap current (some_log now _ h.1.1) ∙ (ap (λ c. current (with_change log c)) (none h.1.0) ∙ current_more log Nothing)
refused_still log now call Memory none h = ap current (some_log now log h)
refused_still log now call e none h = ap current (some_log now _ h.1) ∙ current_more log Nothing

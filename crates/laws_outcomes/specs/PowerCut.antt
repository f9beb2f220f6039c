-- What a power cut leaves of a session, at each moment of it.
use Rattle.std.specs.Prelude.{ℕ, ◌+◌, List, length}
use Rattle.tree_trait.specs.declared.file_system.FileSystem.{FileSystem}
use Rattle.tree_trait.specs.Change.{CallLog}
use Rattle.tree_trait.specs.CrashImages.{IsCrashImage}
use Rattle.session_entries.specs.declared.history.Entry.{Entry}
use Rattle.session_entries.specs.Entries.{IsMoment, calls_in}
use Rattle.laws_sessions.specs.Replayed.{log_prefix}
use Rattle.laws_outcomes.specs.KeepsFiles.{KeepsFiles}

-- Wherever entries ended, and whenever the power was cut later, inside a call too, the six sentences hold.
abbrev pub KeepsAll : CallLog → CallLog → List Entry → Type 0
KeepsAll opening now newest =
    (begun standing coming : List Entry) (calls : ℕ) (image : FileSystem)
    → IsMoment newest standing coming calls → IsCrashImage now (length opening.changes + calls) image
    → KeepsFiles (log_prefix opening (calls_in begun) now) begun standing coming image

-- What a crash leaves of a session, at each moment of it, inside a call too. Histories
-- stand newest first here.
use Rattle.std.specs.Prelude.{◌≡◌, ◌⊎◌, true, is_some, List}
use Rattle.mc_text.specs.Routes.{Route}
use Rattle.tree_trait.specs.declared.file_system.FileSystem.{FileSystem}
use Rattle.tree_trait.specs.FileSystem.{find, value_at}
use Rattle.tree_trait.specs.Change.{CallLog, current}
use Rattle.tree_trait.specs.CrashImages.{Among}
use Rattle.session_entries.specs.declared.history.Entry.{Entry}
use Rattle.laws_sessions.specs.Doubt.{is_unsettled}
use Rattle.laws_sessions.specs.Replayed.{earlier_tree, replayed_tree}
use Rattle.session_entries.specs.Named.{named_parts}

-- a part that an entry named, until it is gone or replaced and that is on the disk
pub record IsPart (standing : List Entry) (log : CallLog) (path : Route) : Type 0 where
  pub named : Among (named_parts standing) path
  pub stays : (is_some (find (current log) path) ≡ true) ⊎ (is_unsettled log path ≡ true)

-- What a crash leaves where these entries stand and the tree has this log: each path holds what the history
-- says. One whose last change isn't on the disk yet may hold what it held before that change. Parts may be
-- missing or hold anything.
abbrev pub IsSafe : CallLog → CallLog → List Entry → CallLog → FileSystem → Type 0
IsSafe opening now standing log image =
    (path : Route) → (IsPart standing log path → ⊥)
    → (value_at image path ≡ (replayed_tree opening now standing path).value)
    ⊎ ((is_unsettled log path ≡ true)
    × (value_at image path ≡ (earlier_tree opening now standing path).value))

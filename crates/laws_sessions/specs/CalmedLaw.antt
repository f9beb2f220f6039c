-- The law of what a job's first change leaves in doubt, in the words of the history alone. Histories
-- stand newest first here.
use Rattle.std.specs.Prelude.{◌≡◌, true, List}
use Rattle.tree_trait.specs.Shape.{IsTree}
use Rattle.tree_trait.specs.Change.{CallLog, current}
use Rattle.tree_trait.specs.CrashImages.{all_settled}
use Rattle.session_entries.specs.declared.history.Entry.{Entry}
use Rattle.laws_sessions.specs.Traces.{IsTraced, Stand}
use Rattle.laws_sessions.specs.Calmed.{CalmsOthers}

abbrev pub CalmLaw : Type 0
CalmLaw = (opening now : CallLog) (newest : List Entry) (stand : Stand)
    → IsTree (current opening) → all_settled opening.changes ≡ true → IsTraced opening newest stand now
    → CalmsOthers opening now newest

-- The law of what a crash leaves of a thing that is moved. Histories stand newest first here.
use Rattle.std.specs.Prelude.{◌≡◌, true, List}
use Rattle.tree_trait.specs.Shape.{IsTree}
use Rattle.tree_trait.specs.Change.{CallLog, current}
use Rattle.tree_trait.specs.CrashImages.{all_settled}
use Rattle.session_entries.specs.declared.history.Entry.{Entry}
use Rattle.laws_sessions.specs.Traces.{IsTraced, Stand}
use Rattle.laws_sessions.specs.Whole.{LeavesWhole}

abbrev pub WholeLaw : Type 0
WholeLaw = (opening now : CallLog) (newest : List Entry) (stand : Stand)
    → IsTree (current opening) → all_settled opening.changes ≡ true → IsTraced opening newest stand now
    → LeavesWhole opening now newest

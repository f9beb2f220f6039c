-- The laws of outcomes: of a tree whose calls the history tells, each session leaves what it promises.
-- Histories stand newest first here.
use Rattle.std.specs.Prelude.{◌≡◌, true, List}
use Rattle.tree_trait.specs.Shape.{IsTree}
use Rattle.tree_trait.specs.Change.{CallLog, current}
use Rattle.tree_trait.specs.CrashImages.{all_settled}
use Rattle.session_entries.specs.declared.history.Entry.{Entry}
use Rattle.laws_sessions.specs.Traces.{IsTraced, Stand}
use Rattle.laws_outcomes.specs.Outcomes.{IsOutcome, Leaves}
use Rattle.laws_outcomes.specs.Untouched.{LeavesAlone}
use Rattle.laws_outcomes.specs.Keeps.{LeavesKept}
use Rattle.laws_outcomes.specs.AllSources.{LeavesAll}
use Rattle.laws_outcomes.specs.Answered.{FollowsAnswers}
use Rattle.laws_outcomes.specs.PowerCut.{KeepsAll}

abbrev pub OutcomeLaw : Type 0
OutcomeLaw = (opening now : CallLog) (newest : List Entry) (stand : Stand)
    → IsTree (current opening) → all_settled opening.changes ≡ true → IsTraced opening newest stand now
    → Leaves IsOutcome opening now newest

abbrev pub UntouchedLaw : Type 0
UntouchedLaw = (opening now : CallLog) (newest : List Entry) (stand : Stand)
    → IsTree (current opening) → all_settled opening.changes ≡ true → IsTraced opening newest stand now
    → LeavesAlone opening now newest

abbrev pub KeptLaw : Type 0
KeptLaw = (opening now : CallLog) (newest : List Entry) (stand : Stand)
    → IsTree (current opening) → all_settled opening.changes ≡ true → IsTraced opening newest stand now
    → LeavesKept opening now newest

abbrev pub AllSourcesLaw : Type 0
AllSourcesLaw = (opening now : CallLog) (newest : List Entry) (stand : Stand)
    → IsTree (current opening) → all_settled opening.changes ≡ true → IsTraced opening newest stand now
    → LeavesAll opening now newest

abbrev pub AnsweredLaw : Type 0
AnsweredLaw = (opening now : CallLog) (newest : List Entry) (stand : Stand)
    → IsTree (current opening) → all_settled opening.changes ≡ true → IsTraced opening newest stand now
    → FollowsAnswers opening now newest

abbrev pub KeepsLaw : Type 0
KeepsLaw = (opening now : CallLog) (newest : List Entry) (stand : Stand)
    → IsTree (current opening) → all_settled opening.changes ≡ true → IsTraced opening newest stand now
    → KeepsAll opening now newest

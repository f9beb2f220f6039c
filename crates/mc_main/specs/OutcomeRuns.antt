-- What a run promises of jobs that are done, and of what was answered to them.
use Rattle.std.specs.Prelude.{◌≡◌, true, List}
use Rattle.tree_trait.specs.Shape.{IsTree}
use Rattle.tree_trait.specs.Change.{CallLog, current}
use Rattle.tree_trait.specs.CrashImages.{all_settled}
use Rattle.session_entries.specs.declared.history.Entry.{Entry}
use Rattle.laws_outcomes.specs.AllSources.{LeavesAll}
use Rattle.laws_outcomes.specs.Answered.{FollowsAnswers}
use Rattle.laws_outcomes.specs.Keeps.{LeavesKept}
use Rattle.laws_outcomes.specs.Outcomes.{IsOutcome, Leaves}
use Rattle.laws_outcomes.specs.Untouched.{LeavesAlone}

-- Where a job is done with one of its sources, all that it was to do with it is done, but for what it
-- passed over, and none of its reports changes what it doesn't touch for it, but for the part that its end
-- names, so that is as it was where the job began with it, but for what another job named meanwhile; where
-- it kept the file or the link at its target, or merged a folder with the one there, so is all. What it did
-- with one is still so at its end, where no later one touches what concerns that.
pub record HasOutcomes (opening now : CallLog) (newest : List Entry) : Type 0 where
  pub done : Leaves IsOutcome opening now newest
  pub alone : LeavesAlone opening now newest
  pub kept : LeavesKept opening now newest
  pub all : LeavesAll opening now newest

abbrev pub IsOutcomeRun : CallLog → CallLog → List Entry → Type 0
IsOutcomeRun opening now newest = IsTree (current opening) → all_settled opening.changes ≡ true
    → HasOutcomes opening now newest

-- What stands at the target of a copy or a move is replaced, kept or asked about only as was answered
-- before; a folder that is merged is merged whole; and one that a merge has emptied is removed only where
-- nothing lies in it, and kept only where something does.
abbrev pub IsAnsweredRun : CallLog → CallLog → List Entry → Type 0
IsAnsweredRun opening now newest = IsTree (current opening) → all_settled opening.changes ≡ true
    → FollowsAnswers opening now newest

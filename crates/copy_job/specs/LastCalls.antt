-- What a last step says of the tree's calls, where this part stands, if one does.
use Rattle.std.specs.Prelude.{◌≡◌, ◌⊎◌, [], ◌∷◌, Option, Some, None, Err}
use Rattle.mc_text.specs.Routes.{Route}
use Rattle.tree_trait.specs.declared.calls.TreeError.{TreeError}
use Rattle.tree_trait.specs.Calls.{RemoveFile, SyncFolder}
use Rattle.tree_trait.specs.Change.{CallLog}
use Rattle.tree_trait.specs.Answers.{Performs}
use Rattle.job_reports.specs.declared.report.Did.{Did}
use Rattle.job_reports.specs.declared.report.Did.TheVariants.{Barrier, Cleaned, Ended}
use Rattle.job_reports.specs.CallRuns.{AllDone}
use Rattle.job_reports.specs.Stops.{sync_answer}

-- no part stands, or its removal was refused: in an earlier last step, or in this one
abbrev pub LeavesPart : Option Route → CallLog → CallLog → Type 0
LeavesPart part log mid = (mid ≡ log) ⊎ ((path : Route) × (e : TreeError) × (part ≡ Some path)
    × Performs {A = Unit {0}} log (RemoveFile path) (Err e) (Some mid))

-- what is told of the folder that is tried: the refusal of its sync, if that was in vain
abbrev pub TellsTried : Option Route → Did → Option TreeError → Route → CallLog → Option CallLog → Type 0
TellsTried part Barrier left folder log after =
    (mid : CallLog) × LeavesPart part log mid
    × Performs {A = Unit {0}} mid (SyncFolder folder) (sync_answer left) after
TellsTried part did left folder log after = left ≡ None

-- The part was removed; or it stays, and the sync of a folder was tried; or it stays, and all ends.
abbrev pub LastCalls : Option Route → Did → CallLog → Option CallLog → Type 0
LastCalls part (Cleaned path) log after = AllDone log (RemoveFile path ∷ []) after
LastCalls part Barrier log after =
    (folder : Route) × (left : Option TreeError) × TellsTried part Barrier left folder log after
LastCalls part (Ended ending stays) log after = (mid : CallLog) × LeavesPart part log mid × (after ≡ Some mid)
LastCalls part did log after = ⊥

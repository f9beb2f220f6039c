-- The setting of a mode as the work of a job: what a last step may report, and what that says of the tree's
-- calls. Its steps are said in SettingSteps.
use Rattle.std.specs.Prelude.{◌≡◌, false, Option, Some, None}
use Rattle.tree_trait.specs.declared.calls.TreeError.{TreeError}
use Rattle.tree_trait.specs.Change.{CallLog}
use Rattle.job_reports.specs.declared.report.Ending.{Ending}
use Rattle.job_reports.specs.declared.report.Did.{Did}
use Rattle.job_reports.specs.declared.report.Did.TheVariants.{Barrier, Ended}
use Rattle.mode_job.specs.declared.setting.Stage.{Stage}
use Rattle.mode_job.specs.declared.setting.Stage.TheVariants.{Give, Sync, Done}
use Rattle.mode_job.specs.Settings.{Setting, is_dirty}
use Rattle.mode_job.specs.SettingSteps.{TellsTried}

-- where a setting stands once the thing was synced
abbrev pub after_sync : Stage → Stage
after_sync Give = Give
after_sync Sync = Done
after_sync Done = Done

-- What a last step may report: a sync that is owed is tried once, and the job ends as it was ordered.
abbrev pub Winds : Ending → Setting → Did → Setting → Type 0
Winds ending s Barrier new = (s.stage ≡ Sync) × (new ≡ record s { stage = Done })
Winds ending s (Ended how part) new = (is_dirty s.stage ≡ false) × (how ≡ ending) × (part ≡ None) × (new ≡ s)
Winds ending s did new = ⊥

-- What a last step says of the tree's calls: the sync was tried, whatever it or the look before it answered.
abbrev pub LastSettingCalls : Setting → Did → CallLog → Option CallLog → Type 0
LastSettingCalls s Barrier log after = (left : Option TreeError) × TellsTried s.path left log after
LastSettingCalls s (Ended ending part) log after = after ≡ Some log
LastSettingCalls s did log after = ⊥

-- what a last step tells of the thing: the refusal of its sync, or of the look before it,
-- if that was tried in vain
abbrev pub SettingLeaves : Setting → Did → Option TreeError → CallLog → Option CallLog → Type 0
SettingLeaves s Barrier left log after = TellsTried s.path left log after
SettingLeaves s did left log after = left ≡ None

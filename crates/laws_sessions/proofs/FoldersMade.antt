-- A folder that the copy makes is what the history says of it.
use Rattle.std.specs.Prelude.{◌≡◌, ℕ, Bool, Some}
use Rattle.mc_text.specs.Routes.{Route}
use Rattle.tree_trait.specs.Change.{CallLog, current}
use Rattle.tree_trait.specs.FileSystem.{View, value_at}
use Rattle.tree_trait.specs.Shape.{IsTree}
use Rattle.job_answers.specs.declared.replies.Replies.{Replies}
use Rattle.job_reports.specs.Jobs.{Copies}
use Rattle.job_reports.specs.declared.job.Pair.{Pair}
use Rattle.job_reports.specs.declared.report.Did.TheVariants.{Made}
use Rattle.copy_tree.specs.InPlace.{IsInPlace}
use Rattle.copy_tree.specs.Standing.{Seen}
use Rattle.copy_tree.specs.TreeCopySteps.{CopySteps}
use Rattle.laws_sessions.specs.Replayed.{made_by}
use Rattle.laws_sessions.proofs.Resting.{IsOfFiles}
use Rattle.laws_sessions.proofs.CopyLaws.{CopyKnown}

-- Where a view shows the tree before the step, the new folder has what the history makes of that.
abbrev pub MadeLaw : Type 0
MadeLaw =
    (free : Route → Bool) (replies : Replies) (top : Pair) (old new : Seen) (path : Route) (calls : ℕ) (log now : CallLog) (faults faults_after : ℕ) (v : View)
    → CopySteps free replies old new (Made path) calls (Some log) (Some now) faults faults_after → IsTree (current log) → IsOfFiles log → CopyKnown log old → IsInPlace top old
    → ((p : Route) → value_at (current log) p ≡ (v p).value) → value_at (current now) path ≡ Some (made_by (Some (Copies top.source top.target)) path v)

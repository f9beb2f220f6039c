-- Which reports tell of a fault of the device that their step met.
use Rattle.std.specs.Prelude.{◌≡◌}
use Rattle.tree_trait.specs.declared.calls.TreeError.TheVariants as refused
use Rattle.job_reports.specs.declared.report.Cause.{Cause}
use Rattle.job_reports.specs.declared.report.Cause.TheVariants.{Tree}
use Rattle.job_reports.specs.declared.report.Did.{Did}
use Rattle.job_reports.specs.declared.report.Did.TheVariants.{Began, Chunk, Placed, Removed, Made}
use Rattle.job_reports.specs.declared.report.Did.TheVariants.{Set, Kept, Skipped, Cleaned, Barrier}
use Rattle.job_reports.specs.declared.report.Did.TheVariants.{Asked, Merges, Moved, Troubled, Ended}
use Rattle.copy_move.specs.declared.run.Course.{Course}
use Rattle.copy_move.specs.declared.run.Course.TheVariants.{GoesOn, Asking, InTrouble}
use Rattle.copy_move.specs.declared.run.Course.TheVariants.{OwedSyncFailed, Skips, Ends}

-- a job that goes on passes over something in the step that meets a fault; one that was told
-- to skip it met that before
abbrev pub PassesFault : Course → Cause → Type 0
PassesFault GoesOn cause = cause ≡ Tree refused.Fault
PassesFault (InTrouble halt) cause = ⊥
PassesFault (OwedSyncFailed why) cause = ⊥
PassesFault Asking cause = ⊥
PassesFault (Skips why) cause = ⊥
PassesFault (Ends ending) cause = ⊥

-- the report of a job that goes so
abbrev pub MeetsFault : Course → Did → Type 0
MeetsFault course (Troubled trouble) = trouble.cause ≡ Tree refused.Fault
MeetsFault course (Skipped path cause) = PassesFault course cause
MeetsFault course (Began part) = ⊥
MeetsFault course (Chunk count) = ⊥
MeetsFault course (Set path) = ⊥
MeetsFault course (Placed path) = ⊥
MeetsFault course (Removed path) = ⊥
MeetsFault course (Made path) = ⊥
MeetsFault course (Kept path) = ⊥
MeetsFault course (Cleaned part) = ⊥
MeetsFault course Barrier = ⊥
MeetsFault course (Asked question) = ⊥
MeetsFault course (Merges transfer pair names) = ⊥
MeetsFault course (Moved pair) = ⊥
MeetsFault course (Ended ending part) = ⊥

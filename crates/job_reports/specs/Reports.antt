-- What is seen of a report, and of an answer.
use Rattle.std.specs.Prelude.{◌≡◌, Bool, true, false}
use Rattle.tree_trait.specs.declared.calls.TreeError.TheVariants as refused
use Rattle.job_reports.specs.declared.answer.Answer.{Answer}
use Rattle.job_reports.specs.declared.answer.Answer.TheVariants.{Yes, No, All, Update, Nothing}
use Rattle.job_reports.specs.declared.answer.Answer.TheVariants.{SizeDiffers, Retry, Skip, SkipAll, Abort}
use Rattle.job_reports.specs.declared.report.Cause.TheVariants.{Tree}
use Rattle.job_reports.specs.declared.report.Did.{Did}
use Rattle.job_reports.specs.declared.report.Did.TheVariants.{Began, Chunk, Placed, Removed, Made}
use Rattle.job_reports.specs.declared.report.Did.TheVariants.{Set, Kept, Skipped, Cleaned, Barrier}
use Rattle.job_reports.specs.declared.report.Did.TheVariants.{Asked, Merges, Moved, Troubled, Ended}

-- the report is that of an end
abbrev pub ends : Did → Bool
ends (Ended ending part) = true
ends (Began part) = false
ends (Chunk count) = false
ends (Set path) = false
ends (Placed path) = false
ends (Removed path) = false
ends (Made made) = false
ends (Kept kept) = false
ends (Skipped path cause) = false
ends (Cleaned part) = false
ends Barrier = false
ends (Asked question) = false
ends (Merges transfer pair names) = false
ends (Moved pair) = false
ends (Troubled trouble) = false

-- the report says that the device failed
abbrev pub IsFault : Did → Type 0
IsFault (Troubled trouble) = trouble.cause ≡ Tree refused.Fault
IsFault did = ⊥

-- the report tells of a fault: as a trouble, or as why a thing was passed over
abbrev pub TellsFault : Did → Type 0
TellsFault (Troubled trouble) = trouble.cause ≡ Tree refused.Fault
TellsFault (Skipped path cause) = cause ≡ Tree refused.Fault
TellsFault did = ⊥

-- these pass over what is in trouble
abbrev pub passes_over : Answer → Bool
passes_over Skip = true
passes_over SkipAll = true
passes_over Yes = false
passes_over No = false
passes_over All = false
passes_over Update = false
passes_over Nothing = false
passes_over SizeDiffers = false
passes_over Retry = false
passes_over Abort = false

-- The reports of a tree's copy.
use Rattle.std.specs.Prelude.{◌≡◌, ⊤, Bool, true, false}
use Rattle.job_reports.specs.declared.report.Trouble.{Trouble}
use Rattle.job_reports.specs.declared.report.Did.TheVariants as common
use Rattle.copy_folders.specs.declared.stage.FolderDid.{FolderDid}
use Rattle.copy_folders.specs.declared.stage.FolderDid.TheVariants as folder
use Rattle.job_reports.specs.declared.report.Did.{Did}
use Rattle.job_reports.specs.declared.report.StepResult.{StepResult}

-- a trouble before any call that changes the tree
abbrev pub stopped_by : Trouble → StepResult
stopped_by trouble = record { did = common.Troubled trouble; calls = 0 }

-- What was done at a folder itself is told so. That nothing is owed is no report.
abbrev pub IsToldAs : FolderDid → Did → Type 0
IsToldAs (folder.Made path) did = did ≡ common.Made path
IsToldAs (folder.Set path) did = did ≡ common.Set path
IsToldAs folder.Barrier did = did ≡ common.Barrier
IsToldAs folder.Closed did = ⊥
IsToldAs (folder.Troubled trouble) did = did ≡ common.Troubled trouble

-- something is to be reported
abbrev pub IsReport : FolderDid → Type 0
IsReport (folder.Made path) = ⊤
IsReport (folder.Set path) = ⊤
IsReport folder.Barrier = ⊤
IsReport folder.Closed = ⊥
IsReport (folder.Troubled trouble) = ⊤

-- it changed the tree
abbrev pub changes : Did → Bool
changes (common.Troubled trouble) = false
changes (common.Skipped path cause) = false
changes (common.Kept path) = false
changes (common.Asked question) = false
changes (common.Merges transfer pair names) = false
changes (common.Ended ending part) = false
changes (common.Began part) = true
changes (common.Chunk count) = true
changes (common.Placed path) = true
changes (common.Removed path) = true
changes (common.Made path) = true
changes (common.Moved pair) = true
changes (common.Set path) = true
changes (common.Cleaned part) = true
changes common.Barrier = true

-- Troubles that are passed over without a question.
use Rattle.std.specs.Prelude.{◌≡◌, ◌⊎◌, Some, None}
use Rattle.job_answers.specs.Skipping.{passed_cause}
use Rattle.job_answers.specs.declared.skips.Skips.{Skips}
use Rattle.job_reports.specs.declared.report.Cause.{Cause}
use Rattle.job_reports.specs.declared.report.StepResult.{StepResult}
use Rattle.copy_tree.specs.Skipping as machine
use Rattle.copy_tree.specs.Standing.{Seen}

-- What was worked is reported; or it is in a trouble of a kind that is skipped, and is
-- passed over in the same step.
abbrev pub OrPassedOver : Skips → StepResult → Seen → Seen → StepResult → Type 0
OrPassedOver skips worked old new result =
    ((passed_cause skips worked.did ≡ None) × (result ≡ worked) × (new ≡ old))
    ⊎ ((cause : Cause) × (passed_cause skips worked.did ≡ Some cause) × (result.calls ≡ worked.calls)
    × machine.Skips cause old result.did new)

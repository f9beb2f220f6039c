-- Those so far.
use Rattle.std.proofs.Common.{◌≡◌, map, take}
use Rattle.ui_job_list.specs.JobLines.{job_line}
use Rattle.ui_job_list.proofs.painting.job_lines.Given as goal

abbrev pub invariant-loop-row : goal.invariant-loop-row
invariant-loop-row l = l.lines.items ≡ map job_line (take l.row-index l.rows)

-- Those that are made stand behind those that are left.
use Rattle.std.proofs.Common.{◌≡◌, ◌++◌, true, length}
use Rattle.std.specs.Prelude.{map}
use Rattle.std.specs.List.{list_all}
use Rattle.job_reports.specs.Jobs.{is_workable}
use Rattle.job_sources.specs.Turning.{move_source}
use Rattle.job_sources.proofs.sources.of_moves.Given as goal

abbrev pub invariant-loop-pair : goal.invariant-loop-pair
invariant-loop-pair l =
    (map move_source l.left ++ l.sources ≡ map move_source l.fn.pairs)
    × (list_all is_workable (map move_source l.left) ≡ true)

abbrev pub decreases-loop-pair : goal.decreases-loop-pair
decreases-loop-pair l = length l.left

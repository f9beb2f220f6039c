-- Those that are made stand behind those that are left.
use Rattle.std.proofs.Common.{◌≡◌, ◌++◌, true, length}
use Rattle.std.specs.Prelude.{map}
use Rattle.std.specs.List.{list_all}
use Rattle.job_reports.specs.Jobs.{is_workable}
use Rattle.job_sources.specs.Turning.{path_source}
use Rattle.job_sources.proofs.sources.of_paths.Given as goal

abbrev pub invariant-loop-path : goal.invariant-loop-path
invariant-loop-path l =
    (map (path_source l.fn.mode) l.left ++ l.sources ≡ map (path_source l.fn.mode) l.fn.paths)
    × (list_all is_workable (map (path_source l.fn.mode) l.left) ≡ true)

abbrev pub decreases-loop-path : goal.decreases-loop-path
decreases-loop-path l = length l.left

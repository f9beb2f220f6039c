-- What the pairs of a sound job are, one beside the others.
use Rattle.std.specs.Prelude.{Bool, true, ◌&&◌, not, List, [], ◌∷◌}
use Rattle.std.specs.List.{list_all}
use Rattle.job_reports.specs.declared.job.Pair.{Pair}
use Rattle.op_plan.specs.Meeting.{meet}

-- two pairs have nothing in common
abbrev pub are_apart : Pair → Pair → Bool
are_apart a b = not (meet a.source b.source) && (not (meet a.target b.target) && (not (meet a.source b.target) && not (meet a.target b.source)))

abbrev pub all_apart : List Pair → Bool
all_apart [] = true
all_apart (pair ∷ pairs) = not (meet pair.source pair.target) && (list_all (are_apart pair) pairs && all_apart pairs)

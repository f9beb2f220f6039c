-- What is drawn and what the clusters left will add make up the drawn text.
use Rattle.std.proofs.Common.{◌≡◌, ◌++◌, map, string_bytes}
use Rattle.std.specs.List.{concat}
use Rattle.unicode_segmentation.specs.Iter.{graphemes_left}
use Rattle.mc_text.specs.Drawn.{drawn_cluster, drawn_text}
use Rattle.mc_text.proofs.drawing.drawn.Given as goal

abbrev pub invariant-loop-cluster : goal.invariant-loop-cluster
invariant-loop-cluster l =
    (goal.iterator-loop-cluster).can_next l.cluster-iterator ×
    (goal.iterator-loop-cluster).is_finite l.cluster-iterator ×
    (string_bytes l.line ++ concat (map drawn_cluster (graphemes_left l.cluster-iterator)) ≡ drawn_text l.text)

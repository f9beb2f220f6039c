-- the clusters that are left, read from here on, give the whole
use Rattle.std.proofs.Common.{◌≡◌, ◌+◌, length, true}
use Rattle.std.specs.List.{concat}
use Rattle.unicode_segmentation.specs.Grapheme.{graphemes}
use Rattle.unicode_segmentation.specs.Iter.{graphemes_left}
use Rattle.key_screen.specs.Terminal.{clusters_read}
use Rattle.key_screen.proofs.terminal.Terminal.read_clusters.Given as goal

abbrev pub invariant-loop-cluster : goal.invariant-loop-cluster
invariant-loop-cluster l =
    (goal.iterator-loop-cluster).can_next l.cluster-iterator ×
    (goal.iterator-loop-cluster).is_finite l.cluster-iterator ×
    (l.at + length (concat (graphemes_left l.cluster-iterator)) ≡ l.position + length l.text) ×
    (clusters_read l.self l.at (graphemes_left l.cluster-iterator) ≡ clusters_read l.initial.self l.position (graphemes true l.text))

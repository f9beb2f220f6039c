-- What is shown, and what the clusters that are left will add, is what the row shows there.
use Rattle.std.proofs.Common.{◌≡◌, ◌+◌, ◌*◌, ◌≤◌, ◌++◌, length, string_bytes}
use Rattle.std.specs.List.{concat}
use Rattle.unicode_segmentation.specs.Iter.{graphemes_left}
use Rattle.ui_editor.specs.EditorFrames.{clusters_within, shown_within}
use Rattle.ui_editor.proofs.marking.shown_within.Given as goal

abbrev pub invariant-loop-cluster : goal.invariant-loop-cluster
invariant-loop-cluster l =
    (goal.iterator-loop-cluster).can_next l.cluster-iterator ×
    (goal.iterator-loop-cluster).is_finite l.cluster-iterator ×
    (string_bytes l.shown ++ clusters_within l.from l.to l.column (graphemes_left l.cluster-iterator) ≡ shown_within l.from l.to l.text) ×
    (l.column + 2 * length (concat (graphemes_left l.cluster-iterator)) ≤ 2 * length l.text)

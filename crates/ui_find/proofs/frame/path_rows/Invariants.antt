-- Those so far.
use Rattle.std.proofs.Common.{◌≡◌, map, take}
use Rattle.ui_words.specs.PathLines.{path_line}
use Rattle.ui_find.proofs.frame.path_rows.Given as goal

abbrev pub invariant-loop-path : goal.invariant-loop-path
invariant-loop-path l = l.rows.items ≡ map (path_line l.columns) (take l.path-index l.paths)

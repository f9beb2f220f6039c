-- the rows so far, and those to come
use Rattle.std.proofs.Common.{◌≡◌, ◌++◌, map, drop}
use Rattle.ui_editor.specs.EditorFrames.{page_row}
use Rattle.ui_editor.proofs.frame.page_rows.Given as goal

abbrev pub invariant-loop-text : goal.invariant-loop-text
invariant-loop-text l = l.rows.items ++ map page_row (drop l.text-index l.texts) ≡ map page_row l.texts

-- the glyphs that are left, put from here on, give the whole
use Rattle.std.proofs.Common.{◌≡◌, ◌+◌, ◌≤◌, length}
use Rattle.key_screen.specs.DrawnText.{put_glyphs}
use Rattle.key_screen.proofs.grid.put_all.Given as goal

abbrev pub invariant-loop-glyph : goal.invariant-loop-glyph
invariant-loop-glyph l =
    (goal.iterator-loop-glyph).can_next l.glyph-iterator ×
    (goal.iterator-loop-glyph).is_finite l.glyph-iterator ×
    (l.at + l.room ≤ length l.cells) ×
    (put_glyphs l.cells l.at l.room l.glyph-iterator.rest.items l.attr
    ≡ put_glyphs l.fn.cells l.fn.at l.fn.room l.fn.glyphs.items l.fn.attr)

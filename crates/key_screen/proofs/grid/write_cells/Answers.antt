-- what has no room needs not be drawn
use Rattle.std.proofs.Common.{◌∙◌, ap, sym, arith, map, true}
use Rattle.std.proofs.lemmas.List.{take-map}
use Rattle.unicode_segmentation.specs.Grapheme.{graphemes}
use Rattle.key_screen.specs.DrawnText.{drawn_glyph, put_glyphs}
use Rattle.key_screen.proofs.DrawnLemmas.{put_glyphs-take}
use Rattle.key_screen.proofs.grid.write_cells.Goals as goal

pub returns-clause-done : goal.returns-clause-done
returns-clause-done c =
    c.put_all.ensures
    ∙ ap (λ glyphs. put_glyphs c.args.cells.now c.args.at c.args.room glyphs c.args.attr)
    (c.in_ok-glyphs.ensures ∙ sym (take-map drawn_glyph c.args.room (graphemes true c.args.text.now)))
    ∙ put_glyphs-take c.args.room c.args.cells.now c.args.at c.args.room (map drawn_glyph (graphemes true c.args.text.now)) c.args.attr (omega arith)

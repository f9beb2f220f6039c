-- The row so far from that which holds the place is the top.
use Rattle.std.proofs.Common.{ap, sym, ◌∙◌}
use Rattle.mc_viewer.specs.declared.way.Way.{Way}
use Rattle.mc_viewer.specs.Viewing.{held_bytes}
use Rattle.mc_viewer.specs.Rows.{all_rows}
use Rattle.mc_viewer.specs.Ways.{row_along}
use Rattle.mc_viewer.proofs.WayLemmas.{led}
use Rattle.mc_viewer.proofs.moves.to_row.Goals as goal

pub returns-in-Nowhere-clause-shown : goal.returns-in-Nowhere-clause-shown
returns-in-Nowhere-clause-shown g c = λ bytes known.
    let size_is = c.in_ok-size.ensures.shown bytes known in
    let sized = ap (λ t. held_bytes t c.args.subject.now) c.in_ok-size.ensures.same ∙ known in
    let placed = ap (λ t. held_bytes t c.args.subject.now) c.in_ok-byte.ensures.same ∙ sized in
    let found = ap (λ t. held_bytes t c.args.subject.now) c.in_ok-from.ensures.same ∙ placed in
    let layout = c.layout_of-layout.result in
    let along = ap (λ (way : Way). row_along way (all_rows layout.shape layout.columns bytes) c.in_ok-from.from) (sym c.in-Nowhere.is) in
    led bytes c.args.state c.with_top.result c.args.start c.args.way layout c.in_ok-byte.byte c.in_ok-from.from c.in_ok-from.from
    c.layout_of-layout.ensures (c.in_ok-byte.ensures.shown bytes sized (sym size_is)) (c.in_ok-from.ensures.shown bytes placed (sym size_is))
    (along) c.with_top.ensures

pub returns-in_ok-row-in-Down-clause-shown : goal.returns-in_ok-row-in-Down-clause-shown
returns-in_ok-row-in-Down-clause-shown g c = λ bytes known.
    let size_is = c.in_ok-size.ensures.shown bytes known in
    let sized = ap (λ t. held_bytes t c.args.subject.now) c.in_ok-size.ensures.same ∙ known in
    let placed = ap (λ t. held_bytes t c.args.subject.now) c.in_ok-byte.ensures.same ∙ sized in
    let found = ap (λ t. held_bytes t c.args.subject.now) c.in_ok-from.ensures.same ∙ placed in
    let layout = c.layout_of-layout.result in
    let along = ap (λ (way : Way). row_along way (all_rows layout.shape layout.columns bytes) c.in_ok-from.from) (sym c.in-Down.is) in
    led bytes c.args.state c.with_top-in-Down.result c.args.start c.args.way layout c.in_ok-byte.byte c.in_ok-from.from c.in_ok-row-in-Down.row
    c.layout_of-layout.ensures (c.in_ok-byte.ensures.shown bytes sized (sym size_is)) (c.in_ok-from.ensures.shown bytes placed (sym size_is))
    (c.in_ok-row-in-Down.ensures.shown bytes found (sym size_is) (c.in_ok-from.ensures.row bytes placed (sym size_is)) ∙ along) c.with_top-in-Down.ensures

pub returns-in_ok-row-in-Up-clause-shown : goal.returns-in_ok-row-in-Up-clause-shown
returns-in_ok-row-in-Up-clause-shown g c = λ bytes known.
    let size_is = c.in_ok-size.ensures.shown bytes known in
    let sized = ap (λ t. held_bytes t c.args.subject.now) c.in_ok-size.ensures.same ∙ known in
    let placed = ap (λ t. held_bytes t c.args.subject.now) c.in_ok-byte.ensures.same ∙ sized in
    let found = ap (λ t. held_bytes t c.args.subject.now) c.in_ok-from.ensures.same ∙ placed in
    let layout = c.layout_of-layout.result in
    let along = ap (λ (way : Way). row_along way (all_rows layout.shape layout.columns bytes) c.in_ok-from.from) (sym c.in-Up.is) in
    led bytes c.args.state c.with_top-in-Up.result c.args.start c.args.way layout c.in_ok-byte.byte c.in_ok-from.from c.in_ok-row-in-Up.row
    c.layout_of-layout.ensures (c.in_ok-byte.ensures.shown bytes sized (sym size_is)) (c.in_ok-from.ensures.shown bytes placed (sym size_is))
    (c.in_ok-row-in-Up.ensures.shown bytes found (sym size_is) ∙ along) c.with_top-in-Up.ensures

use Rattle.std.proofs.Common.{◌≡◌, ◌+◌, ◌∷◌, drop, ap, sym, ◌∙◌, arith}
use Rattle.std.proofs.lemmas.List.{drop_more}
use Rattle.screen_frame.specs.Pieces.{painted_grid}
use Rattle.screen_frame.specs.Pages.{run_pieces}
use Rattle.screen_frame.proofs.Painted.{page_next}
use Rattle.screen_frame.proofs.page.write_rows.Goals as goal

pub loop-runs-preserved : goal.loop-runs-preserved
loop-runs-preserved c =
    let here = c.loop-runs in
    let rows = c.args.rows.now in
    let runs = c.runs-item.result in
    let left : drop here.runs-index rows ≡ runs ∷ drop (here.runs-index + 1) rows =
    drop_more rows here.runs-index runs c.loop-runs-test.true ∙ ap (λ x. x ∷ drop (here.runs-index + 1) rows) (sym c.runs-item.is) in
    let written_is : c.write_runs.new.grid ≡ painted_grid here.grid (run_pieces here.row runs) =
    c.in_ok-write_runs.ensures ∙ ap (λ r. painted_grid here.grid (run_pieces here.row r)) c.as_slice.ensures in
    record {
      row = omega (arith, here.invariant.row);
      whole = page_next here.grid c.write_runs.new.grid here.row runs _ _ left written_is ∙ here.invariant.whole;
    }
